-- A room image: a header and then its pieces, and what reading it finds. Assumes nothing.
use Rattle.std.specs.Prelude.{◌≡◌, List, [], ◌∷◌, ◌++◌, ℕ, suc, ◌*◌, ◌<◌, length, Result, Ok, Err}
use Rattle.rules.specs.Refusal as rules
use Rattle.rules.specs.Refusal.{refuse, in_block, Check, Passes, Fault, demand}
use Rattle.rules.specs.Reach.{Pieces, Piece}
use Rattle.rules.specs.Good.{piece_checks}
use Rattle.refusal.specs.Said.{said_in}
use Rattle.seal.specs.Seal.{block_size, byte, Blocks, block_at}
use Rattle.block.specs.Layout.{header_block}
use Rattle.piece_block.specs.Layout.{piece_block}
use Rattle.block.specs.Reading.{header_checks}
use Rattle.piece_block.specs.Reading.{piece_block_checks}
use Rattle.refusal.specs.declared.Refusal.{Refusal}
use Rattle.room.specs.declared.RoomRefusal.{RoomRefusal}

-- the piece count that the header says
abbrev pub count : List ℕ → ℕ
count image = byte image 5

-- a multiple of 512, from 512 to 65,024
abbrev pub Whole : List ℕ → Type 0
Whole image = Blocks block_size 65024 image

-- length, header, length against count
unfoldable pub head_checks : List ℕ → List Check
head_checks image =
    demand (Whole image) (refuse 1 0 0)
    ∷ (header_checks (block_at image 0) ++ (demand (length image ≡ block_size * suc (count image)) (refuse 1 0 0) ∷ []))

-- they pass, and so many pieces are said
pub record HeadGood (image : List ℕ) (n : ℕ) : Type 0 where
  pub passes : Passes (head_checks image)
  pub pieces : n ≡ count image

-- what a refusal of a room says
abbrev pub room_said : RoomRefusal → rules.Refusal
room_said r = said_in r.refusal r.block

-- a refusal of no piece
abbrev pub Unblocked : Refusal → RoomRefusal → Type 0
Unblocked x r = r ≡ record { refusal = x; block = 0 }

-- what was found in block n, and a refusal as one of that block
abbrev pub ToldIn : {A : Type 0} → ℕ → Result A Refusal → Result A RoomRefusal → Type 0
ToldIn n found (Ok a) = found ≡ Ok a
ToldIn n found (Err r) = (found ≡ Err r.refusal) × (r.block ≡ n)

-- the piece count, or the refusal
abbrev pub Counted : Type 0
Counted = Result ℕ RoomRefusal

-- the piece count where they pass, otherwise the fault
abbrev pub HeadSays : List ℕ → Counted → Type 0
HeadSays image (Ok n) = HeadGood image n
HeadSays image (Err r) = Fault (head_checks image) (room_said r)

-- the head is good and has a piece i
pub record Has (image : List ℕ) (i : ℕ) : Type 0 where
  pub head : Passes (head_checks image)
  pub below : i < count image

-- s is the refusal of the first of n pieces whose block does not pass these checks
pub record FirstRefused (checks : List ℕ → List Check) (image : List ℕ) (n : ℕ) (s : rules.Refusal) : Type 0 where
  pub piece : ℕ
  pub below : piece < n
  pub before : (j : ℕ) → j < piece → Passes (checks (block_at image (suc j)))
  pub refusal : rules.Refusal
  pub fault : Fault (checks (block_at image (suc piece))) refusal
  pub same : s ≡ in_block (suc piece) refusal

-- piece by piece
abbrev pub pieces_check : (List ℕ → List Check) → List ℕ → Check
pieces_check checks image = record {
  passes = (i : ℕ) → i < count image → Passes (checks (block_at image (suc i)));
  fails = FirstRefused checks image (count image);
}

unfoldable pub room_checks : List ℕ → List Check
room_checks image = head_checks image ++ (pieces_check piece_block_checks image ∷ [])

-- ---- the image of pieces
-- every one of them is good
abbrev pub AllGood : List Piece → Type 0
AllGood [] = Unit {0}
AllGood (k ∷ ks) = Passes (piece_checks k) × AllGood ks

-- the blocks that are made of them, one after the other
abbrev pub blocks_of : (Piece → List ℕ) → List Piece → List ℕ
blocks_of made [] = []
blocks_of made (k ∷ ks) = made k ++ blocks_of made ks

-- the header of so many pieces and then their blocks
abbrev pub image_of : List Piece → List ℕ
image_of ks = header_block (length ks) ++ blocks_of piece_block ks

-- a room can have them: they are good, and at most 126
pub record Furnishes (ks : List Piece) : Type 0 where
  pub good : AllGood ks
  pub few : Pieces (length ks)
