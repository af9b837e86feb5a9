-- What reading and writing a piece block finds: the order of refusals, and what is answered. Assumes nothing.
use Rattle.std.specs.Prelude.{◌≡◌, List, [], ◌∷◌, ◌++◌, ℕ, ◌+◌, ◌*◌, ◌-◌, ◌%◌, ◌≤◌, ℤ, pos, length, get_or, replicate, Result, Ok, Err}
use Rattle.rules.specs.Reach.{Piece}
use Rattle.rules.specs.Ring.{ring}
use Rattle.rules.specs.Refusal.{refuse, Check, Passes, Fault, demand, each}
use Rattle.rules.specs.Good.{Sized, piece_checks}
use Rattle.refusal.specs.declared.Refusal as refusal
use Rattle.refusal.specs.Said.{said, Checked, Writes}
use Rattle.good.specs.Numbers.{piece_of}
use Rattle.pair.specs.Pair.{Half, Halves, Wide}
use Rattle.seal.specs.Seal.{length_check, block_checks}
use Rattle.block.specs.Reading.{inside, piece_bytes}
use Rattle.piece_block.specs.declared.PieceRead.{PieceRead}
use Rattle.piece_block.specs.Layout.{piece_body_size, piece_numbers, piece_body, piece_block}

-- ---- reading
-- l is the block of the piece k, whose numbers two bytes hold and whose corner count is good
pub record PieceIn (l : List ℕ) (k : Piece) : Type 0 where
  pub signed : (j : ℕ) → Half (get_or (piece_numbers k) j (pos 0))
  pub sized : Sized k.corners
  pub same : l ≡ piece_block k

-- its bytes, then the piece's numbers and its shape
unfoldable pub piece_block_checks : List ℕ → List Check
piece_block_checks l = (block_checks l ++ piece_bytes l) ++ (inside (PieceIn l) piece_checks ∷ [])

-- the numbers of k stand in r, with zeros after its corners
pub record HoldsPiece (r : PieceRead) (k : Piece) : Type 0 where
  pub numbers : piece_of r.slab k.corners ≡ k
  pub count : r.count ≡ (ring k.corners).size
  pub corners : r.corners ≡ k.corners ++ replicate (128 - length k.corners) (pos 0)

-- a piece block is accepted iff it is the block of that piece, which is good
pub record PieceGood (l : List ℕ) (r : PieceRead) : Type 0 where
  pub piece : Piece
  pub good : Passes (piece_checks piece)
  pub same : l ≡ piece_block piece
  pub holds : HoldsPiece r piece

abbrev pub PieceSays : List ℕ → Result PieceRead refusal.Refusal → Type 0
PieceSays l (Ok r) = PieceGood l r
PieceSays l (Err x) = Fault (piece_block_checks l) (said x)

-- ---- writing: what is refused, and what is answered and left
-- two numbers for each corner, and at most as many as a block holds
pub record Paired (l : List ℤ) : Type 0 where
  pub even : length l % 2 ≡ 0
  pub most : length l ≤ 128

-- the bytes of a piece alone, its shape unchecked; number i of a block stands at byte 2 + 2·i
unfoldable pub piece_body_asked : List ℕ → Piece → List Check
piece_body_asked bytes k =
    demand (length bytes ≡ piece_body_size) (refuse 1 0 0)
    ∷ demand (Paired k.corners) (refuse 5 0 0)
    ∷ each (Wide (piece_numbers k)) (5 + length k.corners) (λ i. refuse 4 (2 + 2 * i) 0)
    ∷ []

abbrev pub WritePieceBodySays : Piece → List ℕ → List ℕ → Checked → Type 0
WritePieceBodySays k before after r = Writes (piece_body_asked before k) (piece_body k) before after r

-- a block holds its numbers
pub record Held (k : Piece) : Type 0 where
  pub few : length k.corners ≤ 128
  pub halves : Halves (piece_numbers k)

-- a piece in plain numbers
unfoldable pub piece_asked : List ℕ → Piece → List Check
piece_asked l k = length_check l ∷ piece_checks k

abbrev pub WritePieceSays : Piece → List ℕ → List ℕ → Checked → Type 0
WritePieceSays k before after r = Writes (piece_asked before k) (piece_block k) before after r
