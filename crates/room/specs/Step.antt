-- A reader, and a step of it: what it finds depends on the image and the place alone. Assumes nothing.
use Rattle.std.specs.Prelude.{◌≡◌, List, [], ◌∷◌, ℕ, suc, ◌≤◌, ◌<◌, Option, Some, None, Result, Ok, Err}
use Rattle.std.specs.Borrow.{Bor}
use Rattle.rules.specs.Reach as reach
use Rattle.rules.specs.Refusal as rules
use Rattle.rules.specs.Refusal.{Passes, Fault, in_block}
use Rattle.piece_block.specs.Reading.{piece_block_checks, HoldsPiece, PieceGood}
use Rattle.piece_block.specs.declared.PieceRead.{PieceRead}
use Rattle.room.specs.declared.RoomRefusal.{RoomRefusal}
use Rattle.room.specs.declared.Reader.{Reader}
use Rattle.room.specs.declared.Step.{Step}
use Rattle.seal.specs.Seal.{block_at}
use Rattle.room.specs.Image.{count, head_checks, room_said}

-- a reader keeps the lent image and its place in it
pub record ReaderAt (image : Bor (List ℕ)) (place : ℕ) (r : Reader) : Type 0 where
  pub keeps : r.image ≡ image
  pub stands : r.place ≡ place

-- the next good piece, and the place after it
pub record Gives (image : List ℕ) (place : ℕ) (p : PieceRead) (s : Step) : Type 0 where
  pub head : Passes (head_checks image)
  pub below : place < count image
  pub good : PieceGood (block_at image (suc place)) p
  pub next : s.next ≡ suc place

-- the end, again and again
pub record Ends (image : List ℕ) (place : ℕ) (s : Step) : Type 0 where
  pub head : Passes (head_checks image)
  pub past : count image ≤ place
  pub next : s.next ≡ place

-- a fault of the length, the header or that block
pub data StepFault (image : List ℕ) (place : ℕ) (x : rules.Refusal) : Type 0 where
  head : Fault (head_checks image) x → StepFault image place x
  block : Passes (head_checks image) → place < count image → (r : rules.Refusal) → Fault (piece_block_checks (block_at image (suc place))) r → x ≡ in_block (suc place) r → StepFault image place x

-- the refusal, again and again
pub record Stops (image : List ℕ) (place : ℕ) (x : rules.Refusal) (s : Step) : Type 0 where
  pub fault : StepFault image place x
  pub next : s.next ≡ place

-- a piece, the end, or the refusal
abbrev pub Found : Type 0
Found = Result (Option PieceRead) RoomRefusal

abbrev pub StepFinds : List ℕ → ℕ → Step → Found → Type 0
StepFinds image place s (Ok (Some p)) = Gives image place p s
StepFinds image place s (Ok None) = Ends image place s
StepFinds image place s (Err r) = Stops image place (room_said r) s

abbrev pub StepSays : List ℕ → ℕ → Step → Type 0
StepSays image place s = StepFinds image place s s.found

-- a step goes on behind a piece alone
abbrev pub next_of : ℕ → Found → ℕ
next_of place (Ok (Some p)) = suc place
next_of place (Ok None) = place
next_of place (Err r) = place

-- what stands at a place: what its step finds
abbrev pub FoundAt : List ℕ → ℕ → Found → Type 0
FoundAt image place f = StepSays image place (record { found = f; next = next_of place f })

-- ---- reading on
-- steps from a place on, each at the place that the one before names as the next
abbrev pub StepsFrom : List ℕ → ℕ → List Step → Type 0
StepsFrom image place [] = Unit {0}
StepsFrom image place (s ∷ steps) = StepSays image place s × StepsFrom image s.next steps

-- a step shows a piece with these numbers
pub record Shows (k : reach.Piece) (s : Step) : Type 0 where
  pub piece : PieceRead
  pub found : s.found ≡ Ok (Some piece)
  pub holds : HoldsPiece piece k

-- the pieces in order, and then the end again and again
abbrev pub InOrder : List reach.Piece → List Step → Type 0
InOrder ks [] = Unit {0}
InOrder [] (s ∷ steps) = (s.found ≡ Ok None) × InOrder [] steps
InOrder (k ∷ ks) (s ∷ steps) = Shows k s × InOrder ks steps
