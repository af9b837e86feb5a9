-- What each call of the library promises of the number that comes back and of what was lent. Assumes nothing.
use Rattle.std.specs.Prelude.{List, ℕ, ℤ, Float}
use Rattle.rules.specs.Reach.{Run, Piece}
use Rattle.rules.specs.Ring.{Pt}
use Rattle.rules.specs.Good.{run_checks, piece_checks}
use Rattle.refusal.specs.Said.{Finds}
use Rattle.piece.specs.Place.{Lies}
use Rattle.piece.specs.Tells.{Tells}
use Rattle.block.specs.Reading.{WriteHeaderSays, WriteRunSays, HeaderSays, RunSays}
use Rattle.piece_block.specs.Reading.{WritePieceSays, PieceSays}
use Rattle.grid.specs.Number.{Answer}
use Rattle.obj.specs.File.{ObjSays}
use Rattle.room.specs.Step.{StepSays}
use Rattle.room.specs.Verdicts.{VerdictsSay}
use Rattle.book.specs.Ask.{AskSays}
use Rattle.coding.specs.Coded.{Coded, checked_code, placed_code, verdict_code, header_code, counted_code, asked_code, outline_code, out, coded}
use Rattle.baker.specs.Listed.{run_listed, piece_listed, step_listed}
use Rattle.baker.specs.Export.{lent, taken_one, Exported}

-- ---- plain numbers
abbrev pub CheckRunGives : Run → ℕ → Type 0
CheckRunGives r c = Coded (Finds (run_checks r)) checked_code c

abbrev pub CheckPieceGives : Piece → ℕ → Type 0
CheckPieceGives k c = Coded (Finds (piece_checks k)) checked_code c

abbrev pub PlaceGives : Pt → List ℤ → ℕ → Type 0
PlaceGives p l c = Coded (Lies p l) placed_code c

abbrev pub VerdictGives : Run → Piece → ℕ → Type 0
VerdictGives r k c = Coded (Tells r k) verdict_code c

-- ---- blocks, before and after
abbrev pub WriteHeaderGives : ℕ → List ℕ → List ℕ → ℕ → Type 0
WriteHeaderGives n before after c = Coded (WriteHeaderSays n before after) checked_code c

abbrev pub WriteRunGives : Run → List ℕ → List ℕ → ℕ → Type 0
WriteRunGives r before after c = Coded (WriteRunSays r before after) checked_code c

abbrev pub WritePieceGives : Piece → List ℕ → List ℕ → ℕ → Type 0
WritePieceGives k before after c = Coded (WritePieceSays k before after) checked_code c

abbrev pub ReadHeaderGives : List ℕ → ℕ → Type 0
ReadHeaderGives l c = Coded (HeaderSays l) header_code c

-- and the lent list, before and after
abbrev pub ReadRunGives : List ℕ → List ℤ → List ℤ → ℕ → Type 0
ReadRunGives l before after c = Coded (RunSays l) (λ r. coded (run_listed before r)) (out c after)

abbrev pub ReadPieceGives : List ℕ → List ℤ → List ℤ → ℕ → Type 0
ReadPieceGives l before after c = Coded (PieceSays l) (λ r. coded (piece_listed before r)) (out c after)

-- ---- rooms and the book
abbrev pub RoomPieceGives : List ℕ → ℕ → List ℤ → List ℤ → ℕ → Type 0
RoomPieceGives image place before after c = Coded (StepSays image place) (λ s. coded (step_listed before s)) (out c after)

abbrev pub RoomVerdictsGives : Run → List ℕ → List ℕ → List ℕ → ℕ → Type 0
RoomVerdictsGives r image before after c = Coded (VerdictsSay r image before after) counted_code c

abbrev pub AskGives : Run → Piece → List ℕ → List ℕ → ℕ → Type 0
AskGives r k before after c = Coded (AskSays before after r k) asked_code c

-- ---- exported numbers, and files
-- the two lent numbers before, and after
abbrev pub TakeGives : Float → ℤ → Float → ℤ → Float → ℕ → Type 0
TakeGives x g f h e c = Coded (Answer x) (λ t. coded (taken_one g f t)) (out c (lent h e))

abbrev pub IntakeGives : List Float → List ℤ → List ℤ → ℕ → Type 0
IntakeGives xs before after c = Coded (Exported xs before after) checked_code c

abbrev pub ObjGives : List ℕ → (List ℤ → Piece) → List ℤ → List ℤ → ℕ → Type 0
ObjGives file k before after c = Coded (ObjSays file k before after) outline_code c
