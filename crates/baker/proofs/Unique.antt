-- Two outcomes of a call that both meet its contract are equal: the number that comes back, and what was lent. Assumes nothing.
use Rattle.std.specs.Prelude.{Ok, Err}
use mathlib.Core.Path.{◌≡◌, sym, ap, subst, ◌∙◌}
use mathlib.Core.List.{List}
use Prim.Native.Nat.{ℕ, ◌/◌, ◌%◌}
use lib.IntN.{ℤ}
use lib.ListN.{length}
use lib.Ieee.{Float}
use Rattle.rules.specs.Reach.{Run, Piece}
use Rattle.rules.specs.Refusal.{refuse}
use Rattle.rules.specs.Ring.{Pt}
use Rattle.rules.specs.Good.{run_checks, piece_checks}
use Rattle.rules.proofs.Checks.{AllDefinite, definite_demand}
use Rattle.refusal.specs.Said.{Finds, Writes, Checked}
use Rattle.refusal.proofs.Unique.{finds_one}
use Rattle.good.specs.declared.Run as plain
use Rattle.good.specs.declared.Slab.{Slab}
use Rattle.piece.specs.Place.{Lies}
use Rattle.piece.specs.Tells.{Tells}
use Rattle.piece.proofs.Unique as piece
use Rattle.good.proofs.Unique as good
use Rattle.piece.proofs.Tells.{one_told}
use Rattle.block.specs.Layout.{header_block, run_block}
use Rattle.piece_block.specs.Layout.{piece_block}
use Rattle.block.specs.Reading.{header_asked, run_asked, HeaderSays, RunSays}
use Rattle.piece_block.specs.Reading.{piece_asked, PieceSays}
use Rattle.block.proofs.Unique as block
use Rattle.piece_block.proofs.Unique as piece_block
use Rattle.grid.specs.Number.{Answer}
use Rattle.grid.proofs.Once.{one_answer}
use Rattle.intake.proofs.Once.{one_intake, definite_intake}
use Rattle.obj.specs.File.{ObjSays}
use Rattle.obj.proofs.Unique as obj
use Rattle.room.specs.Step.{StepSays}
use Rattle.room.specs.Verdicts.{VerdictsSay}
use Rattle.room.proofs.Unique as room
use Rattle.book.specs.Ask.{AskSays}
use Rattle.book.proofs.Unique as book
use Rattle.coding.specs.Coded.{checked_code, placed_code, verdict_code, header_code, counted_code, asked_code, outline_code}
use Rattle.coding.proofs.Codes.{coded_one, coded_lent, coded_beside}
use Rattle.baker.specs.Listed.{run_listed, piece_listed, step_listed}
use Rattle.baker.specs.Export.{Lent, lent, taken_one, corners, export_checks, Exported}
use Rattle.baker.specs.Calls.{CheckRunGives, CheckPieceGives, PlaceGives, VerdictGives, WriteHeaderGives, WriteRunGives, WritePieceGives, ReadHeaderGives}
use Rattle.baker.specs.Calls.{ReadRunGives, ReadPieceGives, RoomPieceGives, RoomVerdictsGives, AskGives, TakeGives, IntakeGives, ObjGives}

-- ---- plain numbers
-- the numbers of a run and of a piece, as a crate below takes them
abbrev numbers : Run → plain.Run
numbers r = record { x = r.start.x; y = r.start.y; z = r.start.z; vx = r.speed.x; vy = r.speed.y; vz = r.speed.z; ticks = r.ticks }

abbrev slab : Piece → Slab
slab k = record { bottom = k.bottom; top = k.top; vx = k.speed.x; vy = k.speed.y; vz = k.speed.z }

pub check_run_one : (r : Run) (c d : ℕ) → CheckRunGives r c → CheckRunGives r d → c ≡ d
check_run_one r c d = coded_one (Finds (run_checks r)) checked_code c d (good.check_run_one (numbers r))

pub check_piece_one : (k : Piece) (c d : ℕ) → CheckPieceGives k c → CheckPieceGives k d → c ≡ d
check_piece_one k c d = coded_one (Finds (piece_checks k)) checked_code c d (good.check_piece_one (slab k) k.corners)

pub place_one : (p : Pt) (l : List ℤ) (c d : ℕ) → PlaceGives p l c → PlaceGives p l d → c ≡ d
place_one p l c d = coded_one (Lies p l) placed_code c d (piece.place_one p l)

pub verdict_one : (r : Run) (k : Piece) (c d : ℕ) → VerdictGives r k c → VerdictGives r k d → c ≡ d
verdict_one r k c d = coded_one (Tells r k) verdict_code c d (one_told r k)

-- ---- blocks
pub write_header_one : (n : ℕ) (before a b : List ℕ) (c d : ℕ) → WriteHeaderGives n before a c → WriteHeaderGives n before b d → (c ≡ d) × (a ≡ b)
write_header_one n before a b c d = coded_lent (Writes (header_asked before n) (header_block n) before) checked_code a b c d (block.write_header_one n before a b)

pub write_run_one : (r : Run) (before a b : List ℕ) (c d : ℕ) → WriteRunGives r before a c → WriteRunGives r before b d → (c ≡ d) × (a ≡ b)
write_run_one r before a b c d = coded_lent (Writes (run_asked before r) (run_block r) before) checked_code a b c d (block.write_run_one (numbers r) before a b)

pub write_piece_one : (k : Piece) (before a b : List ℕ) (c d : ℕ) → WritePieceGives k before a c → WritePieceGives k before b d → (c ≡ d) × (a ≡ b)
write_piece_one k before a b c d = coded_lent (Writes (piece_asked before k) (piece_block k) before) checked_code a b c d (piece_block.write_piece_one k before a b)

pub read_header_one : (l : List ℕ) (c d : ℕ) → ReadHeaderGives l c → ReadHeaderGives l d → c ≡ d
read_header_one l c d = coded_one (HeaderSays l) header_code c d (block.read_header_one l)

pub read_run_one : (l : List ℕ) (before a b : List ℤ) (c d : ℕ) → ReadRunGives l before a c → ReadRunGives l before b d → (c ≡ d) × (a ≡ b)
read_run_one l before a b c d = coded_beside (RunSays l) (run_listed before) a b c d (block.read_run_one l)

pub read_piece_one : (l : List ℕ) (before a b : List ℤ) (c d : ℕ) → ReadPieceGives l before a c → ReadPieceGives l before b d → (c ≡ d) × (a ≡ b)
read_piece_one l before a b c d = coded_beside (PieceSays l) (piece_listed before) a b c d (piece_block.read_piece_one l)

-- ---- rooms and the book
pub room_piece_one : (image : List ℕ) (place : ℕ) (before a b : List ℤ) (c d : ℕ) → RoomPieceGives image place before a c → RoomPieceGives image place before b d → (c ≡ d) × (a ≡ b)
room_piece_one image place before a b c d = coded_beside (StepSays image place) (step_listed before) a b c d (room.step_one image place)

pub room_verdicts_one : (r : Run) (image before a b : List ℕ) (c d : ℕ) → RoomVerdictsGives r image before a c → RoomVerdictsGives r image before b d → (c ≡ d) × (a ≡ b)
room_verdicts_one r image before a b c d = coded_lent (VerdictsSay r image before) counted_code a b c d (room.verdicts_one r image before a b)

pub ask_one : (r : Run) (k : Piece) (before a b : List ℕ) (c d : ℕ) → AskGives r k before a c → AskGives r k before b d → (c ≡ d) × (a ≡ b)
ask_one r k before a b c d = coded_lent (λ l. AskSays before l r k) asked_code a b c d (λ x y h g. (book.one_answer before a b r k x y h g, book.one_book before a b r k x y h g))

-- ---- exported numbers
pub take_one : (x : Float) (g h i : ℤ) (u v w : Float) (c d : ℕ) → TakeGives x g u h v c → TakeGives x g u i w d → (c ≡ d) × (h ≡ i) × (v ≡ w)
take_one x g h i u v w c d m n =
    let e = coded_beside (Answer x) (taken_one g u) (lent h v) (lent i w) c d (one_answer x) m n in
    (e.0, ap (λ (l : Lent). l.grid) e.1, ap (λ (l : Lent). l.floor) e.1)

definite_export : (xs : List Float) (size : ℕ) → AllDefinite (export_checks xs size)
unfolding export_checks
definite_export xs size = (definite_demand (length xs % 2 ≡ 0) (refuse 5 0 0), definite_intake (corners xs) (length xs / 2) size)

-- a list that was filled is filled in one way
later_one : (xs : List Float) (before a b : List ℤ) (r : Checked) → Exported xs before a r → Exported xs before b r → a ≡ b
unfolding export_checks
later_one xs before a b (Err x) h k = h.list ∙ sym k.list
later_one xs before a b (Ok tt) h k =
    (one_intake (corners xs) (length xs / 2) before a b (Ok _) (Ok _) (record { finds = h.finds.1; list = h.list }) (record { finds = k.finds.1; list = k.list })).1

exported_one : (xs : List Float) (before a b : List ℤ) (r s : Checked) → Exported xs before a r → Exported xs before b s → (r ≡ s) × (a ≡ b)
exported_one xs before a b r s h k =
    let e = finds_one (export_checks xs (length before)) (definite_export xs (length before)) r s h.finds k.finds in
    (e, later_one xs before a b s (subst (λ (q : Checked). Exported xs before a q) e h) k)

pub intake_one : (xs : List Float) (before a b : List ℤ) (c d : ℕ) → IntakeGives xs before a c → IntakeGives xs before b d → (c ≡ d) × (a ≡ b)
intake_one xs before a b c d = coded_lent (Exported xs before) checked_code a b c d (exported_one xs before a b)

-- ---- a footprint from a file
pub obj_one : (file : List ℕ) (k : List ℤ → Piece) (before a b : List ℤ) (c d : ℕ) → ObjGives file k before a c → ObjGives file k before b d → (c ≡ d) × (a ≡ b)
obj_one file k before a b c d = coded_lent (ObjSays file k before) outline_code a b c d (obj.obj_one file k before a b)
