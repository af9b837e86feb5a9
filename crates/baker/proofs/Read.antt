-- What a C caller reads from what each call gives, by the macros and by `told`, is that call's answer. Assumes nothing.
use Rattle.std.specs.Prelude.{None, Some, Result, Ok, Err}
use mathlib.Core.Bool.{Bool, true, false, cond}
use mathlib.Core.List.{List}
use Prim.Native.Nat.{ℕ, suc, ◌*◌, ◌≤◌, ◌<◌, ◌^◌}
use native.Mathlib.Omega.{arith}
use lib.Dec.{leb}
use lib.IntN.{ℤ}
use lib.ListN.{length, take}
use lib.Ieee.{Float}
use Rattle.whole.specs.Front.{fronted}
use Rattle.rules.specs.Reach.{Run, Piece}
use Rattle.rules.specs.Ring.{Pt}
use Rattle.rules.specs.Refusal.{refuse, Check, Passes}
use Rattle.rules.specs.Good.{run_checks, piece_checks}
use Rattle.rules.proofs.Checks.{passes_left, passes_right}
use Rattle.refusal.specs.declared.Refusal as declared
use Rattle.refusal.specs.Said.{said, Checked, Finds, Writes}
use Rattle.good.specs.Numbers.{run_of, piece_of}
use Rattle.piece.specs.declared.spot.Spot.TheVariants.{On, Inside, Outside}
use Rattle.piece.specs.Place.{Placed, Lies}
use Rattle.piece.specs.Tells.{Verdict, Tells}
use Rattle.piece.proofs.Tells.{tells_code}
use Rattle.seal.specs.Seal.{block_at}
use Rattle.block.specs.Layout.{header_block, run_numbers, run_block}
use Rattle.block.specs.Reading.{HeaderRead, RunRead, header_asked, run_asked, HeaderSays, RunSays}
use Rattle.piece_block.specs.declared.PieceRead.{PieceRead}
use Rattle.piece_block.specs.Layout.{piece_numbers, piece_block}
use Rattle.piece_block.specs.Reading.{piece_asked, PieceGood, PieceSays}
use Rattle.grid.specs.declared.Taken.{Taken}
use Rattle.grid.specs.declared.Taken.TheVariants.{Grid, OffGrid, NotNumber, Beyond}
use Rattle.grid.specs.Number.{Answer}
use Rattle.line.specs.Text.{lines}
use Rattle.obj.specs.File.{obj_checks, Outline, ObjSays}
use Rattle.obj.proofs.Bounds.{face_few}
use Rattle.room.specs.declared.Step.{Step}
use Rattle.room.specs.Image.{Counted, room_said, room_checks}
use Rattle.room.specs.Step.{Found, StepSays, StepFinds}
use Rattle.room.specs.Verdicts.{VerdictsSay, verdicts_checks}
use Rattle.room.proofs.Images.{few_pieces}
use Rattle.book.specs.declared.Asked.{Asked}
use Rattle.book.specs.declared.Asked.TheVariants as asked
use Rattle.book.specs.Ask.{AskSays}
use Rattle.coding.specs.Coded.{value, checked_means, placed_means, verdict_means, header_means, counted_means, asked_means, outline_means, out}
use Rattle.coding.specs.Told.{Within, Reads}
use Rattle.coding.proofs.Readable.{read_back, read_beside}
use Rattle.coding.proofs.Arise.{AllFit, fit_run, fit_piece, fit_place, fit_verdict, fit_ask, fit_header, fit_run_block, fit_piece_block}
use Rattle.coding.proofs.Arise.{fit_header_asked, fit_run_asked, fit_piece_asked, fit_verdicts, fit_step, fit_obj, fit_short}
use Rattle.baker.specs.Listed.{kept, listed, run_listed, piece_found, piece_listed, step_found, step_listed}
use Rattle.baker.specs.Export.{taken_one, export_checks, Exported}
use Rattle.baker.specs.Calls.{CheckRunGives, CheckPieceGives, PlaceGives, VerdictGives, WriteHeaderGives, WriteRunGives, WritePieceGives, ReadHeaderGives}
use Rattle.baker.specs.Calls.{ReadRunGives, ReadPieceGives, RoomPieceGives, RoomVerdictsGives, AskGives, TakeGives, IntakeGives, ObjGives}
use Rattle.baker.proofs.Listed.{read_few}
use Rattle.baker.proofs.Arise.{fit_export}

-- ---- every answer is within its bits
module _ (cs : List Check) (fit : AllFit cs) where
  finds : (x : Checked) → Finds cs x → Within (checked_means x)
  finds (Ok _) h = omega arith
  finds (Err x) h = fit.fits (said x) h

  writes : {A : Type 0} (made before after : A) (x : Checked) → Writes cs made before after x → Within (checked_means x)
  writes made before after (Ok _) h = omega arith
  writes made before after (Err x) h = fit.fits (said x) h.0

lies : (p : Pt) (l : List ℤ) (x : Placed) → Lies p l x → Within (placed_means x)
lies p l (Ok Outside) h = omega arith
lies p l (Ok Inside) h = omega arith
lies p l (Ok On) h = omega arith
lies p l (Err x) h = (fit_place p l).fits (said x) h

tells : (r : Run) (k : Piece) (x : Verdict) → Tells r k x → Within (verdict_means x)
tells r k (Ok None) h = omega arith
tells r k (Ok (Some m)) h = let w = tells_code r k (Ok (Some m)) h in omega (arith, w.most)
tells r k (Err x) h = (fit_verdict r k).fits (said x) h

heads : (l : List ℕ) (x : HeaderRead) → HeaderSays l x → Within (header_means x)
heads l (Ok n) h = let f = h.0 in omega arith
heads l (Err x) h = (fit_header l).fits (said x) h

counts : (r : Run) (image before after : List ℕ) (x : Counted) → VerdictsSay r image before after x → Within (counted_means x)
unfolding verdicts_checks
counts r image before after (Ok n) h =
    let p = passes_left (room_checks image) _ (passes_right (run_checks r) _ h.passes) in
    omega (arith, few_pieces image p, h.pieces)
counts r image before after (Err x) h = (fit_verdicts r image before).fits (room_said x) h.0

asks : (book after : List ℕ) (r : Run) (k : Piece) (x : Result Asked declared.Refusal) → AskSays book after r k x → Within (asked_means x)
asks book after r k (Ok (asked.Remembered c)) h = omega (arith, h.hit.fits)
asks book after r k (Ok (asked.Worked c)) h = omega (arith, h.small)
asks book after r k (Err x) h = (fit_ask book r k).fits (said x) h.0

short_file : (file : List ℕ) (k : List ℤ → Piece) (size : ℕ) → Passes (obj_checks file k size) → length file ≤ 65536
unfolding obj_checks
short_file file k size p = p.0

draws : (file : List ℕ) (k : List ℤ → Piece) (before after : List ℤ) (x : Outline) → ObjSays file k before after x → Within (outline_means x)
draws file k before after (Ok n) h =
    omega (arith, h.count, face_few file (length (lines file)) h.points h.face, short_file file k (length before) h.passes)
draws file k before after (Err x) h = (fit_obj file k (length before)).fits (said x) h.0

-- ---- and so are those beside a lent list
lists : (least : ℕ) (before : List ℤ) (n : ℕ) (l : List ℤ) → n < 2 ^ 32 → Within (listed least before n l).says
lists least before n l h = by_length (leb least (length before))
  where
    by_length : (b : Bool) → Within (cond b (out (value n) (fronted l before)) (kept before (refuse 10 0 0))).says
    by_length true = h
    by_length false = fit_short

runs : (l : List ℕ) (before : List ℤ) (x : RunRead) → RunSays l x → Within (run_listed before x).says
runs l before (Ok r) h = lists 7 before 0 (run_numbers (run_of r)) (omega arith)
runs l before (Err x) h = (fit_run_block l).fits (said x) h

founds : (l : List ℕ) (before : List ℤ) (r : PieceRead) → PieceGood l r → Within (piece_found before r).says
founds l before r f =
    let m = read_few l r f in let corners = take (2 * r.count) r.corners in
    lists 133 before r.count (piece_numbers (piece_of r.slab corners)) (omega arith)

pieces : (l : List ℕ) (before : List ℤ) (x : Result PieceRead declared.Refusal) → PieceSays l x → Within (piece_listed before x).says
pieces l before (Ok r) h = founds l before r h
pieces l before (Err x) h = (fit_piece_block l).fits (said x) h

steps : (image : List ℕ) (place : ℕ) (before : List ℤ) (s : Step) → StepSays image place s → Within (step_listed before s).says
steps image place before s h = by_case s.found h
  where
    by_case : (x : Found) → StepFinds image place s x → Within (step_found before x).says
    by_case (Ok (Some p)) g = founds (block_at image (suc place)) before p g.good
    by_case (Ok None) g = omega arith
    by_case (Err x) g = fit_step image place (room_said x) g.fault

takes : (x : Float) (g : ℤ) (f : Float) (t : Taken) → Answer x t → Within (taken_one g f t).says
takes x g f (Grid k) h = omega arith
takes x g f (OffGrid w) h = omega arith
takes x g f NotNumber h = omega arith
takes x g f Beyond h = omega arith

-- ---- plain numbers
pub check_run_read : (r : Run) (c : ℕ) (h : CheckRunGives r c) → Reads c (checked_means h.answer)
check_run_read r c = read_back (Finds (run_checks r)) checked_means (finds (run_checks r) (fit_run r))

pub check_piece_read : (k : Piece) (c : ℕ) (h : CheckPieceGives k c) → Reads c (checked_means h.answer)
check_piece_read k c = read_back (Finds (piece_checks k)) checked_means (finds (piece_checks k) (fit_piece k))

pub place_read : (p : Pt) (l : List ℤ) (c : ℕ) (h : PlaceGives p l c) → Reads c (placed_means h.answer)
place_read p l c = read_back (Lies p l) placed_means (lies p l)

pub verdict_read : (r : Run) (k : Piece) (c : ℕ) (h : VerdictGives r k c) → Reads c (verdict_means h.answer)
verdict_read r k c = read_back (Tells r k) verdict_means (tells r k)

-- ---- blocks
pub write_header_read : (n : ℕ) (before after : List ℕ) (c : ℕ) (h : WriteHeaderGives n before after c) → Reads c (checked_means h.answer)
write_header_read n before after c =
    read_back _ checked_means (writes (header_asked before n) (fit_header_asked before n) (header_block n) before after)

pub write_run_read : (r : Run) (before after : List ℕ) (c : ℕ) (h : WriteRunGives r before after c) → Reads c (checked_means h.answer)
write_run_read r before after c =
    read_back _ checked_means (writes (run_asked before r) (fit_run_asked before r) (run_block r) before after)

pub write_piece_read : (k : Piece) (before after : List ℕ) (c : ℕ) (h : WritePieceGives k before after c) → Reads c (checked_means h.answer)
write_piece_read k before after c =
    read_back _ checked_means (writes (piece_asked before k) (fit_piece_asked before k) (piece_block k) before after)

pub read_header_read : (l : List ℕ) (c : ℕ) (h : ReadHeaderGives l c) → Reads c (header_means h.answer)
read_header_read l c = read_back (HeaderSays l) header_means (heads l)

pub read_run_read : (l : List ℕ) (before after : List ℤ) (c : ℕ) (h : ReadRunGives l before after c) → Reads c (run_listed before h.answer).says
read_run_read l before after c = read_beside (RunSays l) (run_listed before) (runs l before)

pub read_piece_read : (l : List ℕ) (before after : List ℤ) (c : ℕ) (h : ReadPieceGives l before after c) → Reads c (piece_listed before h.answer).says
read_piece_read l before after c = read_beside (PieceSays l) (piece_listed before) (pieces l before)

-- ---- rooms and the book
pub room_piece_read : (image : List ℕ) (place : ℕ) (before after : List ℤ) (c : ℕ) (h : RoomPieceGives image place before after c) → Reads c (step_listed before h.answer).says
room_piece_read image place before after c = read_beside (StepSays image place) (step_listed before) (steps image place before)

pub room_verdicts_read : (r : Run) (image before after : List ℕ) (c : ℕ) (h : RoomVerdictsGives r image before after c) → Reads c (counted_means h.answer)
room_verdicts_read r image before after c = read_back (VerdictsSay r image before after) counted_means (counts r image before after)

pub ask_read : (r : Run) (k : Piece) (before after : List ℕ) (c : ℕ) (h : AskGives r k before after c) → Reads c (asked_means h.answer)
ask_read r k before after c = read_back (AskSays before after r k) asked_means (asks before after r k)

-- ---- exported numbers, and files
pub take_read : (x : Float) (g h : ℤ) (f e : Float) (c : ℕ) (t : TakeGives x g f h e c) → Reads c (taken_one g f t.answer).says
take_read x g h f e c = read_beside (Answer x) (taken_one g f) (takes x g f)

pub intake_read : (xs : List Float) (before after : List ℤ) (c : ℕ) (h : IntakeGives xs before after c) → Reads c (checked_means h.answer)
intake_read xs before after c =
    read_back (Exported xs before after) checked_means (λ x h. finds (export_checks xs (length before)) (fit_export xs (length before)) x h.finds)

pub obj_read : (file : List ℕ) (k : List ℤ → Piece) (before after : List ℤ) (c : ℕ) (h : ObjGives file k before after c) → Reads c (outline_means h.answer)
obj_read file k before after c = read_back (ObjSays file k before after) outline_means (draws file k before after)
