-- What a call that reads into a lent list leaves there. Assumes nothing.
use Rattle.std.specs.Prelude.{cond, List, ℕ, ◌*◌, leb, ℤ, length, take, Some, None, Result, Ok, Err}
use Rattle.whole.specs.Front.{fronted}
use Rattle.rules.specs.Refusal.{Refusal, refuse}
use Rattle.refusal.specs.declared.Refusal as declared
use Rattle.refusal.specs.Said.{said}
use Rattle.good.specs.Numbers.{run_of, piece_of}
use Rattle.block.specs.Layout.{run_numbers}
use Rattle.piece_block.specs.Layout.{piece_numbers}
use Rattle.block.specs.Reading.{RunRead}
use Rattle.piece_block.specs.declared.PieceRead.{PieceRead}
use Rattle.room.specs.Image.{room_said}
use Rattle.room.specs.Step.{Found}
use Rattle.room.specs.declared.Step.{Step}
use Rattle.coding.specs.Coded.{Meaning, value, refusal, Out, out}

-- a refusal, and the list as it was
abbrev pub kept : List ℤ → Refusal → Out Meaning (List ℤ)
kept before s = out (refusal s) before

-- numbers before what stands past them; a list that is shorter than it must be is refused with 10
abbrev pub listed : ℕ → List ℤ → ℕ → List ℤ → Out Meaning (List ℤ)
listed least before n l = cond (leb least (length before)) (out (value n) (fronted l before)) (kept before (refuse 10 0 0))

-- x, y, z, the velocity and T
abbrev pub run_listed : List ℤ → RunRead → Out Meaning (List ℤ)
run_listed before (Ok r) = listed 7 before 0 (run_numbers (run_of r))
run_listed before (Err x) = kept before (said x)

-- the corner count; bottom, top, the velocity and the corners
abbrev pub piece_found : List ℤ → PieceRead → Out Meaning (List ℤ)
piece_found before r = listed 133 before r.count (piece_numbers (piece_of r.slab (take (2 * r.count) r.corners)))

abbrev pub piece_listed : List ℤ → Result PieceRead declared.Refusal → Out Meaning (List ℤ)
piece_listed before (Ok r) = piece_found before r
piece_listed before (Err x) = kept before (said x)

-- a step of a reader: a piece that was read; 0 for the end, which needs no list
abbrev pub step_found : List ℤ → Found → Out Meaning (List ℤ)
step_found before (Ok (Some p)) = piece_found before p
step_found before (Ok None) = out (value 0) before
step_found before (Err r) = kept before (room_said r)

abbrev pub step_listed : List ℤ → Step → Out Meaning (List ℤ)
step_listed before s = step_found before s.found
