-- The invariant of `room::pass::codes_of`'s loop: the pieces below i have their codes. Assumes nothing.
use Rattle.std.proofs.Common.{◌≡◌, length}
use Rattle.good.specs.Numbers.{run_of}
use Rattle.room.specs.Codes.{CodesTo}
use Rattle.room.proofs.pass.codes_of.Given as goal

abbrev pub invariant-loop-i : goal.invariant-loop-i
invariant-loop-i l = CodesTo (run_of l.run) l.image l.codes l.i × (length l.codes ≡ 126)
