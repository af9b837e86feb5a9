-- Before corner i those before it are taken, and stand in the numbers. Assumes nothing.
use Rattle.std.proofs.Common.{◌≡◌, length}
use Rattle.intake.specs.Footprint.{HoldsCorners}
use Rattle.intake.proofs.gather.Given as goal

abbrev pub invariant-loop-i : goal.invariant-loop-i
invariant-loop-i l = HoldsCorners l.corners l.i l.numbers × (length l.numbers ≡ 128)
