-- `obj::face::gather`: the corners passed are good, and stand in the list as far as it goes. Assumes nothing.
use Rattle.std.proofs.Common.{◌-◌, length}
use Rattle.obj.proofs.Gather.{Gathering}
use Rattle.obj.proofs.face.gather.Given as goal

abbrev pub invariant-loop-corner : goal.invariant-loop-corner
invariant-loop-corner l = Gathering l.line l.above l.table l.numbers l.at l.i

abbrev pub decreases-loop-corner : goal.decreases-loop-corner
decreases-loop-corner l = length l.line - l.at
