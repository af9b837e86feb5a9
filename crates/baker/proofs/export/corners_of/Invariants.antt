-- `baker::export::corners_of` meets its contract: the first i corners stand in their places. Assumes nothing.
use Rattle.std.proofs.Common.{◌≡◌, length}
use Rattle.baker.specs.Export.{Paired}
use Rattle.baker.proofs.export.corners_of.Given as goal

abbrev pub invariant-loop-i : goal.invariant-loop-i
invariant-loop-i l = record { paired : Paired l.numbers l.i l.corners; whole : length l.corners ≡ 64 }
