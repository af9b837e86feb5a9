-- The loop of `checks::draw`: what was found and the area are those of the edges passed, whose corners are within reach. Assumes nothing.
use Rattle.footprint.proofs.Outline.{Passed}
use Rattle.footprint.proofs.checks.draw.Given as goal

abbrev pub invariant-loop-i : goal.invariant-loop-i
invariant-loop-i l = Passed l.corners.list.now l.corners.count l.i l.same l.fold l.area
