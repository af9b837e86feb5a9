-- `line::read_face`: the words passed are corners, and `all` says whether they name vertices. Assumes nothing.
use Rattle.std.proofs.Common.{length}
use Rattle.line.specs.Text.{words}
use Rattle.line.proofs.Says.{Left}
use Rattle.line.proofs.read_face.Given as goal

abbrev pub invariant-loop-w : goal.invariant-loop-w
invariant-loop-w l = Left l.above (words l.line) (words l.rest) l.all

abbrev pub decreases-loop-w : goal.decreases-loop-w
decreases-loop-w l = length l.rest
