-- `corners::Corners::after` is next: the way that the code takes round the ring. Assumes nothing.
use Rattle.footprint.proofs.Outline.{to_next}
use Rattle.footprint.proofs.corners.Corners.after.Goals as goal

pub returns-clause-next : goal.returns-clause-next
returns-clause-next c = to_next c.args.self.holds c.args.i c.around.result c.around.ensures
