-- `Point::times` is times: both products fit, so that they are read back. Assumes nothing.
use Rattle.piece.specs.Seen.{pt_of}
use Rattle.piece.proofs.Steps.{times_far, times_back}
use Rattle.piece.proofs.point.Point.times.Goals as goal

pub invariant_of-result : goal.invariant_of-result
invariant_of-result c = record { far = times_far c.args.d (pt_of c.args.self) c.requires.0 c.requires.1 }

pub returns : goal.returns
returns c = times_back c.args.d (pt_of c.args.self) c.requires.0 c.requires.1
