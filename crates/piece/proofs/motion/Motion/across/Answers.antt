-- `Motion::across` is across: the differences and the products fit. Assumes nothing.
use mir.Syntax.{w64}
use Rattle.whole.proofs.Range.{read}
use Rattle.piece.specs.Seen.{pt_of}
use Rattle.piece.proofs.Touch.{across_steps, across_said}
use Rattle.piece.proofs.motion.Motion.across.Goals as goal

pub cross-requires : goal.cross-requires
cross-requires c = let m = c.args.self in across_steps (pt_of m.start) (pt_of m.speed) (pt_of c.args.v) m.close m.slow c.requires

pub returns : goal.returns
returns c = let m = c.args.self in read w64 c.cross.type_inv (across_said (pt_of m.start) (pt_of m.speed) (pt_of c.args.v) m.close m.slow c.requires _ c.cross.ensures)
