-- `Motion::swing` is swing: the differences and the products fit. Assumes nothing.
use mir.Syntax.{w64}
use Rattle.whole.proofs.Range.{read}
use Rattle.piece.specs.Seen.{pt_of}
use Rattle.piece.proofs.Touch.{swing_steps, swing_said}
use Rattle.piece.proofs.motion.Motion.swing.Goals as goal

pub cross-requires : goal.cross-requires
cross-requires c =
    let m = c.args.self in
    let e = c.args.e in
    swing_steps (pt_of m.start) (pt_of m.speed) (pt_of e.from) (pt_of e.to) m.close m.slow e.close.0 e.close.1

pub returns : goal.returns
returns c =
    let m = c.args.self in
    let e = c.args.e in
    read w64 c.cross.type_inv (swing_said (pt_of m.start) (pt_of m.speed) (pt_of e.from) (pt_of e.to) m.close m.slow e.close.0 e.close.1 _ c.cross.ensures)
