-- `Motion::on_edge` is on_edge: the span on the edge's line, cut to the edge's width and then to its height. Assumes nothing.
use Rattle.decide.specs.Touch.{on_edge}
use Rattle.piece.specs.Seen.{pt_of}
use Rattle.piece.proofs.Touch.{flat_x, flat_y, within_read}
use Rattle.piece.proofs.motion.Motion.on_edge.Goals as goal

pub returns : goal.returns
unfolding on_edge
returns c =
    let m = c.args.self in
    let e = c.args.e in
    let x = flat_x (pt_of m.start) (pt_of m.speed) (pt_of e.from) (pt_of e.to) m.close m.slow e.close.0 e.close.1 in
    let y = flat_y (pt_of m.start) (pt_of m.speed) (pt_of e.from) (pt_of e.to) m.close m.slow e.close.0 e.close.1 in
    within_read _ _ _ _ y _ _ _ c.within.ensures (within_read _ _ _ _ x _ _ _ c.within-t.ensures c.on_line.ensures)
