-- `ring::wedge` is the cross product of two corners: their numbers are read back, and each value on the way fits. Assumes nothing.
use mir.Facts.{to_z-of_z}
use Rattle.footprint.proofs.Steps.{reread, wedge_steps}
use Rattle.footprint.proofs.ring.wedge.Goals as goal

pub overflow_sub-result : goal.overflow_sub-result
overflow_sub-result c =
    let p = c.args in
    let s = wedge_steps p.a p.b in
    rw (reread p.a.x_within, reread p.a.y_within, reread p.b.x_within, reread p.b.y_within) (rw (to_z-of_z s.first, to_z-of_z s.second) s.all)

pub returns : goal.returns
returns c =
    let p = c.args in
    let s = wedge_steps p.a p.b in
    rw (reread p.a.x_within, reread p.a.y_within, reread p.b.x_within, reread p.b.y_within) (rw (to_z-of_z s.first, to_z-of_z s.second) (to_z-of_z s.all))
