-- `ring::turn` is the side of three corners: their numbers are read back, and each value on the way fits. Assumes nothing.
use mir.Facts.{to_z-of_z}
use Rattle.footprint.proofs.Steps.{reread, turn_steps}
use Rattle.footprint.proofs.ring.turn.Goals as goal

pub overflow_mul-result : goal.overflow_mul-result
overflow_mul-result c =
    let p = c.args in
    let s = turn_steps p.a p.b p.c in
    rw (reread p.a.x_within, reread p.a.y_within, reread p.b.x_within, reread p.c.y_within) (rw (to_z-of_z s.x_fits, to_z-of_z s.v_fits) s.first)

pub overflow_mul-result-2 : goal.overflow_mul-result-2
overflow_mul-result-2 c =
    let p = c.args in
    let s = turn_steps p.a p.b p.c in
    rw (reread p.a.x_within, reread p.a.y_within, reread p.b.y_within, reread p.c.x_within) (rw (to_z-of_z s.y_fits, to_z-of_z s.u_fits) s.second)

pub overflow_sub-result-5 : goal.overflow_sub-result-5
overflow_sub-result-5 c =
    let p = c.args in
    let s = turn_steps p.a p.b p.c in
    rw (reread p.a.x_within, reread p.a.y_within, reread p.b.x_within, reread p.b.y_within, reread p.c.x_within, reread p.c.y_within)
    (rw (to_z-of_z s.x_fits, to_z-of_z s.v_fits, to_z-of_z s.y_fits, to_z-of_z s.u_fits, to_z-of_z s.first, to_z-of_z s.second) s.all)

pub returns : goal.returns
returns c =
    let p = c.args in
    let s = turn_steps p.a p.b p.c in
    rw (reread p.a.x_within, reread p.a.y_within, reread p.b.x_within, reread p.b.y_within, reread p.c.x_within, reread p.c.y_within)
    (rw (to_z-of_z s.x_fits, to_z-of_z s.v_fits, to_z-of_z s.y_fits, to_z-of_z s.u_fits, to_z-of_z s.first, to_z-of_z s.second) (to_z-of_z s.all))
