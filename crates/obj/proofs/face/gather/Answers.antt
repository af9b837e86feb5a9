-- `obj::face::gather` meets its contract: the corners passed are good, and stand in the list as far as it goes. Assumes nothing.
use Rattle.std.proofs.Common.{arith}
use Rattle.std.proofs.lemmas.Result.{err_from_is_err_and}
use mir.Syntax.{w32}
use Rattle.whole.proofs.Range.{field}
use Rattle.obj.proofs.Gather.{begins, gather_start, is_ok_vertex, corner_below, gather_fault, gather_next, gather_end}
use Rattle.obj.proofs.face.gather.Goals as goal

pub unwrap-at-requires : goal.unwrap-at-requires
unwrap-at-requires c = begins _ _ _ c.requires _ c.next_corner.ensures

pub loop-corner-init : goal.loop-corner-init
loop-corner-init c = gather_start _ _ _ c.requires _ c.unwrap-at.result c.told-numbers (rw c.unwrap-at.ensures at c.next_corner.ensures)

pub unwrap-v-requires : goal.unwrap-v-requires
unwrap-v-requires c = is_ok_vertex _ _ _ _ _ _ c.loop-corner.invariant c.in-Some.corner c.in-Some.ensures

pub bounds-table-v : goal.bounds-table-v
bounds-table-v c = corner_below _ _ _ _ _ _ c.loop-corner.invariant c.in-Some.corner c.in-Some.ensures c.unwrap-v.result c.unwrap-v.ensures

pub returns-in_err-x : goal.returns-in_err-x
returns-in_err-x c =
    let p = err_from_is_err_and c.from_residual.result c.from_residual.ensures.1 in
    rw (p.1, p.2)
    (gather_fault _ _ _ _ _ _ c.loop-corner.invariant c.in-Some.corner c.in-Some.ensures c.unwrap-v.result c.unwrap-v.ensures _ c.in_err-x.ensures)

pub loop-corner-preserved : goal.loop-corner-preserved
loop-corner-preserved c =
    rw (c.keep.ensures, field w32 c.in_ok-x.x (omega arith), field w32 c.in_ok-x.y (omega arith))
    (gather_next _ _ _ _ _ _ c.loop-corner.invariant c.in-Some.corner c.in-Some.ensures c.unwrap-v.result c.unwrap-v.ensures _ _ c.in_ok-x.ensures)

pub returns : goal.returns
returns c = gather_end _ _ _ _ _ _ c.loop-corner.invariant c.in_default.ensures
