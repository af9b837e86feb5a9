-- `intake::gather` meets its contract: before corner i those before it are taken, and stand in the numbers. Assumes nothing.
use Rattle.std.proofs.Common.{arith, length-set}
use Rattle.std.proofs.lemmas.Result.{err_from_is_err_and}
use mir.Syntax.{w32}
use Rattle.whole.proofs.Range.{field}
use Rattle.rules.proofs.Checks.{in_turn_fault}
use Rattle.intake.specs.Footprint.{corner_at}
use Rattle.intake.proofs.Footprint.{taken, hold_more, holds_pass}
use Rattle.intake.proofs.gather.Goals as goal

pub returns-in_err-x : goal.returns-in_err-x
returns-in_err-x c =
    let p = err_from_is_err_and c.from_residual.result c.from_residual.ensures.1 in
    let cs = c.args.corners in let i = c.loop-i.i in
    rw (p.1, p.2) (in_turn_fault _ _ i c.args.count c.loop-i-test.true (holds_pass cs i c.loop-i.numbers c.loop-i.invariant.0) c.in_err-x.ensures)

pub loop-i-preserved : goal.loop-i-preserved
loop-i-preserved c =
    let cs = c.args.corners in let i = c.loop-i.i in
    let corner = corner_at cs i in
    let x = taken corner.x (field w32 c.in_ok-x.x (omega arith)) c.in_ok-x.ensures.0 in
    let y = taken corner.y (field w32 c.in_ok-x.y (omega arith)) c.in_ok-x.ensures.1 in
    (hold_more cs i c.loop-i.numbers _ _ (omega arith) c.loop-i.invariant.0 x y, simp length-set c.loop-i.invariant.1)
