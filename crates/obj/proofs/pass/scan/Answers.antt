-- `obj::pass::scan` meets its contract: before each line, those before it pass and are seen. Assumes nothing.
use Rattle.std.proofs.lemmas.Result.{err_from_is_err_and}
use Rattle.obj.proofs.Seen.{under_start, under_end, under_room, under_line, under_fault, under_next}
use Rattle.obj.proofs.pass.scan.Goals as goal

pub loop-rest-init : goal.loop-rest-init
loop-rest-init c = under_start _ _ c.requires.1

pub step-requires : goal.step-requires
step-requires c = under_room _ _ _ _ _ _ _ c.first_line.ensures (rw c.in-Some.is at c.loop-rest.invariant) c.requires.0

pub returns-in_err-seen : goal.returns-in_err-seen
returns-in_err-seen c =
    let p = err_from_is_err_and c.from_residual.result c.from_residual.ensures.1 in
    let f = c.first_line.ensures in
    let u = rw c.in-Some.is at c.loop-rest.invariant in
    let l = under_line _ _ _ _ _ _ _ f u in
    rw (p.1, p.2) (under_fault _ _ _ _ _ _ _ f u _ (c.in_err-seen.ensures _ l u.holds))

pub loop-rest-preserved : goal.loop-rest-preserved
loop-rest-preserved c =
    let f = c.first_line.ensures in
    let u = rw c.in-Some.is at c.loop-rest.invariant in
    let l = under_line _ _ _ _ _ _ _ f u in
    under_next _ _ _ _ _ _ _ f u _ _ c.step.auto.table (c.in_ok-seen.ensures _ l u.holds)

pub returns : goal.returns
returns c = under_end _ _ _ _ (rw c.in_default.is at c.loop-rest.invariant)
