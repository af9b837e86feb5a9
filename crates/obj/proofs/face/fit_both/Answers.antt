-- `obj::face::fit_both` meets its contract: a fault of x is the first, and where x has none y is looked at. Assumes nothing.
use mathlib.Core.Path.{ap}
use mir.Syntax.{w32}
use Rattle.std.proofs.Common.{arith}
use Rattle.std.proofs.lemmas.Result.{err_from_is_err_and}
use Rattle.whole.proofs.Range.{field}
use Rattle.rules.proofs.Checks.{fault_left, fault_right, passes_append}
use Rattle.obj.specs.File.{decimal_checks}
use Rattle.obj.proofs.face.fit_both.Goals as goal

pub returns-in_err-x : goal.returns-in_err-x
returns-in_err-x c p e =
    let q = err_from_is_err_and c.from_residual.result c.from_residual.ensures.1 in
    let i = c.args.corner in
    rw (q.1, q.2) (fault_left (decimal_checks p.x i 0) (decimal_checks p.y i 1) _ (c.in_err-x.ensures p.x (ap (λ v. v.x) e)))

pub returns-in_err-y : goal.returns-in_err-y
returns-in_err-y c p e =
    let q = err_from_is_err_and c.from_residual-in_err-y.result c.from_residual-in_err-y.ensures.1 in
    let i = c.args.corner in
    rw (q.1, q.2)
    (fault_right (decimal_checks p.x i 0) (decimal_checks p.y i 1) _ (c.in_ok-x.ensures p.x (ap (λ v. v.x) e)).0 (c.in_err-y.ensures p.y (ap (λ v. v.y) e)))

pub returns : goal.returns
returns c p e =
    let i = c.args.corner in
    let x = c.in_ok-x.ensures p.x (ap (λ v. v.x) e) in
    let y = c.in_ok-y.ensures p.y (ap (λ v. v.y) e) in
    (passes_append (decimal_checks p.x i 0) (decimal_checks p.y i 1) x.0 y.0, rw (field w32 c.in_ok-x.x (omega arith), field w32 c.in_ok-y.y (omega arith), x.1, y.1))
