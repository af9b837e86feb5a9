-- `obj::face::fit` meets its contract: what the table has of a decimal tells what its checks find. Assumes nothing.
use mathlib.Core.Path.{sym, ◌∙◌}
use mir.Syntax.{w16, w32}
use Rattle.std.proofs.Common.{arith}
use Rattle.whole.proofs.Range.{field}
use Rattle.obj.proofs.Exact.{miss_fault, on_grid, on_small}
use Rattle.obj.proofs.face.fit.Goals as goal

pub returns-in-Ok : goal.returns-in-Ok
returns-in-Ok c d e =
    let n = sym e ∙ c.in-Ok.is in
    let g = on_grid d c.args.corner c.args.axis c.in-Ok.k n in
    (g.0, field w32 c.from.result (omega arith) ∙ (c.from.ensures ∙ (field w16 c.in-Ok.k (let s = on_small d c.in-Ok.k n in omega arith) ∙ g.1)))

pub returns-in-Err : goal.returns-in-Err
returns-in-Err c d e = rw c.refused.ensures (miss_fault d c.args.corner c.args.axis c.in-Err.missed (sym e ∙ c.in-Err.is))
