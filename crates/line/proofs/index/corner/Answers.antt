-- `line::index::corner` meets its contract: the first part is the index, and the others stand after it. Assumes nothing.
use mathlib.Core.Path.{◌≡◌, refl, sym, ◌∙◌}
use mathlib.Core.Bool.{true, false}
use mathlib.Core.List.{[]}
use Rattle.std.proofs.Common.{rules, Err}
use Rattle.line.specs.declared.Unnamed.TheVariants.{NoCorner}
use Rattle.line.specs.Text.{slash}
use Rattle.line.specs.Number.{minus, past, number, whole}
use Rattle.line.specs.Calls.{named}
use Rattle.line.proofs.Told.{given, missing}
use Rattle.line.proofs.Parts.{cut_none, cut_some}
use Rattle.line.proofs.Corners.{cornered}
use Rattle.line.proofs.index.corner.Goals as goal
use Rattle.line.proofs.index.corner.Goals.{in-Some+else-not-is_after, in_default}

pub returns-in_err-n : goal.returns-in_err-n
returns-in_err-n c =
    let e : c.from_residual.result ≡ Err NoCorner = search rules in
    let n = missing _ _ (sym c.in_err-n.ensures.ok_part ∙ c.whole.ensures) in
    e ∙ sym (cornered c.args.above c.args.w.now _ _ false _ c.cut.ensures n refl)

pub returns-then-not-is_after : goal.returns-then-not-is_after
returns-then-not-is_after c =
    let n = given _ _ _ (sym c.in_ok-n.ensures.ok_part ∙ c.whole.ensures) in
    sym (cornered c.args.above c.args.w.now _ _ true false (cut_some slash _ _ c.cut.ensures _ c.in-Some.is) n.0 (sym c.if-not-is_after.ensures))

pub returns : goal.returns
returns c =
    let index = c.cut.result.0.now in
    let n = given _ _ _ (sym c.in_ok-n.ensures.ok_part ∙ c.whole.ensures) in
    let told : c.named.result ≡ named c.args.above (whole index) = c.named.ensures (number (past (minus index) index)) n.1 in
    told ∙ elim c.match-after.branch [
      | in-Some+else-not-is_after w ↦ sym (cornered c.args.above c.args.w.now index _ true true (cut_some slash _ _ c.cut.ensures _ w.in-Some.is) n.0 (sym w.if-not-is_after.ensures))
      | in_default w ↦ sym (cornered c.args.above c.args.w.now index [] true true (cut_none slash _ _ c.cut.ensures w.in_default.is) n.0 refl)
    ]
