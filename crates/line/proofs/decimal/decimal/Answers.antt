-- `line::decimal::decimal` meets its contract: its sign, if there is one, and what stands past it. Assumes nothing.
use mathlib.Core.Path.{◌≡◌, sym, ◌∙◌}
use mathlib.Core.Bool.{true, false}
use Rattle.std.proofs.Common.{rules}
use Rattle.line.specs.Number.{minus, plus}
use Rattle.line.proofs.Parts.{suffix}
use Rattle.line.proofs.Decimals.{minus_entry, plus_entry}
use Rattle.line.proofs.decimal.decimal.Goals as goal

pub returns-in-45 : goal.returns-in-45
returns-in-45 c =
    let w = c.args.w.now in
    let e : minus w ≡ true = search rules in
    c.unsigned.ensures ∙ (rw (suffix 1 w) (sym (minus_entry c.args.turn w e)))

pub returns-in-43 : goal.returns-in-43
returns-in-43 c =
    let w = c.args.w.now in
    let e : minus w ≡ false = search rules in
    let f : plus w ≡ true = search rules in
    c.unsigned-in-43.ensures ∙ (rw (suffix 1 w) (sym (plus_entry c.args.turn w e f)))
