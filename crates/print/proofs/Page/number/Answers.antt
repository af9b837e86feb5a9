-- `print::Page::number` meets its contract: the digits are the definition's, at most twenty. Assumes nothing.
use Rattle.std.proofs.Common.{◌≡◌, ◌∙◌, take}
use Rattle.print.specs.Digits.{digits}
use Rattle.print.proofs.Digits.{digits_are}
use Rattle.print.proofs.Page.number.Goals as goal

pub returns-clause-puts : goal.returns-clause-puts
returns-clause-puts c =
    let e : take c.decimal-k.result c.decimal-k.new.out ≡ digits c.args.n = c.decimal-k.ensures.digits ∙ digits_are c.args.n c.decimal-k.result c.decimal-k.ensures.len in
    let p = c.word.ensures.puts in
    rw e at p
