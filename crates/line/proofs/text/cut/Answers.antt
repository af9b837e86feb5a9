-- `line::text::cut` meets its contract: no byte before the first place parts the text. Assumes nothing.
use Rattle.std.proofs.Common.{rules}
use Rattle.std.proofs.lemmas.List.{take_rest}
use Rattle.line.proofs.Parts.{only_part, first_part}
use Rattle.line.proofs.text.cut.Goals as goal

pub returns-in-Some : goal.returns-in-Some
returns-in-Some c = rw take_rest (first_part c.args.at c.args.text.now c.in-Some.i (search rules) (search rules) (search rules))

pub returns-in-None : goal.returns-in-None
returns-in-None c = only_part c.args.at c.args.text.now (search rules)
