-- `obj::text::first_line` meets its contract: no byte before the first feed is one. Assumes nothing.
use Rattle.std.proofs.Common.{rules}
use Rattle.std.proofs.lemmas.List.{take_rest}
use Rattle.obj.proofs.Lines.{first_of, only_line}
use Rattle.obj.proofs.text.first_line.Goals as goal

pub returns-in-Some : goal.returns-in-Some
returns-in-Some c = rw (take_rest, c.unreturned.ensures) (first_of c.args.text.now c.in-Some.end (search rules) (search rules) (search rules))

pub returns-in-None : goal.returns-in-None
returns-in-None c = only_line c.args.text.now (search rules)
