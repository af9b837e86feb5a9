-- `baker_ask` meets its contract: the run and the piece that were made are those of the numbers, so the answer to these is that to the numbers. Assumes nothing.
use Rattle.std.proofs.Common.{rules, ◌∙◌}
use Rattle.book.specs.Ask.{AskSays}
use Rattle.coding.specs.Coded.{asked_code}
use Rattle.baker.proofs.Back.{coded_both}
use Rattle.baker.proofs.rooms.baker_ask.Goals as goal

pub returns : goal.returns
returns c =
    coded_both (AskSays c.args.book.now c.ask.new.book) asked_code c.ask.result
    (c.run_of-run.ensures ∙ search rules) (c.slab_of-slab.ensures c.args.corners.now ∙ search rules) c.ask.ensures c.code.ensures
