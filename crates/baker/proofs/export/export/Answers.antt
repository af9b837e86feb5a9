-- `baker::export::export` meets its contract: what the intake of the pairs answers, where none of them is refused. Assumes nothing.
use Rattle.baker.proofs.Pairs.{exported}
use Rattle.baker.proofs.export.export.Goals as goal

pub returns : goal.returns
returns c =
    exported c.args.numbers.now c.corners_of.result c.args.list.now c.intake.new.list c.intake.result c.if-numbers-ne0.false c.corners_of.ensures c.intake.ensures
