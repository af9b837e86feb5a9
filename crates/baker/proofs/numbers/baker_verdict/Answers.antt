-- `baker_verdict` meets its contract: the run and the piece that were made are those of the numbers, so the verdict on these is that on the numbers. Assumes nothing.
use Rattle.std.proofs.Common.{rules, ◌∙◌}
use Rattle.piece.specs.Tells.{Tells}
use Rattle.coding.specs.Coded.{verdict_code}
use Rattle.baker.proofs.Back.{coded_both}
use Rattle.baker.proofs.numbers.baker_verdict.Goals as goal

pub returns : goal.returns
returns c =
    coded_both Tells verdict_code c.verdict.result
    (c.run_of-run.ensures ∙ search rules) (c.slab_of-slab.ensures c.args.corners.now ∙ search rules) c.verdict.ensures c.code.ensures
