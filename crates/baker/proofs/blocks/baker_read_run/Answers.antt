-- `baker_read_run` meets its contract: a refusal is coded and changes nothing, and a run that was found is good, so its moment is small enough to be put. Assumes nothing.
use Rattle.good.specs.Numbers.{run_of}
use Rattle.block.proofs.RunLaws.{good_ticks}
use Rattle.baker.proofs.blocks.baker_read_run.Goals as goal

pub put_run-requires : goal.put_run-requires
put_run-requires c = good_ticks (run_of c.in-Ok.run') c.in-Ok.ensures.good
