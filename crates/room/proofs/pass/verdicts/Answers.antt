-- `room::pass::verdicts` meets its contract: the list begins with the codes. Assumes nothing.
use Rattle.std.proofs.Common.{◌++◌, ap}
use Rattle.std.proofs.Math.ListN.{drop}
use Rattle.good.specs.Numbers.{run_of}
use Rattle.room.proofs.Coding.{list_filled}
use Rattle.room.proofs.pass.verdicts.Goals as goal

pub returns : goal.returns
returns c =
    list_filled (run_of c.args.run) c.args.image.now c.in_ok-check_run.ensures _ _ c.in_ok-count.ensures.pieces c.in_ok-codes.ensures c.args.list.now _ c.if-list-count.false
    (ap (λ l. l ++ drop c.in_ok-count.count c.args.list.now) c.copy_from_slice.ensures.after)
