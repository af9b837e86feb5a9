-- `block::runs::read_run` meets its contract: the refusal of a run that a block holds is the block's. Assumes nothing.
use Rattle.std.proofs.Common.{◌≡◌, arith}
use Rattle.std.proofs.lemmas.Result.{err_from_is_err_and}
use Rattle.good.specs.Numbers.{run_of}
use Rattle.block.proofs.RunLaws.{run_in, run_refused}
use Rattle.block.proofs.runs.read_run.Goals as goal

pub returns-in_err-check_run : goal.returns-in_err-check_run
returns-in_err-check_run c =
    let e = err_from_is_err_and c.from_residual-in_err-check_run.result c.from_residual-in_err-check_run.ensures.1 in
    let l = c.args.block.now in let r = c.run_at-run.result in let p = c.in_ok-check_kind.ensures in
    let same : c.unwrap.result.now ≡ l = grind arith in
    rw (e.1, e.2) (run_refused l (run_of r) _ p (run_in l r (rw same at c.run_at-run.ensures) c.type_inv.block p) c.in_err-check_run.ensures)
