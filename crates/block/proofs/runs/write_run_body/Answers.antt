-- `block::runs::write_run_body` meets its contract: the numbers of a good run are what two bytes hold. Assumes nothing.
use Rattle.std.proofs.Common.{sym, subst, List}
use lib.IntN.{ℤ}
use Rattle.good.specs.Numbers.{run_of}
use Rattle.pair.specs.Pair.{WritePairsSays}
use Rattle.pair.proofs.Caller.{pairs_written}
use Rattle.block.specs.Layout.{run_numbers, run_body}
use Rattle.block.specs.Reading.{run_body_asked, WriteRunBodySays}
use Rattle.block.proofs.RunLaws.{good_halves, read_good}
use Rattle.block.proofs.runs.write_run_body.Goals as goal

pub returns : goal.returns
unfolding run_body_asked run_body
returns c =
    let a = c.args in let w = c.write_pairs in let r = run_of a.run in let n = c.if-bytes-ne-RUN_BODY.false in let good = c.in_ok-check_run.ensures in
    let f = subst (λ (zs : List ℤ). WritePairsSays zs a.bytes.now w.new.bytes w.result) (read_good a.run good) w.ensures in
    let p = pairs_written (run_numbers r) a.bytes.now w.new.bytes w.result f n (good_halves r good) in
    subst (WriteRunBodySays r a.bytes.now w.new.bytes) (sym p.0) ((n, good), p.1)
