-- `print::Page::word` meets its contract: what is put so far is the bytes of the word that were passed. Assumes nothing.
use Rattle.std.proofs.Common.{◌∙◌, arith, add-one, take-suc}
use Rattle.print.proofs.Put.{then}
use Rattle.print.proofs.Page.word.Goals as goal

pub loop-byte-preserved : goal.loop-byte-preserved
loop-byte-preserved c =
    let byte = c.byte.ensures in let before = c.loop-byte.invariant in
    record {
      same = byte.same ∙ before.same;
      puts = rw (add-one, take-suc c.args.word.now c.loop-byte.byte-index 0 (omega arith)) (then before.puts byte.puts);
    }
