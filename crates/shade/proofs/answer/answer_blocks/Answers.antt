-- `shade::answer::answer_blocks` meets its contract: a refused run has its line, a good one the answer of the room. Assumes nothing.
use Rattle.std.proofs.Common.{refl, arith, length-take}
use Rattle.shade.specs.Text.{bad_run}
use Rattle.shade.proofs.Found.{whole}
use Rattle.shade.proofs.answer.answer_blocks.Goals as goal

pub slice_bounds-read_run-end : goal.slice_bounds-read_run-end
slice_bounds-read_run-end c = omega (arith, length-take 512 c.args.input.now)

pub returns-in-Err : goal.returns-in-Err
returns-in-Err c =
    let p = c.run_line.ensures.puts in
    record {
      text = _;
      answers = bad_run c.requires _ c.in-Err.ensures refl;
      room = whole p (omega (arith, c.run_line.ensures.upper_bound)) (omega arith);
      puts = p;
    }
