-- `shade::answer::answer` meets its contract: a wrong length has its line, every other input the answer of its blocks. Assumes nothing.
use Rattle.std.proofs.Common.{ap, arith}
use Rattle.notice.specs.Notice.{room_line}
use Rattle.shade.specs.Text.{length_checks, bad_length}
use Rattle.shade.proofs.Found.{alone, whole}
use Rattle.shade.proofs.answer.answer.Goals as goal

pub answer_blocks-requires : goal.answer_blocks-requires
unfolding length_checks
answer_blocks-requires c = c.in-Ok.ensures.0

pub returns-in-Err-clause-prints : goal.returns-in-Err-clause-prints
returns-in-Err-clause-prints c =
    let f = c.in-Err.ensures in
    let p = c.room_line.ensures.puts in
    record {
      text = _;
      answers = bad_length _ f (ap room_line (alone c.args.input.now _ f));
      room = whole p (omega (arith, c.room_line.ensures.upper_bound)) (omega arith);
      puts = p;
    }
