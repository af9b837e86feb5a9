-- `line::is_passed` is among passed_words: by the length of the word. Assumes nothing.
use mathlib.Core.Path.{◌≡◌}
use Rattle.std.proofs.Common.{rules}
use Rattle.line.proofs.Words.{passed_one, passed_two, passed_six, passed_none}
use Rattle.line.proofs.is_passed.Goals as goal

pub returns-in-1 : goal.returns-in-1
returns-in-1 c = passed_one c.args.w.now c.in-1.is

pub returns-in-2 : goal.returns-in-2
returns-in-2 c = passed_two c.args.w.now c.in-2.is

pub returns-in-6 : goal.returns-in-6
returns-in-6 c =
    let e : c.unwrap-w.result.now ≡ c.args.w.now = search rules in
    rw (c.eq.ensures, c.eq-in-6.ensures, e) (passed_six c.args.w.now c.in-6.is)

pub returns-in_default : goal.returns-in_default
returns-in_default c = passed_none c.args.w.now (search rules) (search rules) (search rules)
