-- `line::text::word` meets its contract: past the blanks, then up to the next. Assumes nothing.
use mathlib.Core.Path.{refl, sym}
use mathlib.Core.Bool.{not}
use mathlib.Core.List.{List}
use Prim.Native.Nat.{ℕ, ◌-◌}
use native.Mathlib.Omega.{arith}
use lib.ListN.{length, take, drop, drop_of_length-le}
use lib.Seq.{take_all}
use Rattle.std.proofs.Common.{rules}
use Rattle.std.proofs.lemmas.List.{take_rest}
use Rattle.line.specs.Text.{blank}
use Rattle.line.proofs.Seek.{found, not_found}
use Rattle.line.proofs.Words.{no_word, taken}
use Rattle.line.proofs.text.word.Goals as goal

pub returns-in_default : goal.returns-in_default
returns-in_default c = no_word c.args.line.now (not_found (λ b. not (blank b)) c.args.line.now (search rules))

pub returns-in-Some-position : goal.returns-in-Some-position
returns-in-Some-position c =
    let line = c.args.line.now in
    let from = c.in-Some.from in
    let len = c.in-Some-position.len in
    let begun : List ℕ = take (length line - from) (drop from line) in
    taken line from begun len _ _ (search rules) (found (λ b. not (blank b)) line from (search rules) (search rules) (search rules)) (take_rest line from)
    (found blank begun len (search rules) (search rules) (search rules)) refl (take_rest begun len)

pub returns-in-None : goal.returns-in-None
returns-in-None c =
    let line = c.args.line.now in
    let from = c.in-Some.from in
    let begun : List ℕ = take (length line - from) (drop from line) in
    taken line from begun (length begun) _ _ (search rules) (found (λ b. not (blank b)) line from (search rules) (search rules) (search rules)) (take_rest line from)
    (not_found blank begun (search rules)) (sym (take_all (length begun) begun (omega arith))) (sym (drop_of_length-le begun (omega arith)))
