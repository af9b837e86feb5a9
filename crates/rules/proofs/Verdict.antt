-- At most one answer is the verdict, a mark is at most 256·T, a mark is the answer that its number codes, and a code can be told from its answer. Assumes nothing.
use mathlib.Core.Path.{◌≡◌, refl, sym, ap, ◌∙◌}
use mathlib.Core.Bool.{Bool, true, false, cond}
use Prim.Native.Nat.{ℕ, ◌*◌, ◌≤◌, ◌<◌}
use native.Mathlib.Omega.{arith}
use lib.Dec.{eqb}
use lib.IntN.{pos, ◌+ℤ◌}
use lib.Signed.{◌≤ℤ◌}
use borrow.Author.Tests.{eqb-true, ne_eqb}
use Rattle.whole.specs.Fraction.{mark}
use Rattle.whole.proofs.Fraction.{less, lt_then_le, floor_most}
use Rattle.whole.proofs.Order.{antisym, cancel_next}
use Rattle.rules.specs.Reach.{Ticks, Run, Piece}
use Rattle.rules.specs.Verdict.{Answer, clear, blocked, NONE, answer, Mark, Verdict}

no_earlier : (r : Run) (p : Piece) (j k : ℕ) → Mark r p j → Mark r p k → pos j ≤ℤ pos k
no_earlier r p j k f g = cancel_next (pos j) (pos k) (pos 256) (mark (pos j)).some
    (less (mark (pos j)) (mark (pos k +ℤ pos 1))
    (λ h. f.before g.when g.moment (lt_then_le g.when (mark (pos k +ℤ pos 1)) (mark (pos j)) g.within.high h) g.contact))

pub one_verdict : (r : Run) (p : Piece) (a b : Answer) → Verdict r p a → Verdict r p b → a ≡ b
one_verdict r p clear clear f g = refl
one_verdict r p clear (blocked k) f g = absurd (f g.when g.moment g.contact)
one_verdict r p (blocked k) clear f g = absurd (g f.when f.moment f.contact)
one_verdict r p (blocked j) (blocked k) f g = ap blocked (same j k (antisym _ _ (no_earlier r p j k f g) (no_earlier r p k j g f)))
  where
    same : (j k : ℕ) → pos j ≡ pos k → j ≡ k
    same j k e = cc

pub mark_most : (r : Run) (p : Piece) (k : ℕ) → Mark r p k → k ≤ 256 * r.ticks
mark_most r p k f = floor_most k r.ticks f.when f.within f.moment.to

-- so no mark is the code of clear
pub mark_small : (r : Run) (p : Piece) (k : ℕ) → Ticks r.ticks → Mark r p k → k < NONE
mark_small r p k h m = omega (arith, mark_most r p k m)

pub mark_answers : (r : Run) (p : Piece) (k : ℕ) → k < NONE → Mark r p k → Verdict r p (answer k)
mark_answers r p k h m = rw (ne_eqb k NONE (λ e. omega arith)) m

abbrev coded : Answer → ℕ
coded clear = NONE
coded (blocked c) = c

coded_answer : (c : ℕ) → coded (answer c) ≡ c
coded_answer c = go (eqb c NONE) refl
  where
    go : (t : Bool) → eqb c NONE ≡ t → coded (cond t clear (blocked c)) ≡ c
    go true e = sym (eqb-true c NONE e)
    go false e = refl

pub answer_one : (c d : ℕ) → answer c ≡ answer d → c ≡ d
answer_one c d e = sym (coded_answer c) ∙ ap coded e ∙ coded_answer d
