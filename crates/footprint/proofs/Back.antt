-- The numbers before and after another around a ring. Assumes nothing.
use mathlib.Core.Path.{◌≡◌, refl, sym, ap, ◌∙◌}
use mathlib.Core.Logic.{◌⊎◌, ⊎_elim}
use Prim.Native.Nat.{ℕ, suc, ◌+◌, ◌-◌, ◌≤◌, ◌<◌}
use native.Mathlib.Omega.{arith}
use native.Mathlib.Numerals.{add-one}
use borrow.Author.Tests.{ne_eqb}
use Rattle.whole.proofs.Order.{ℕ_or}
use Rattle.rules.specs.Ring.{next}
use Rattle.rules.proofs.Ring.{next_ways}
use Rattle.footprint.specs.Shape.{around, back}

pub back_last : (n : ℕ) → back n 0 ≡ n - 1
unfolding back
back_last n = refl

pub back_inner : (n i : ℕ) → 0 < i → back n i ≡ i - 1
unfolding back
back_inner n i h = rw (ne_eqb i 0 (λ e. omega arith))

pub back_below : (n i : ℕ) → i < n → back n i < n
back_below n i h =
    ⊎_elim (λ (z : i ≤ 0). let e : i ≡ 0 = omega arith in rw (e, back_last n) (omega arith)) (λ (z : 0 < i). rw (back_inner n i z) (omega arith)) (ℕ_or i 0)

pub next_back : (n i : ℕ) → i < n → next n (back n i) ≡ i
next_back n i h = ⊎_elim last inner (ℕ_or i 0)
  where
    ways : ((suc (back n i) < n) × (next n (back n i) ≡ suc (back n i))) ⊎ ((suc (back n i) ≡ n) × (next n (back n i) ≡ 0))
    ways = next_ways n (back n i) (back_below n i h)

    last : i ≤ 0 → next n (back n i) ≡ i
    last z =
        let e : i ≡ 0 = omega arith in
        let q : back n i ≡ n - 1 = ap (back n) e ∙ back_last n in
        ⊎_elim (λ w. absurd (omega arith)) (λ w. w.1 ∙ sym e) ways

    inner : 0 < i → next n (back n i) ≡ i
    inner z = let b = back_inner n i z in ⊎_elim (λ w. omega arith) (λ w. absurd (omega arith)) ways

-- the way that the code takes
pub around_next : (n i : ℕ) → around n (i + 1) ≡ next n i
unfolding next
around_next n i = rw (add-one i)
