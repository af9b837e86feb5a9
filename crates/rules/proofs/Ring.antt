-- The way round a ring. Assumes nothing.
use mathlib.Core.Path.{◌≡◌, refl}
use mathlib.Core.Logic.{◌⊎◌, inl, inr, ⊎_elim}
use Prim.Native.Nat.{ℕ, suc, ◌≤◌, ◌<◌}
use native.Mathlib.Omega.{arith}
use borrow.Author.Tests.{eq-eqb, ne_eqb}
use Rattle.whole.proofs.Order.{ℕ_or}
use Rattle.rules.specs.Ring.{next}

pub next_inner : (n i : ℕ) → suc i < n → next n i ≡ suc i
unfolding next
next_inner n i h = rw (ne_eqb (suc i) n (λ e. omega arith))

pub next_last : (n : ℕ) → next (suc n) n ≡ 0
unfolding next
next_last n = rw (eq-eqb (suc n) (suc n) refl)

-- one after, or back at 0
pub next_ways : (n i : ℕ) → i < n → ((suc i < n) × (next n i ≡ suc i)) ⊎ ((suc i ≡ n) × (next n i ≡ 0))
next_ways n i h =
    ⊎_elim (λ (l : n ≤ suc i). let e : suc i ≡ n = omega arith in inr (e, rw (← e) (next_last i))) (λ (l : suc i < n). inl (l, next_inner n i l))
    (ℕ_or n (suc i))

pub next_below : (n i : ℕ) → i < n → next n i < n
next_below n i h = ⊎_elim (λ w. rw w.1 w.0) (λ w. rw w.1 (omega arith)) (next_ways n i h)

-- at most one number has a number for its next
pub next_one : (n h k : ℕ) → h < n → k < n → next n h ≡ next n k → h ≡ k
next_one n h k a b e =
    ⊎_elim (λ w. ⊎_elim (λ v. omega arith) (λ v. absurd (omega arith)) (next_ways n k b)) (λ w. ⊎_elim (λ v. absurd (omega arith)) (λ v. omega arith) (next_ways n k b))
    (next_ways n h a)
