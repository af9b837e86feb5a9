-- What the pass over the corners and the search of pairs find is what the checks of a footprint say. Assumes nothing.
use mathlib.Core.Path.{refl, sym, ap, subst, ◌∙◌}
use mathlib.Core.Logic.{◌⊎◌, inl, inr, ⊎_elim}
use mathlib.Core.List.{List, [], ◌∷◌}
use Prim.Native.Nat.{ℕ, ◌<◌}
use native.Mathlib.Omega.{arith}
use lib.IntN.{ℤ, pos}
use lib.ListN.{length}
use lib.Signed.{◌≤ℤ◌, ◌<ℤ◌}
use Rattle.whole.proofs.Order.{clash}
use Rattle.rules.specs.Ring.{Ring, ring, from, to, On}
use Rattle.rules.specs.Refusal.{Refusal, First, Passes, Fault, refuse}
use Rattle.rules.specs.Good.{Same, Folds, Meet, FirstMeet, Sized, area, sized_check, corners_check, ring_checks, shape_checks, footprint_checks}
use Rattle.rules.proofs.Ring.{next_one}
use Rattle.decide.proofs.Share.{fold_ends, end_folds}
use Rattle.refusal.specs.Said.{Checked, Finds}
use Rattle.refusal.proofs.Finds.{finds_after, finds_past}
use Rattle.footprint.specs.Shape.{Stray, back, Bend}
use Rattle.footprint.proofs.Back.{back_below, next_back}
use Rattle.rules.proofs.Checks.{definite_demand, fault_left}

-- ---- folds
pub bend_folds : (r : Ring) (i : ℕ) → i < r.size → ((j : ℕ) → j < r.size → Same r j → ⊥) → Bend r i → Folds r i
bend_folds r i h none b = (
  back r.size i,
  back_below r.size i h,
  next_back r.size i h,
  end_folds (r.at (back r.size i)) (r.at i) (to r i)
      (⊎_elim (λ q. inl (q, λ e. none (back r.size i) (back_below r.size i h) (e ∙ ap r.at (sym (next_back r.size i h))))) (λ q. inr (q, λ e. none i h (sym e))) b),
)

pub folds_bend : (r : Ring) (i : ℕ) → i < r.size → Folds r i → Bend r i
folds_bend r i h f =
    let e = next_one r.size f.0 (back r.size i) f.1 (back_below r.size i h) (f.2 ∙ sym (next_back r.size i h)) in
    subst (λ (k : ℕ). On (r.at k) (r.at i) (to r i) ⊎ On (to r i) (r.at k) (r.at i)) e (fold_ends (from r f.0) (r.at i) (to r i) f.3)

-- ---- the checks
pub found_stray : (l : List ℤ) (x : Refusal) → Fault (corners_check l ∷ []) x → Fault (shape_checks l) x
unfolding shape_checks
found_stray l x f = fault_left (corners_check l ∷ []) (ring_checks l) x f

module _ (l : List ℤ) (reach : (j : ℕ) → j < length l → Stray l j → ⊥) where
  pub found_same : (i : ℕ) → First (Same (ring l)) (ring l).size i → Fault (shape_checks l) (refuse 6 i 0)
  unfolding shape_checks
  found_same i f = inr (reach, inl (i, f, refl))

  module _ (distinct : (j : ℕ) → j < (ring l).size → Same (ring l) j → ⊥) where
    pub found_fold : (i : ℕ) → First (Bend (ring l)) (ring l).size i → Fault (shape_checks l) (refuse 7 i 0)
    unfolding shape_checks
    found_fold i f = inr (reach, inr (distinct, inl (i, record { below = f.below; bad = bend_folds (ring l) i f.below distinct f.bad; before = before }, refl)))
      where
        before : (j : ℕ) → j < i → Folds (ring l) j → ⊥
        before j a b = f.before j a (folds_bend (ring l) j (let h = f.below in omega arith) b)

    module _ (unbent : (j : ℕ) → j < (ring l).size → Bend (ring l) j → ⊥) where
      no_folds : (j : ℕ) → j < (ring l).size → Folds (ring l) j → ⊥
      no_folds j a b = unbent j a (folds_bend (ring l) j a b)

      pub found_meet : (i j : ℕ) → FirstMeet (ring l) i j → Fault (shape_checks l) (refuse 8 i j)
      unfolding shape_checks
      found_meet i j m = inr (reach, inr (distinct, inr (no_folds, inl (i, j, m, refl))))

      module _ (apart : (i j : ℕ) → Meet (ring l) i j → ⊥) where
        pub found_clockwise : area (ring l) (ring l).size ≤ℤ pos 0 → Fault (shape_checks l) (refuse 9 0 0)
        unfolding shape_checks
        found_clockwise a = inr (reach, inr (distinct, inr (no_folds, inr (apart, inl (λ b. clash _ _ b a, refl)))))

        pub found_good : pos 0 <ℤ area (ring l) (ring l).size → Passes (shape_checks l)
        unfolding shape_checks
        found_good a = (reach, (distinct, (no_folds, (apart, (a, tt)))))

-- ---- the shape, and the count before it
pub footprint_finds : (l : List ℤ) (r : Checked) → Sized l → Finds (shape_checks l) r → Finds (footprint_checks l) r
unfolding footprint_checks sized_check
footprint_finds l r h f = finds_after (sized_check l) (shape_checks l) r h f

pub footprint_shape : (l : List ℤ) (r : Checked) → Sized l → Finds (footprint_checks l) r → Finds (shape_checks l) r
unfolding footprint_checks sized_check
footprint_shape l r h f = finds_past (sized_check l) (shape_checks l) (definite_demand (Sized l) _) r h f
