-- At most one outcome for a footprint. Assumes nothing.
use mathlib.Core.Path.{◌≡◌, sym, subst, ◌∙◌}
use mathlib.Core.Logic.{◌⊎◌, inl, inr, ⊎_elim}
use mathlib.Core.List.{List}
use Prim.Native.Nat.{ℕ, ◌+◌, ◌*◌, ◌/◌, ◌≤◌, ◌<◌}
use native.Mathlib.Omega.{arith}
use lib.IntN.{ℤ, pos}
use lib.ListN.{length, get_or}
use lib.Ieee.{Float}
use Rattle.whole.specs.Front.{fronted}
use Rattle.whole.proofs.Front.{stays_one}
use Rattle.whole.proofs.Order.{ℕ_or}
use Rattle.rules.specs.Reach.{Corners}
use Rattle.rules.specs.Refusal as rules
use Rattle.rules.specs.Refusal.{refuse}
use Rattle.rules.proofs.Checks.{Definite, AllDefinite, definite_demand, definite_in_turn}
use Rattle.std.specs.Prelude.{Ok, Err}
use Rattle.refusal.specs.Said.{Checked}
use Rattle.intake.specs.declared.Corner.{Corner}
use Rattle.grid.specs.declared.Taken.{Taken}
use Rattle.grid.specs.declared.Taken.TheVariants.{Grid, OffGrid, NotNumber, Beyond}
use Rattle.grid.specs.Number.{Answer}
use Rattle.intake.specs.Footprint.{put_checks, Put, Row, number_check, corner_at, corners_checks, intake_checks, HoldsCorners, Later, Intake}
use Rattle.grid.proofs.Once.{one_answer}
use Rattle.refusal.proofs.Unique.{finds_one, writes_one}

one_row : (t : Taken) (a b : ℕ) (r s : rules.Refusal) → Row t a b r → Row t a b s → r ≡ s
one_row (Grid k) a b r s h i = absurd h
one_row (OffGrid w) a b r s h i = h ∙ sym i
one_row NotNumber a b r s h i = h ∙ sym i
one_row Beyond a b r s h i = h ∙ sym i

definite_number : (x : Float) (a b : ℕ) → Definite (number_check x a b)
definite_number x a b =
    record {
      never = λ r p f. subst (λ (t : Taken). Row t a b r) (one_answer x f.0 (Grid p.0) f.1 p.1) f.2;
      one = λ r s f g. one_row g.0 a b r s (subst (λ (t : Taken). Row t a b r) (one_answer x f.0 g.0 f.1 g.1) f.2) g.2;
    }

definite_corners : (cs : List Corner) (n : ℕ) → AllDefinite (corners_checks cs n)
definite_corners cs = definite_in_turn _ λ a. let c = corner_at cs a in (definite_number c.x a 0, (definite_number c.y a 1, tt))

pub definite_intake : (cs : List Corner) (n size : ℕ) → AllDefinite (intake_checks cs n size)
unfolding intake_checks
definite_intake cs n size = (definite_demand (Corners n) (refuse 5 0 0), (definite_demand (2 * n ≤ size) (refuse 10 0 0), definite_corners cs n))

same_grid : (x : Float) (j k : ℤ) → Answer x (Grid j) → Answer x (Grid k) → j ≡ k
same_grid x j k h i = let e : Grid j ≡ Grid k = one_answer x (Grid j) (Grid k) h i in cc

half : (j : ℕ) → (j ≡ 2 * (j / 2)) ⊎ (j ≡ 2 * (j / 2) + 1)
half j = ⊎_elim (λ (h : j ≤ 2 * (j / 2)). inl (omega arith)) (λ (h : 2 * (j / 2) < j). inr (omega arith)) (ℕ_or j (2 * (j / 2)))

module _ (cs : List Corner) (n : ℕ) (before l m : List ℤ) where
  abbrev Alike : ℕ → Type 0
  Alike j = get_or l j (pos 0) ≡ get_or m j (pos 0)

  same_at : HoldsCorners cs n l → HoldsCorners cs n m → (j : ℕ) → j < 2 * n → Alike j
  same_at h i j lt =
      let c = j / 2 in
      ⊎_elim
      (λ (e : j ≡ 2 * c). subst Alike (sym e) (same_grid (corner_at cs c).x _ _ (h.x c (omega arith)) (i.x c (omega arith))))
      (λ (e : j ≡ 2 * c + 1). subst Alike (sym e) (same_grid (corner_at cs c).y _ _ (h.y c (omega arith)) (i.y c (omega arith))))
      (half j)

  one_later : (r : Checked) → Later cs n before r l → Later cs n before r m → l ≡ m
  one_later (Err r) h i = h ∙ sym i
  one_later (Ok _) h i = stays_one (pos 0) (2 * n) before l m h.1 i.1 (same_at h.0 i.0)

  -- two outcomes, answer and later list, that both meet the contract are equal
  pub one_intake : (r s : Checked) → Intake cs n before r l → Intake cs n before s m → (r ≡ s) × (l ≡ m)
  one_intake r s h i =
      let e : r ≡ s = finds_one (intake_checks cs n (length before)) (definite_intake cs n (length before)) r s h.finds i.finds in
      (e, one_later s (subst (λ (q : Checked). Later cs n before q l) e h.list) i.list)

-- numbers into a lent list
pub put_one : (numbers before a b : List ℤ) (r s : Checked) → Put numbers before r a → Put numbers before s b → (r ≡ s) × (a ≡ b)
put_one numbers before = writes_one (put_checks numbers before) (definite_demand _ _, tt) (fronted numbers before) before
