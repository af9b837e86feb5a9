-- The corners of a footprint one after the other: what a list holds after each, and what the checks find. Assumes nothing.
use Rattle.std.specs.Prelude.{Ok, Err}
use mathlib.Core.Path.{◌≡◌, refl, sym, subst, ◌∙◌}
use mathlib.Core.Logic.{inl, inr}
use mathlib.Core.List.{List}
use Prim.Native.Nat.{ℕ, ◌+◌, ◌*◌, ◌≤◌, ◌<◌}
use native.Mathlib.Omega.{arith}
use lib.IntN.{ℤ, pos}
use lib.ListN.{length, get_or, set, take, length-set}
use lib.Ieee.{Float}
use lib.Seq.{get_or-set_same, get_or-set_other, get_or-take, length-take-le}
use borrow.Author.Count.{below_more}
use Rattle.whole.specs.Front.{Front, fronted}
use Rattle.whole.proofs.Front.{front_made}
use Rattle.rules.specs.Reach.{Corners}
use Rattle.rules.specs.Refusal.{Passes, Fault}
use Rattle.rules.proofs.Checks.{in_turn_pass}
use Rattle.refusal.specs.Said.{said, Finds}
use Rattle.refusal.specs.declared.Refusal.{Refusal}
use Rattle.refusal.specs.declared.Refusal.TheVariants.{Corners as Corners', Short}
use Rattle.grid.specs.declared.Taken.TheVariants.{Grid}
use Rattle.grid.specs.Number.{Answer}
use Rattle.intake.specs.declared.Corner.{Corner}
use Rattle.intake.specs.Footprint.{corner_at, corners_checks, intake_checks, HoldsCorners, Later}

-- a number that is taken as k is taken as what equals k
pub taken : (v : Float) {j k : ℤ} → j ≡ k → Answer v (Grid k) → Answer v (Grid j)
taken v e = subst (λ (z : ℤ). Answer v (Grid z)) (sym e)

-- ---- one more corner into a list
module _ (cs : List Corner) (i : ℕ) (l : List ℤ) (x y : ℤ) where
  abbrev first : List ℤ
  first = set l (2 * i) x

  abbrev later : List ℤ
  later = set first (2 * i + 1) y

  -- the numbers before it stay
  kept : (j : ℕ) → j < 2 * i → get_or later j (pos 0) ≡ get_or l j (pos 0)
  kept j h = get_or-set_other first (2 * i + 1) j y (pos 0) (omega arith) ∙ get_or-set_other l (2 * i) j x (pos 0) (omega arith)

  module _ (room : 2 * i + 1 < length l) where
    x_there : get_or later (2 * i) (pos 0) ≡ x
    x_there = get_or-set_other first (2 * i + 1) (2 * i) y (pos 0) (omega arith) ∙ get_or-set_same l (2 * i) x (pos 0) (omega arith)

    y_there : get_or later (2 * i + 1) (pos 0) ≡ y
    y_there = get_or-set_same first (2 * i + 1) y (pos 0) (simp length-set room)

    pub hold_more : HoldsCorners cs i l → Answer (corner_at cs i).x (Grid x) → Answer (corner_at cs i).y (Grid y) → HoldsCorners cs (i + 1) later
    hold_more f a b =
        record {
          x = below_more (λ k. Answer (corner_at cs k).x (Grid (get_or later (2 * k) (pos 0)))) i
              (λ k h. taken (corner_at cs k).x (kept (2 * k) (omega arith)) (f.x k h))
              (taken (corner_at cs i).x x_there a);
          y = below_more (λ k. Answer (corner_at cs k).y (Grid (get_or later (2 * k + 1) (pos 0)))) i
              (λ k h. taken (corner_at cs k).y (kept (2 * k + 1) (omega arith)) (f.y k h))
              (taken (corner_at cs i).y y_there b);
        }

-- ---- what the checks find
pub holds_pass : (cs : List Corner) (n : ℕ) (l : List ℤ) → HoldsCorners cs n l → Passes (corners_checks cs n)
holds_pass cs n l h = in_turn_pass _ n (λ i k. ((_, h.x i k), ((_, h.y i k), tt)))

-- ---- the checks of an intake, one after the other
module _ (cs : List Corner) (n size : ℕ) where
  pub beyond_count : (Corners n → ⊥) → Finds (intake_checks cs n size) (Err Corners')
  unfolding intake_checks
  beyond_count f = inl (f, refl)

  pub too_short : Corners n → (2 * n ≤ size → ⊥) → Finds (intake_checks cs n size) (Err Short)
  unfolding intake_checks
  too_short c f = inr (c, inl (f, refl))

  pub fault_in : Corners n → 2 * n ≤ size → (r : Refusal) → Fault (corners_checks cs n) (said r) → Finds (intake_checks cs n size) (Err r)
  unfolding intake_checks
  fault_in c l r f = inr (c, inr (l, f))

  pub all_good : Corners n → 2 * n ≤ size → (l : List ℤ) → HoldsCorners cs n l → Finds (intake_checks cs n size) (Ok tt)
  unfolding intake_checks
  all_good c l h k = (c, (l, holds_pass cs n h k))

-- what was gathered, put into a list
module _ (cs : List Corner) (n : ℕ) (l before : List ℤ) (all : length l ≡ 128) (few : n ≤ 64) (room : 2 * n ≤ length before) where
  abbrev front : List ℤ
  front = take (2 * n) l

  long : length front ≡ 2 * n
  long = length-take-le (2 * n) l (omega arith)

  laid : Front (pos 0) front (length front) before (fronted front before)
  laid = front_made (pos 0) front before (omega (arith, long))

  pub put_fits : length front ≤ length before
  put_fits = omega (arith, long)

  holds_at : (k : ℕ) → k < 2 * n → get_or (fronted front before) k (pos 0) ≡ get_or l k (pos 0)
  holds_at k h = laid.first k (omega (arith, long)) ∙ get_or-take (2 * n) l k (pos 0) h

  pub put_later : HoldsCorners cs n l → Later cs n before (Ok tt) (fronted front before)
  put_later h = (
    record {
      x = λ i lt. taken (corner_at cs i).x (holds_at (2 * i) (omega arith)) (h.x i lt);
      y = λ i lt. taken (corner_at cs i).y (holds_at (2 * i + 1) (omega arith)) (h.y i lt);
    },
    record { size = laid.stays.size; rest = λ j g. laid.stays.rest j (omega (arith, long)) },
  )
