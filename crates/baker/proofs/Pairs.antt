-- An export as corners: an intake looks at no corner past its count, and an export's corners are its pairs. Assumes nothing.
use Rattle.grid.specs.declared.Taken.TheVariants.{Grid}
use Rattle.std.specs.Prelude.{Ok, Err}
use mathlib.Core.Path.{◌≡◌, refl, sym, subst, ◌∙◌}
use mathlib.Core.Logic.{inl, inr}
use mathlib.Core.List.{List, [], ◌∷◌, ◌++◌}
use Prim.Native.Nat.{ℕ, zero, suc, ◌+◌, ◌*◌, ◌/◌, ◌%◌, ◌≤◌, ◌<◌}
use native.Mathlib.Omega.{arith}
use lib.IntN.{ℤ, pos}
use lib.ListN.{length, get_or}
use lib.Ieee.{Float, nan}
use Rattle.rules.specs.Reach.{Corners}
use Rattle.rules.specs.Refusal.{Check, demand, refuse, in_turn}
use Rattle.refusal.specs.Said.{Finds, Checked}
use Rattle.refusal.specs.declared.Refusal.TheVariants as refusal
use Rattle.refusal.proofs.Finds.{finds_after}
use Rattle.intake.specs.declared.Corner.{Corner}
use Rattle.grid.specs.Number.{Answer}
use Rattle.intake.specs.Footprint.{corner_at, corner_checks, corners_checks, intake_checks, Later, Intake}
use Rattle.baker.specs.Export.{corners, export_checks, Exported, Paired}

-- corner i of an export
abbrev pub at : List Float → ℕ → Corner
at xs i = record { x = get_or xs (2 * i) nan; y = get_or xs (2 * i + 1) nan }

-- ---- the corners of an export are its pairs
next : (i : ℕ) → 2 * suc i ≡ suc (suc (2 * i))
next i = omega arith

next_one : (i : ℕ) → 2 * suc i + 1 ≡ suc (suc (2 * i + 1))
next_one i = omega arith

corners_at : (xs : List Float) (i : ℕ) → 2 * i + 1 < length xs → corner_at (corners xs) i ≡ at xs i
corners_at [] i h = absurd (omega arith)
corners_at (x ∷ []) i h = absurd (omega arith)
corners_at (x ∷ (y ∷ l)) zero h = refl
corners_at (x ∷ (y ∷ l)) (suc i) h =
    let shift : at (x ∷ (y ∷ l)) (suc i) ≡ at l i = rw (next_one i, next i) in
    corners_at l i (omega arith) ∙ sym shift

-- ---- an intake of the same corners
module _ (cs ds : List Corner) (n : ℕ) (same : (i : ℕ) → i < n → corner_at cs i ≡ corner_at ds i) where
  checks_same : (k : ℕ) → k ≤ n → corners_checks cs k ≡ corners_checks ds k
  unfolding in_turn
  checks_same zero h = refl
  checks_same (suc k) h = λ i. checks_same k (omega arith) i ++ corner_checks (same k (omega arith) i) k

  later_same : (before : List ℤ) (r : Checked) (later : List ℤ) → Later cs n before r later → Later ds n before r later
  later_same before (Ok _) later f = (
    record {
      x = λ i h. subst (λ (c : Corner). Answer c.x (Grid (get_or later (2 * i) (pos 0)))) (same i h) (f.0.x i h);
      y = λ i h. subst (λ (c : Corner). Answer c.y (Grid (get_or later (2 * i + 1) (pos 0)))) (same i h) (f.0.y i h);
    },
    f.1,
  )
  later_same before (Err x) later f = f

  intake_same : (before : List ℤ) (r : Checked) (later : List ℤ) → Intake cs n before r later → Intake ds n before r later
  unfolding intake_checks
  intake_same before r later f =
      record {
        finds = subst (λ (k : List Check). Finds (demand (Corners n) (refuse 5 0 0) ∷ demand (2 * n ≤ length before) (refuse 10 0 0) ∷ k) r) (checks_same n (omega arith)) f.finds;
        list = later_same before r later f.list;
      }

-- the intake of an even list's corners
module _ (xs : List Float) (cs : List Corner) (before later : List ℤ) (r : Checked) (even : length xs % 2 ≡ 0) where
  pub exported : let n = length xs / 2 in Paired xs n cs → Intake cs n before r later → Exported xs before later r
  unfolding export_checks
  exported p f =
      let n = length xs / 2 in
      let g = intake_same cs (corners xs) n (λ i h. p i h ∙ sym (corners_at xs i (omega arith))) before r later f in
      record { finds = finds_after (demand (length xs % 2 ≡ 0) (refuse 5 0 0)) (intake_checks (corners xs) n (length before)) r even g.finds; list = g.list }

-- ---- lists that no intake is asked of
pub odd_refused : (xs : List Float) (before : List ℤ) → (length xs % 2 ≡ 0 → ⊥) → Exported xs before before (Err refusal.Corners)
unfolding export_checks
odd_refused xs before h = record { finds = inl (h, refl); list = refl }

pub many_refused : (xs : List Float) (before : List ℤ) → length xs % 2 ≡ 0 → 64 < length xs / 2 → Exported xs before before (Err refusal.Corners)
unfolding export_checks intake_checks
many_refused xs before even h = record { finds = inr (even, inl ((λ (k : Corners (length xs / 2)). let m = k.most in absurd (omega (arith, m))), refl)); list = refl }
