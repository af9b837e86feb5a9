-- Every refusal that an export can give fits in the bits of its code. Assumes nothing.
use Rattle.grid.specs.declared.Taken.TheVariants.{Grid, OffGrid, NotNumber, Beyond}
use mathlib.Core.Path.{sym, subst}
use mathlib.Core.List.{List}
use Prim.Native.Nat.{ℕ, ◌^◌, ◌≤◌, ◌<◌}
use native.Mathlib.Omega.{arith}
use lib.Ieee.{Float}
use Rattle.rules.specs.Refusal.{Refusal}
use Rattle.intake.specs.declared.Corner.{Corner}
use Rattle.grid.specs.declared.Taken.{Taken}
use Rattle.intake.specs.Footprint.{Row, number_check, corner_at, corners_checks, intake_checks}
use Rattle.coding.specs.Told.{Fits}
use Rattle.coding.proofs.Arise.{Fit, AllFit, small, first, last, asks, fit_in_turn}
use Rattle.baker.specs.Export.{corners, export_checks}

fit_number : (x : Float) (a b : ℕ) → a < 2 ^ 24 → b < 2 ^ 16 → Fit (number_check x a b)
fit_number x a b h k = record { fits = λ s f. by_row f.0 s f.2 }
  where
    by_row : (t : Taken) (s : Refusal) → Row t a b s → Fits s
    by_row (Grid g) s r = absurd r
    by_row (OffGrid w) s r = subst Fits (sym r) (small 13 a b (omega arith) h k)
    by_row NotNumber s r = subst Fits (sym r) (small 11 a b (omega arith) h k)
    by_row Beyond s r = subst Fits (sym r) (small 12 a b (omega arith) h k)

fit_corners : (cs : List Corner) (n : ℕ) → n ≤ 64 → AllFit (corners_checks cs n)
fit_corners cs n h =
    fit_in_turn _ n λ i k. first (fit_number (corner_at cs i).x i 0 (omega arith) (omega arith)) (λ p. last (fit_number (corner_at cs i).y i 1 (omega arith) (omega arith)))

pub fit_export : (xs : List Float) (size : ℕ) → AllFit (export_checks xs size)
unfolding export_checks intake_checks
fit_export xs size = asks (omega arith) (λ p. asks (omega arith) (λ c. asks (omega arith) (λ p. fit_corners (corners xs) _ c.most)))
