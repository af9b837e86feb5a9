-- What the table has of a decimal tells what its checks find: 12, 13, or nothing, and then it is its grid number. Assumes nothing.
use mathlib.Core.Path.{◌≡◌, refl}
use mathlib.Core.Logic.{inl, inr}
use Prim.Native.Nat.{ℕ, ◌≤◌}
use native.Mathlib.Omega.{arith}
use lib.IntN.{ℤ, pos, negsuc, nat_abs}
use Rattle.std.proofs.Common.{Ok, Err, IfOk}
use Rattle.std.proofs.lemmas.Int.{ints}
use Rattle.whole.specs.Fraction.{◌≈◌}
use Rattle.rules.specs.Reach.{Reach}
use Rattle.rules.specs.Refusal.{Passes, Fault}
use Rattle.refusal.specs.Said.{said}
use Rattle.grid.specs.Number.{grid}
use Rattle.line.specs.declared.Missed.{Missed}
use Rattle.line.specs.declared.Missed.TheVariants.{Beyond, OffGrid}
use Rattle.line.specs.Number.{Decimal, value, gridded}
use Rattle.line.specs.Calls.{entry}
use Rattle.line.proofs.Exact.{grid_small, Tells, far, off, on, tells}
use Rattle.line.proofs.Told.{no}
use Rattle.obj.specs.File.{decimal_checks}
use Rattle.obj.specs.Steps.{missing}

module _ (d : Decimal) (a b : ℕ) where
  pub miss_fault : (m : Missed) → entry d ≡ Err m → Fault (decimal_checks d a b) (said (missing m a b))
  unfolding decimal_checks
  miss_fault m e = by (tells d)
    where
      by : Tells d → Fault (decimal_checks d a b) (said (missing m a b))
      by (far h f) = let q : m ≡ Beyond = cc in rw q (inl (f, refl))
      by (off h w f) = let q : m ≡ OffGrid = cc in rw q (inr (w, inl (f, refl)))
      by (on h w g) = no (cc)

  pub on_grid : (k : ℤ) → entry d ≡ Ok k → Passes (decimal_checks d a b) × (k ≡ gridded d)
  unfolding decimal_checks
  on_grid k e = by (tells d)
    where
      by : Tells d → Passes (decimal_checks d a b) × (k ≡ gridded d)
      by (far h f) = no (cc)
      by (off h w f) = no (cc)
      by (on h w g) = ((w, ((gridded d, g), tt)), cc)

  -- where nothing is refused the grid number is sixteen times the decimal, as the intake has it
  pub exact : Passes (decimal_checks d a b) → grid (gridded d) ≈ value d
  unfolding decimal_checks
  exact p = by (tells d)
    where
      by : Tells d → grid (gridded d) ≈ value d
      by (far h f) = absurd (f p.0)
      by (off h w f) = absurd (f p.1.0)
      by (on h w g) = g

-- ---- a grid number of the table is within reach
pub on_small : (d : Decimal) (k : ℤ) → entry d ≡ Ok k → nat_abs k ≤ 16384
on_small d k e = by (tells d)
  where
    by : Tells d → nat_abs k ≤ 16384
    by (far h f) = no (cc)
    by (off h w f) = no (cc)
    by (on h w g) = let q : k ≡ gridded d = cc in rw q (grid_small d w)

small_reach : (z : ℤ) → nat_abs z ≤ 16384 → Reach z
small_reach (pos n) h = record { above = omega (arith, ints); below = omega (arith, ints) }
small_reach (negsuc n) h = record { above = omega (arith, ints); below = omega (arith, ints) }

pub entry_reach : (d : Decimal) → IfOk (entry d) Reach
entry_reach d = by (tells d)
  where
    by : Tells d → IfOk (entry d) Reach
    by (far h f) = rw h tt
    by (off h w f) = rw h tt
    by (on h w g) = rw h (small_reach (gridded d) (grid_small d w))
