-- Exported numbers in and out: one number's answer, and a footprint as a list x, y, x, y .. Assumes nothing.
use Rattle.grid.specs.declared.Taken.TheVariants.{Grid, OffGrid, NotNumber, Beyond}
use Rattle.std.specs.Prelude.{◌≡◌, List, [], ◌∷◌, ℕ, ◌+◌, ◌*◌, ◌/◌, ◌%◌, ◌<◌, ℤ, length, get_or, Float}
use Rattle.std.specs.Float.{nan}
use Rattle.rules.specs.Refusal.{Check, demand, refuse}
use Rattle.refusal.specs.Said.{Finds, Checked}
use Rattle.intake.specs.declared.Corner.{Corner}
use Rattle.grid.specs.declared.Taken.{Taken}
use Rattle.intake.specs.Footprint.{corner_at, intake_checks, Later}
use Rattle.coding.specs.Coded.{Meaning, value, Out, out}

-- the two numbers that are lent
pub record Lent : Type 0 where
  pub grid : ℤ
  pub floor : Float

abbrev pub lent : ℤ → Float → Lent
lent g f = record { grid = g; floor = f }

-- 0 and the grid number; 1 and the grid value below; 2 not a number; 3 out of reach. What is not named stays.
abbrev pub taken_one : ℤ → Float → Taken → Out Meaning Lent
taken_one g f (Grid k) = out (value 0) (lent k f)
taken_one g f (OffGrid w) = out (value 1) (lent g w)
taken_one g f NotNumber = out (value 2) (lent g f)
taken_one g f Beyond = out (value 3) (lent g f)

-- the corners of an export x, y, x, y ..
abbrev pub corners : List Float → List Corner
corners [] = []
corners (x ∷ []) = []
corners (x ∷ (y ∷ l)) = record { x = x; y = y } ∷ corners l

-- an odd list is refused with 5; then the checks of an intake
unfoldable pub export_checks : List Float → ℕ → List Check
export_checks xs size = demand (length xs % 2 ≡ 0) (refuse 5 0 0) ∷ intake_checks (corners xs) (length xs / 2) size

-- what is answered, and what the lent list holds
pub record Exported (xs : List Float) (before later : List ℤ) (r : Checked) : Type 0 where
  pub finds : Finds (export_checks xs (length before)) r
  pub list : Later (corners xs) (length xs / 2) before r later

-- ---- the step
-- the first n corners of an export stand in a list of corners
abbrev pub Paired : List Float → ℕ → List Corner → Type 0
Paired xs n cs = (i : ℕ) → i < n → corner_at cs i ≡ record { x = get_or xs (2 * i) nan; y = get_or xs (2 * i + 1) nan }
