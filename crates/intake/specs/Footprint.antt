-- "From the modelling package": a whole footprint into a lent list, corner by corner. Assumes nothing.
use Rattle.std.specs.Prelude.{◌≡◌, List, [], ◌∷◌, ℕ, ◌+◌, ◌*◌, ◌<◌, ◌≤◌, ℤ, pos, length, get_or, Float, Result, Ok, Err}
use Rattle.std.specs.Float.{nan}
use Rattle.whole.specs.Front.{Stays, fronted}
use Rattle.rules.specs.Reach.{Corners}
use Rattle.rules.specs.Refusal as rules
use Rattle.rules.specs.Refusal.{Check, Fault, demand, refuse, in_turn}
use Rattle.refusal.specs.Said.{said, Checked, Finds, Writes}
use Rattle.refusal.specs.declared.Refusal.{Refusal}
use Rattle.grid.specs.declared.Taken.{Taken}
use Rattle.grid.specs.declared.Taken.TheVariants.{Grid, OffGrid, NotNumber, Beyond}
use Rattle.intake.specs.declared.Corner.{Corner}
use Rattle.grid.specs.Number.{Answer}

-- the row of the table for an answer, with corner a and coordinate b
abbrev pub Row : Taken → ℕ → ℕ → rules.Refusal → Type 0
Row (Grid k) a b s = ⊥
Row (OffGrid w) a b s = s ≡ refuse 13 a b
Row NotNumber a b s = s ≡ refuse 11 a b
Row Beyond a b s = s ≡ refuse 12 a b

-- a number is taken, or refused by its answer
abbrev pub number_check : Float → ℕ → ℕ → Check
number_check x a b = record { passes = (k : ℤ) × Answer x (Grid k); fails = λ s. (t : Taken) × Answer x t × Row t a b s }

-- x before y
abbrev pub corner_checks : Corner → ℕ → List Check
corner_checks c a = number_check c.x a 0 ∷ number_check c.y a 1 ∷ []

-- corner a of an export
abbrev pub corner_at : List Corner → ℕ → Corner
corner_at cs a = get_or cs a (record { x = nan; y = nan })

-- corner by corner, the first n
abbrev pub corners_checks : List Corner → ℕ → List Check
corners_checks cs n = in_turn (λ a. corner_checks (corner_at cs a) a) n

-- the checks of an intake of n corners into a list of some length, in their order
unfoldable pub intake_checks : List Corner → ℕ → ℕ → List Check
intake_checks cs n size = demand (Corners n) (refuse 5 0 0) ∷ demand (2 * n ≤ size) (refuse 10 0 0) ∷ corners_checks cs n

-- the first n corners in a list, x then y
pub record HoldsCorners (cs : List Corner) (n : ℕ) (l : List ℤ) : Type 0 where
  pub x : (i : ℕ) → i < n → Answer (corner_at cs i).x (Grid (get_or l (2 * i) (pos 0)))
  pub y : (i : ℕ) → i < n → Answer (corner_at cs i).y (Grid (get_or l (2 * i + 1) (pos 0)))

-- what the lent list holds afterwards: the corners, or what it held
abbrev pub Later : List Corner → ℕ → List ℤ → Checked → List ℤ → Type 0
Later cs n before (Ok _) later = HoldsCorners cs n later × Stays (pos 0) (2 * n) before later
Later cs n before (Err r) later = later ≡ before

-- an intake: what is answered, and what the lent list holds
pub record Intake (cs : List Corner) (n : ℕ) (before : List ℤ) (r : Checked) (later : List ℤ) : Type 0 where
  pub finds : Finds (intake_checks cs n (length before)) r
  pub list : Later cs n before r later

-- ---- numbers into a lent list, which must be at least as long
abbrev pub put_checks : List ℤ → List ℤ → List Check
put_checks numbers before = demand (length numbers ≤ length before) (refuse 10 0 0) ∷ []

-- what is answered, and what the lent list holds: the numbers and then its own later elements, or what it held
abbrev pub Put : List ℤ → List ℤ → Checked → List ℤ → Type 0
Put numbers before r later = Writes (put_checks numbers before) (fronted numbers before) before later r

-- ---- the steps
-- r is the refusal of an answer that is not taken
abbrev pub Refuses : Taken → ℕ → ℕ → Refusal → Type 0
Refuses t a b r = ((k : ℤ) → t ≡ Grid k → ⊥) → Row t a b (said r)

-- a corner's two numbers, or its fault
abbrev pub Paired : Corner → ℕ → Result (ℤ × ℤ) Refusal → Type 0
Paired c a (Ok (x, y)) = Answer c.x (Grid x) × Answer c.y (Grid y)
Paired c a (Err r) = Fault (corner_checks c a) (said r)

-- all corners' numbers, or the first fault
abbrev pub Gathered : List Corner → ℕ → Result (List ℤ) Refusal → Type 0
Gathered cs n (Ok l) = HoldsCorners cs n l × (length l ≡ 128)
Gathered cs n (Err r) = Fault (corners_checks cs n) (said r)
