-- What each case of the enum says: the number and the places of the table. Assumes nothing.
use Rattle.std.specs.Prelude.{◌≡◌, List, ℕ, Result, Ok, Err}
use Rattle.rules.specs.Refusal as rules
use Rattle.rules.specs.Refusal.{refuse, in_block, Check as Test, Passes, Fault}
use Rattle.refusal.specs.declared.Refusal.{Refusal}
use Rattle.refusal.specs.declared.Refusal.TheVariants.{Length, Check, Kind, Reach, Corners, Same, Fold, Meet, Clockwise, Short, NotNumber, Beyond, OffGrid, Line, Index, Face}
use Rattle.refusal.specs.declared.Row.{Row}

-- the row of the table
abbrev pub row : Refusal → rules.Refusal
row Length = refuse 1 0 0
row Check = refuse 2 0 0
row (Kind a) = refuse 3 a 0
row (Reach a) = refuse 4 a 0
row Corners = refuse 5 0 0
row (Same a) = refuse 6 a 0
row (Fold a) = refuse 7 a 0
row (Meet a b) = refuse 8 a b
row Clockwise = refuse 9 0 0
row Short = refuse 10 0 0
row (NotNumber a b) = refuse 11 a b
row (Beyond a b) = refuse 12 a b
row (OffGrid a b) = refuse 13 a b
row (Line a) = refuse 14 a 0
row (Index a) = refuse 15 a 0
row (Face a) = refuse 16 a 0

-- what is said in block n of a room; outside a room the block is 0
abbrev pub said_in : Refusal → ℕ → rules.Refusal
said_in x n = in_block n (row x)

abbrev pub said : Refusal → rules.Refusal
said x = said_in x 0

-- r is the row of x
abbrev pub RowOf : Refusal → Row → Type 0
RowOf x r = (r.number ≡ (said x).number) × (r.a ≡ (said x).a) × (r.b ≡ (said x).b)

-- what checks find, as the code has it: nothing to say, or a refusal
abbrev pub Checked : Type 0
Checked = Result (Unit {0}) Refusal

-- what checks find: all pass, or the first fault
abbrev pub Finds : List Test → Checked → Type 0
Finds cs (Ok _) = Passes cs
Finds cs (Err r) = Fault cs (said r)

-- what is told: of what the checks pass, an answer that P says; otherwise the first fault
abbrev pub Told : {A : Type 0} → List Test → (A → Type 0) → Result A Refusal → Type 0
Told cs P (Ok a) = Passes cs × P a
Told cs P (Err x) = Fault cs (said x)

-- writing what the checks pass makes what was asked for; otherwise the first fault is answered and all is as it was
abbrev pub Writes : {A : Type 0} → List Test → A → A → A → Checked → Type 0
Writes cs made before after (Ok _) = Passes cs × (after ≡ made)
Writes cs made before after (Err r) = Fault cs (said r) × (after ≡ before)
