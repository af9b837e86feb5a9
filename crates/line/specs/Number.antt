-- Request 1: the numbers of a line, decimals and whole numbers, and what they are worth. Assumes nothing.
use Rattle.std.specs.Prelude.{Bool, true, false, cond, not, ◌&&◌, ◌||◌, List, [], ◌∷◌, ◌++◌, ℕ, ◌+◌, ◌*◌, ◌-◌, ◌/◌, ◌^◌, eqb, leb, ℤ, pos, length, get_or, drop}
use Rattle.std.proofs.Math.Nat.{one-le-pow}
use Rattle.std.proofs.Common.{lt→ltb, lit≤}
use Rattle.whole.specs.Fraction.{Frac}
use Rattle.grid.specs.Number.{signed}
use Rattle.line.specs.Text.{parts, slash, point}

abbrev pub digit : ℕ → Bool
digit b = leb 48 b && leb b 57

unfoldable pub all_digits : List ℕ → Bool
all_digits [] = true
all_digits (b ∷ l) = digit b && all_digits l

abbrev pub empty : List ℕ → Bool
empty [] = true
empty (b ∷ l) = false

-- one digit or more
abbrev pub digits : List ℕ → Bool
digits l = not (empty l) && all_digits l

-- one to nine digits
abbrev pub few : List ℕ → Bool
few l = digits l && leb (length l) 9

-- the number that n and then these digits say
unfoldable pub amount : ℕ → List ℕ → ℕ
amount n [] = n
amount n (b ∷ l) = amount (10 * n + (b - 48)) l

abbrev pub number : List ℕ → ℕ
number l = amount 0 l

-- ---- the first byte may be a sign
abbrev pub first : List ℕ → ℕ
first w = get_or w 0 0

abbrev pub minus : List ℕ → Bool
minus w = eqb (first w) 45

abbrev pub plus : List ℕ → Bool
plus w = eqb (first w) 43

abbrev pub past : Bool → List ℕ → List ℕ
past sign w = cond sign (drop 1 w) w

-- ---- a decimal: plus or minus a whole number over a power of ten
pub record Decimal : Type 0 where
  pub negative : Bool
  pub whole : ℕ
  pub places : ℕ

-- digits, perhaps a point and digits
abbrev pub is_pointed : List (List ℕ) → Bool
is_pointed [] = false
is_pointed (a ∷ []) = few a
is_pointed (a ∷ (b ∷ [])) = few a && few b
is_pointed (a ∷ (b ∷ (c ∷ l))) = false

abbrev pub naught : Decimal
naught = record { negative = false; whole = 0; places = 0 }

abbrev pub pointed : Bool → List (List ℕ) → Decimal
pointed s [] = naught
pointed s (a ∷ []) = record { negative = s; whole = number a; places = 0 }
pointed s (a ∷ (b ∷ l)) = record { negative = s; whole = number (a ++ b); places = length b }

unfoldable pub is_decimal : List ℕ → Bool
is_decimal w = is_pointed (parts point (past (minus w || plus w) w))

unfoldable pub decimal : List ℕ → Decimal
decimal w = pointed (minus w) (parts point (past (minus w || plus w) w))

-- its value, as the intake has values
abbrev pub value : Decimal → Frac
value d = record { num = signed d.negative d.whole; den = pos (10 ^ d.places); some = record { lt = lt→ltb 0 (10 ^ d.places) (one-le-pow d.places 10 (lit≤ tt)) } }

-- minus a decimal
abbrev pub turned : Decimal → Decimal
turned d = record { negative = not d.negative; whole = d.whole; places = d.places }

-- sixteen times a decimal, where that is whole
unfoldable pub gridded : Decimal → ℤ
gridded d = signed d.negative (16 * d.whole / 10 ^ d.places)

-- ---- a whole number of any length, perhaps with a minus
abbrev pub is_whole : List ℕ → Bool
is_whole w = digits (past (minus w) w)

abbrev pub whole : List ℕ → ℤ
whole w = signed (minus w) (number (past (minus w) w))

-- ---- a corner: n, n/t, n//m or n/t/m
-- what follows n
abbrev pub is_after : List (List ℕ) → Bool
is_after [] = true
is_after (t ∷ []) = is_whole t
is_after (t ∷ (m ∷ [])) = (empty t || is_whole t) && is_whole m
is_after (t ∷ (m ∷ (k ∷ l))) = false

abbrev pub is_slashed : List (List ℕ) → Bool
is_slashed [] = false
is_slashed (n ∷ l) = is_whole n && is_after l

abbrev pub slashed : List (List ℕ) → ℤ
slashed [] = pos 0
slashed (n ∷ l) = whole n

unfoldable pub is_corner : List ℕ → Bool
is_corner w = is_slashed (parts slash w)

-- its index n
unfoldable pub index : List ℕ → ℤ
index w = slashed (parts slash w)
