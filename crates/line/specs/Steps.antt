-- What the single steps of reading a line compute. Assumes nothing.
use Rattle.std.specs.Prelude.{◌≡◌, Bool, true, false, cond, List, [], ℕ, ◌+◌, ◌-◌, ◌^◌, ◌<◌, min, ℤ, length, drop, Option, None, Some, Result}
use Rattle.std.specs.Borrow.{Bor}
use Rattle.grid.specs.Number.{signed}
use Rattle.line.specs.declared.Missed.{Missed}
use Rattle.line.specs.declared.Unnamed.{Unnamed}
use Rattle.line.specs.declared.Vertex.{Vertex}
use Rattle.line.specs.Text.{point, parts}
use Rattle.line.specs.Number.{Decimal, is_pointed, pointed, turned, number, digit, few, digits, minus, past, is_decimal, decimal, is_whole}
use Rattle.line.specs.Line.{Line, passed, other, vertex, face}
use Rattle.line.specs.Calls.{vertex_of, part, Word, named, entry}

-- ---- words and parts
-- a word of a line, and what stands after it
pub record Taken (line w after : List ℕ) : Type 0 where
  pub from : ℕ
  pub place : Word line 0 from (from + length w)
  pub some : 0 < length w
  pub word : w ≡ part from (from + length w) line
  pub rest : after ≡ drop (from + length w) line

-- the next one, or none: then it would begin at the end
abbrev pub NextWord : List ℕ → Option (Bor (List ℕ) × Bor (List ℕ)) → Type 0
NextWord line None = Word line 0 (length line) (length line)
NextWord line (Some (w, after)) = Taken line w.now after.now

-- the parts past the first
abbrev pub others : (ℕ → Bool) → Option (List ℕ) → List (List ℕ)
others at None = []
others at (Some rest) = parts at rest

-- ---- numbers
-- a number in 32 bits, the largest where it is above that
abbrev pub saturated : ℕ → ℕ
saturated n = min n (2 ^ 32 - 1)

abbrev pub digit_or : ℕ → Option ℕ
digit_or b = cond (digit b) (Some (b - 48)) None

abbrev pub number_or : List ℕ → Option ℕ
number_or w = cond (digits w) (Some (saturated (number w))) None

abbrev pub few_or : List ℕ → Option ℕ
few_or w = cond (few w) (Some (number w)) None

abbrev pub whole_or : List ℕ → Option ℕ
whole_or w = cond (is_whole w) (Some (saturated (number (past (minus w) w)))) None

-- which of k vertices plus or minus any number names that saturates to n
abbrev pub Named : ℕ → Bool → ℕ → Result ℕ Unnamed → Type 0
Named n s k r = (m : ℕ) → n ≡ saturated m → r ≡ named k (signed s m)

-- ---- decimals
-- the entry of minus or plus whole/scale, scale a power of ten
abbrev pub Entered : Bool → ℕ → ℕ → Result ℤ Missed → Type 0
Entered s w scale e = (places : ℕ) → scale ≡ 10 ^ places → e ≡ entry (record { negative = s; whole = w; places = places })

abbrev pub pointed_or : Bool → List ℕ → Option (Result ℤ Missed)
pointed_or s w = cond (is_pointed (parts point w)) (Some (entry (pointed s (parts point w)))) None

abbrev pub turned_if : Bool → Decimal → Decimal
turned_if true d = turned d
turned_if false d = d

abbrev pub decimal_or : Bool → List ℕ → Option (Result ℤ Missed)
decimal_or t w = cond (is_decimal w) (Some (entry (turned_if t (decimal w)))) None

-- the vertex that a line says
abbrev pub vertex_in : Line → Option Vertex
vertex_in passed = None
vertex_in other = None
vertex_in (vertex p) = Some (vertex_of p)
vertex_in (face ns) = None
