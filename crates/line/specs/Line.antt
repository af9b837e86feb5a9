-- Request 1: what a line of a file says. Assumes nothing.
use Rattle.std.specs.Prelude.{Bool, true, false, cond, ◌&&◌, ◌||◌, List, [], ◌∷◌, map, ℕ, zero, suc, ◌-◌, eqb, ltb, ℤ, pos, negsuc}
use Rattle.line.specs.Text.{words}
use Rattle.line.specs.Number.{Decimal, first, is_decimal, decimal, turned, is_corner, index}

-- a point of the floor plan, in the file's unit
pub record Point : Type 0 where
  pub x : Decimal
  pub y : Decimal

-- passed over, a vertex, a face by its indices, or any other line
pub data Line : Type 0 where
  passed other : Line
  vertex : Point → Line
  face : List ℤ → Line

-- the same bytes
unfoldable pub same : List ℕ → List ℕ → Bool
same [] [] = true
same [] (c ∷ m) = false
same (b ∷ l) [] = false
same (b ∷ l) (c ∷ m) = eqb b c && same l m

unfoldable pub among : List ℕ → List (List ℕ) → Bool
among w [] = false
among w (v ∷ vs) = same w v || among w vs

-- o, g, s, vn, vt, usemtl, mtllib
abbrev pub passed_words : List (List ℕ)
passed_words =
    (111 ∷ [])
    ∷ (103 ∷ [])
    ∷ (115 ∷ [])
    ∷ (118 ∷ 110 ∷ [])
    ∷ (118 ∷ 116 ∷ [])
    ∷ (117 ∷ 115 ∷ 101 ∷ 109 ∷ 116 ∷ 108 ∷ [])
    ∷ (109 ∷ 116 ∷ 108 ∷ 108 ∷ 105 ∷ 98 ∷ [])
    ∷ []

-- three decimals: their x is our x, minus their z our y, and their height is ignored
abbrev pub vertex_line : List (List ℕ) → Line
vertex_line [] = other
vertex_line (x ∷ []) = other
vertex_line (x ∷ (y ∷ [])) = other
vertex_line (x ∷ (y ∷ (z ∷ []))) = cond (is_decimal x && (is_decimal y && is_decimal z)) (vertex (record { x = decimal x; y = turned (decimal z) })) other
vertex_line (x ∷ (y ∷ (z ∷ (w ∷ ws)))) = other

-- any number of corners
unfoldable pub all_corners : List (List ℕ) → Bool
all_corners [] = true
all_corners (w ∷ ws) = is_corner w && all_corners ws

abbrev pub face_line : List (List ℕ) → Line
face_line ws = cond (all_corners ws) (face (map index ws)) other

-- by the first word: v, f, or one that is passed over; a line without words is blank
abbrev pub by_words : List (List ℕ) → Line
by_words [] = passed
by_words (w ∷ ws) = cond (same w (118 ∷ [])) (vertex_line ws) (cond (same w (102 ∷ [])) (face_line ws) (cond (among w passed_words) passed other))

-- a line that begins with # is passed over
unfoldable pub line_of : List ℕ → Line
line_of l = cond (eqb (first l) 35) passed (by_words (words l))

-- which of k vertices an index names: the n-th from 1, or counted back from the last; k where it names none
unfoldable pub names : ℕ → ℤ → ℕ
names k (pos zero) = k
names k (pos (suc i)) = cond (ltb i k) i k
names k (negsuc i) = cond (ltb i k) (k - suc i) k

unfoldable pub all_named : ℕ → List ℤ → Bool
all_named k [] = true
all_named k (n ∷ ns) = ltb (names k n) k && all_named k ns
