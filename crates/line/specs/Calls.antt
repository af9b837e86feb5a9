-- Request 1: what the two calls answer. Reading a line is an equality, so it has one answer; the next corner has one by proofs/Unique `next_one`. Assumes nothing.
use Rattle.std.specs.Prelude.{◌≡◌, Bool, true, false, cond, not, List, [], ◌∷◌, ℕ, ◌*◌, ◌-◌, ◌%◌, ◌^◌, ◌≤◌, ◌<◌, eqb, ltb, min, ℤ, length, get_or, take, drop, Option, None, Some, Result, Ok, Err}
use Rattle.line.specs.declared.Missed.{Missed}
use Rattle.line.specs.declared.Missed.TheVariants.{Beyond, OffGrid}
use Rattle.line.specs.declared.Unnamed.{Unnamed}
use Rattle.line.specs.declared.Unnamed.TheVariants.{NoVertex, NoCorner}
use Rattle.line.specs.declared.Said.{Said}
use Rattle.line.specs.declared.Said.TheVariants as says
use Rattle.line.specs.declared.Corner.{Corner}
use Rattle.line.specs.declared.Vertex.{Vertex}
use Rattle.line.specs.Text.{blank, words}
use Rattle.line.specs.Number.{Decimal, gridded, is_corner, index}
use Rattle.line.specs.Line.{Point, Line, passed, other, vertex, face, names, all_named}

-- ---- a line
-- a decimal's grid number, or what keeps it from the grid: one whose size is more than 1,024 is out of reach; one is on the grid where sixteen times it is whole.
-- That the intake's `Within` and `grid` say so of its value: proofs/Exact `tells`
unfoldable pub entry : Decimal → Result ℤ Missed
entry d = cond (ltb (1024 * 10 ^ d.places) d.whole) (Err Beyond) (cond (eqb (16 * d.whole % 10 ^ d.places) 0) (Ok (gridded d)) (Err OffGrid))

-- a point as a vertex
abbrev pub vertex_of : Point → Vertex
vertex_of p = record { x = entry p.x; y = entry p.y }

-- what a line says, with k vertices above it
abbrev pub said_of : ℕ → Line → Said
said_of k passed = says.Passed
said_of k other = says.Other
said_of k (vertex p) = says.Vertex (vertex_of p)
said_of k (face ns) = says.Face (all_named k ns)

-- ---- the next word of a line, and the vertex that it names as a corner
-- what stands from here up to there
abbrev pub part : ℕ → ℕ → List ℕ → List ℕ
part from to s = take (to - from) (drop from s)

-- the first place from here on where p holds of the byte, or the end
pub record Until (p : ℕ → Bool) (s : List ℕ) (from to : ℕ) : Type 0 where
  pub above : from ≤ to
  pub below : to ≤ length s
  pub none : (k : ℕ) → from ≤ k → k < to → p (get_or s k 0) ≡ false
  pub at : to < length s → p (get_or s to 0) ≡ true

-- the words of a line from a word on; none where that begins at the end
abbrev pub words_from : List ℕ → ℕ → ℕ → List (List ℕ)
words_from line from to = cond (ltb from (length line)) (part from to line ∷ words (drop to line)) []

-- the next word from here on: past the blanks and up to the next; it is not empty, and it is the first of the words from here on
pub record Word (line : List ℕ) (at from to : ℕ) : Type 0 where
  pub begins : Until (λ b. not (blank b)) line at from
  pub ends : Until blank line from to
  pub some : from < length line → from < to
  pub words : words (drop at line) ≡ words_from line from to

-- the vertex that an index names, of k above the line
abbrev pub named : ℕ → ℤ → Result ℕ Unnamed
named k n = cond (ltb (names k n) k) (Ok (names k n)) (Err NoVertex)

-- and that a word names as a corner
abbrev pub corner_or : ℕ → List ℕ → Result ℕ Unnamed
corner_or k w = cond (is_corner w) (named k (index w)) (Err NoCorner)

-- a place of a line; one past its end is its end
abbrev pub within : List ℕ → ℕ → ℕ
within line at = min at (length line)

-- a word from here on, with k vertices above the line
pub record NextCorner (line : List ℕ) (at k : ℕ) (c : Corner) : Type 0 where
  pub some : c.from < length line
  pub word : Word line at c.from c.to
  pub vertex : c.vertex ≡ corner_or k (part c.from c.to line)

-- the next one, or none: then the next word would begin at the end
abbrev pub Next : List ℕ → ℕ → ℕ → Option Corner → Type 0
Next line at k None = Word line (within line at) (length line) (length line)
Next line at k (Some c) = NextCorner line (within line at) k c
