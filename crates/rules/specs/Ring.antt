-- Points, edges, and the ring of corners. Assumes nothing.
use Rattle.std.specs.Prelude.{◌≡◌, ◌⊎◌, cond, List, ℕ, suc, ◌+◌, ◌*◌, ◌/◌, eqb, ℤ, pos, ◌+ℤ◌, ◌-ℤ◌, ◌*ℤ◌, ◌≤ℤ◌, ◌<ℤ◌, length, get_or}

pub record Pt : Type 0 where
  pub x : ℤ
  pub y : ℤ

-- m times a point: the point over the denominator m
abbrev pub times : ℤ → Pt → Pt
times m p = record { x = m *ℤ p.x; y = m *ℤ p.y }

-- corners, and how many
pub record Ring : Type 0 where
  pub size : ℕ
  pub at : ℕ → Pt

-- the corners of a list x, y, x, y ..
abbrev pub ring : List ℤ → Ring
ring l = record { size = length l / 2; at = λ i. record { x = get_or l (2 * i) (pos 0); y = get_or l (2 * i + 1) (pos 0) } }

-- the number after i around a ring of n, the last one's being 0
unfoldable pub next : ℕ → ℕ → ℕ
next n i = cond (eqb (suc i) n) 0 (suc i)

-- edge i leaves corner i and ends at the next
abbrev pub from : Ring → ℕ → Pt
from r i = r.at i

abbrev pub to : Ring → ℕ → Pt
to r i = r.at (next r.size i)

-- edges that follow each other
abbrev pub Neighbours : ℕ → ℕ → ℕ → Type 0
Neighbours n i j = (next n i ≡ j) ⊎ (next n j ≡ i)

-- p lies on the edge from a to b, ends included: i of m parts of the way
pub record On (p a b : Pt) : Type 0 where
  pub m : ℤ
  pub i : ℤ
  pub some : pos 0 <ℤ m
  pub low : pos 0 ≤ℤ i
  pub high : i ≤ℤ m
  pub x : m *ℤ p.x ≡ (m -ℤ i) *ℤ a.x +ℤ i *ℤ b.x
  pub y : m *ℤ p.y ≡ (m -ℤ i) *ℤ a.y +ℤ i *ℤ b.y

-- a rational point, p over m, on both edges
pub record Share (a b c d : Pt) : Type 0 where
  pub m : ℤ
  pub p : Pt
  pub some : pos 0 <ℤ m
  pub first : On p (times m a) (times m b)
  pub second : On p (times m c) (times m d)
