-- What the place is counted by: whether an edge crosses the upward ray of a point, and the parity of such flags. Assumes nothing.
use Rattle.std.specs.Prelude.{Bool, true, false, not, ℕ, zero, suc, ℤ, pos}
use Rattle.std.specs.Int.Signed.{le_z, lt_z}
use Rattle.rules.specs.Ring.{Pt, Ring, from, to}
use Rattle.decide.specs.Side.{side_of}

-- by whether each end's x is at most the point's, and the side on which the point lies
abbrev pub counts : Bool → Bool → ℤ → Bool
counts true true z = false
counts true false z = lt_z z (pos 0)
counts false true z = lt_z (pos 0) z
counts false false z = false

abbrev pub xor : Bool → Bool → Bool
xor true b = not b
xor false b = b

-- the edge a b crosses the upward ray from p
abbrev pub crosses : Pt → Pt → Pt → Bool
crosses a b p = counts (le_z a.x p.x) (le_z b.x p.x) (side_of a b p)

-- the flag of edge k of a ring
abbrev pub flag : Ring → Pt → ℕ → Bool
flag r p k = crosses (from r k) (to r k) p

-- whether an odd number of the first n flags are set
unfoldable pub parity : (ℕ → Bool) → ℕ → Bool
parity f zero = false
parity f (suc n) = xor (parity f n) (f n)
