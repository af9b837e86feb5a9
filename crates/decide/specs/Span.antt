-- A span of moments between two fractions, and clipping it by a linear inequality. Assumes nothing.
use Rattle.std.specs.Prelude.{Bool, cond, ℕ, ℤ, pos, negsuc, neg_ℤ, nat_abs, ◌*ℤ◌}
use Rattle.std.specs.Int.Signed.{le_z, lt_z, quot_z}

-- from low_n/low_d to high_n/high_d, both counted
pub record Span : Type 0 where
  pub low_n : ℤ
  pub low_d : ℤ
  pub high_n : ℤ
  pub high_d : ℤ

-- from 0 to t ticks
abbrev pub ticks : ℤ → Span
ticks t = record { low_n = pos 0; low_d = pos 1; high_n = t; high_d = pos 1 }

-- not before n/d
unfoldable pub raise : Span → ℤ → ℤ → Span
raise s n d = cond (lt_z (s.low_n *ℤ d) (n *ℤ s.low_d)) (record { low_n = n; low_d = d; high_n = s.high_n; high_d = s.high_d }) s

-- not after n/d
unfoldable pub lower : Span → ℤ → ℤ → Span
lower s n d = cond (lt_z (n *ℤ s.high_d) (s.high_n *ℤ d)) (record { low_n = s.low_n; low_d = s.low_d; high_n = n; high_d = d }) s

-- no moment at all
unfoldable pub none : Span → Span
none s = record { low_n = s.low_n; low_d = s.low_d; high_n = negsuc 0; high_d = pos 1 }

-- the moments t with 0 ≤ α + β t
unfoldable pub clip : Span → ℤ → ℤ → Span
clip s α β = cond (lt_z (pos 0) β) (raise s (neg_ℤ α) β) (cond (lt_z β (pos 0)) (lower s α (neg_ℤ β)) (cond (lt_z α (pos 0)) (none s) s))

-- there is a moment
abbrev pub some : Span → Bool
some s = le_z (s.low_n *ℤ s.high_d) (s.high_n *ℤ s.low_d)

-- the mark of its first moment
abbrev pub first : Span → ℕ
first s = nat_abs (quot_z (pos 256 *ℤ s.low_n) s.low_d)
