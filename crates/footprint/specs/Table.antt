-- The boxes of edges, as a table has them. Assumes nothing.
use Rattle.std.specs.Prelude.{◌≡◌, Bool, ◌||◌, List, ℕ, ◌<◌, ℤ, get_or}
use Rattle.std.specs.Int.Signed.{lt_z}
use Rattle.rules.specs.Ring.{Pt, Ring, from, to}
use Rattle.decide.specs.Touch.{least, most}
use Rattle.footprint.specs.declared.extent.Interval.{Interval}
use Rattle.footprint.specs.declared.extent.Extent.{Extent}

-- from a to b, whichever is lower
abbrev pub interval_of : ℤ → ℤ → Interval
interval_of a b = record { low = least a b; high = most a b }

-- the box of the edge from a to b
abbrev pub extent_of : Pt → Pt → Extent
extent_of a b = record { x = interval_of a.x b.x; y = interval_of a.y b.y }

-- two intervals have no number in common
abbrev pub split : Interval → Interval → Bool
split s t = lt_z t.high s.low || lt_z s.high t.low

-- two boxes have no point in common
abbrev pub extents_apart : Extent → Extent → Bool
extents_apart a b = split a.x b.x || split a.y b.y

-- the first n boxes of a table are those of a ring's edges
abbrev pub AllBoxed : Ring → List Extent → ℕ → Type 0
AllBoxed r t n = (j : ℕ) (d : Extent) → j < n → get_or t j d ≡ extent_of (from r j) (to r j)
