-- What the verdict computes: the first mark at which a point touches a standing footprint within a span. Assumes nothing.
use Rattle.std.specs.Prelude.{Bool, true, false, cond, ◌&&◌, ◌||◌, ℕ, zero, suc, min, ℤ, pos, neg_ℤ, ◌+ℤ◌, ◌-ℤ◌, ◌*ℤ◌}
use Rattle.std.specs.Int.Signed.{le_z, lt_z}
use Rattle.rules.specs.Reach.{Run, Piece}
use Rattle.rules.specs.Ring.{Pt, times, Ring, ring, from, to}
use Rattle.rules.specs.Place.{Where, on, inside, outside}
use Rattle.rules.specs.Verdict.{NONE}
use Rattle.decide.specs.Side.{side_of}
use Rattle.decide.specs.Crossing.{flag, parity}
use Rattle.decide.specs.Span.{Span, ticks, clip, some, first}

abbrev pub least : ℤ → ℤ → ℤ
least a b = cond (le_z a b) a b

abbrev pub most : ℤ → ℤ → ℤ
most a b = cond (le_z a b) b a

-- how the side of p against the edge changes as p runs at w
abbrev pub swing : Pt → Pt → Pt → ℤ
swing a b w = (b.x -ℤ a.x) *ℤ w.y -ℤ (b.y -ℤ a.y) *ℤ w.x

-- the side of v against the line through p along w
abbrev pub across : Pt → Pt → Pt → ℤ
across p w v = w.x *ℤ (v.y -ℤ p.y) -ℤ w.y *ℤ (v.x -ℤ p.x)

abbrev pub same_side : ℤ → ℤ → Bool
same_side u v = (lt_z u (pos 0) && lt_z v (pos 0)) || (lt_z (pos 0) u && lt_z (pos 0) v)

-- the moments of a span at which the point lies on the line of an edge and within its box
unfoldable pub on_line : Pt → Pt → Span → Pt → Pt → Span
on_line p w s a b = clip (clip s (side_of a b p) (swing a b w)) (neg_ℤ (side_of a b p)) (neg_ℤ (swing a b w))

unfoldable pub within : ℤ → ℤ → Span → ℤ → ℤ → Span
within p w s a b = clip (clip s (p -ℤ least a b) w) (most a b -ℤ p) (neg_ℤ w)

unfoldable pub on_edge : Pt → Pt → Span → Pt → Pt → Span
on_edge p w s a b = within p.y w.y (within p.x w.x (on_line p w s a b) a.x b.x) a.y b.y

-- the first mark on an edge; an edge on one side of the line of motion has none
unfoldable pub touch : Pt → Pt → Span → Pt → Pt → ℕ
touch p w s a b = cond (same_side (across p w a) (across p w b)) NONE (cond (some (on_edge p w s a b)) (first (on_edge p w s a b)) NONE)

unfoldable pub touches : Ring → Pt → Pt → Span → ℕ → ℕ
touches r p w s zero = NONE
touches r p w s (suc n) = min (touches r p w s n) (touch p w s (from r n) (to r n))

-- ---- the place
abbrev pub ranged : ℤ → ℤ → ℤ → Bool
ranged a z b = le_z a z && le_z z b

-- on the line of the edge, and within its box
abbrev pub is_on : Pt → Pt → Pt → Bool
is_on p a b = ranged (pos 0) (side_of a b p) (pos 0) && (ranged (least a.x b.x) p.x (most a.x b.x) && ranged (least a.y b.y) p.y (most a.y b.y))

unfoldable pub on_some : Ring → Pt → ℕ → Bool
on_some r p zero = false
on_some r p (suc n) = on_some r p n || is_on p (from r n) (to r n)

unfoldable pub place : Ring → Pt → Where
place r p = cond (on_some r p r.size) on (cond (parity (flag r p) r.size) inside outside)

-- ---- the verdict
abbrev pub point_of : Run → Pt
point_of r = record { x = r.start.x; y = r.start.y }

abbrev pub motion : Run → Piece → Pt
motion r k = record { x = r.speed.x -ℤ k.speed.x; y = r.speed.y -ℤ k.speed.y }

unfoldable pub band_span : Run → Piece → Span
band_span r k = clip (clip (ticks (pos r.ticks)) (r.start.z -ℤ k.bottom) (r.speed.z -ℤ k.speed.z)) (k.top -ℤ r.start.z) (neg_ℤ (r.speed.z -ℤ k.speed.z))

-- the point over the denominator of the span's begin
abbrev pub start_point : Pt → Pt → Span → Pt
start_point p w s = record { x = s.low_d *ℤ p.x +ℤ s.low_n *ℤ w.x; y = s.low_d *ℤ p.y +ℤ s.low_n *ℤ w.y }

-- the corners over a denominator
abbrev pub over : ℤ → Ring → Ring
over d r = record { size = r.size; at = λ i. times d (r.at i) }

-- on or inside
abbrev pub contact : Where → Bool
contact on = true
contact inside = true
contact outside = false

abbrev pub on_or_inside : Ring → Pt → Bool
on_or_inside r p = contact (place r p)

-- the first mark of a point that runs at w within a span
unfoldable pub first_mark : Ring → Pt → Pt → Span → ℕ
first_mark r p w s = cond (some s) (cond (on_or_inside (over s.low_d r) (start_point p w s)) (first s) (touches r p w s r.size)) NONE

unfoldable pub code : Run → Piece → ℕ
code r k = first_mark (ring k.corners) (point_of r) (motion r k) (band_span r k)
