-- "Footprint, place and contact", the third paragraph: a rational moment, and contact at it. Assumes nothing.
use Rattle.std.specs.Prelude.{ℤ, pos, ◌+ℤ◌, ◌*ℤ◌, ◌≤ℤ◌}
use Rattle.whole.specs.Fraction.{Frac, ◌≼◌, whole}
use Rattle.rules.specs.Reach.{Vec, Run, Piece}
use Rattle.rules.specs.Ring.{Pt, Ring, ring}
use Rattle.rules.specs.Place.{OnOrInside}

-- from 0 to the run's length, both counted
pub record Moment (r : Run) (t : Frac) : Type 0 where
  pub from : whole (pos 0) ≼ t
  pub to : t ≼ whole (pos r.ticks)

-- position + t·velocity, over t's denominator
abbrev pub along : Frac → ℤ → ℤ → ℤ
along t p v = t.den *ℤ p +ℤ t.num *ℤ v

abbrev pub moved : Frac → Pt → Vec → Pt
moved t p v = record { x = along t p.x v.x; y = along t p.y v.y }

-- the point, its height, and the corners, at t
abbrev pub point_at : Run → Frac → Pt
point_at r t = moved t (record { x = r.start.x; y = r.start.y }) r.speed

abbrev pub height_at : Run → Frac → ℤ
height_at r t = along t r.start.z r.speed.z

abbrev pub ring_at : Piece → Frac → Ring
ring_at k t = record { size = (ring k.corners).size; at = λ i. moved t ((ring k.corners).at i) k.speed }

-- bottom ≤ z ≤ top at t
pub record InBand (z : ℤ) (k : Piece) (t : Frac) : Type 0 where
  pub bottom : along t k.bottom k.speed.z ≤ℤ z
  pub top : z ≤ℤ along t k.top k.speed.z

-- a point at a height, whatever path it goes: on or inside, and within the band
pub record ContactAt (p : Pt) (z : ℤ) (k : Piece) (t : Frac) : Type 0 where
  pub place : OnOrInside (ring_at k t) p
  pub band : InBand z k t

abbrev pub Contact : Run → Piece → Frac → Type 0
Contact r k t = ContactAt (point_at r t) (height_at r t) k t
