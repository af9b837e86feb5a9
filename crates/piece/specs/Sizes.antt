-- The sizes that the code computes with. Assumes nothing.
use Rattle.std.specs.Prelude.{List, ℕ, ◌≤◌, ◌<◌, ℤ, pos, nat_abs, ◌+ℤ◌, ◌*ℤ◌, ◌≤ℤ◌, ◌<ℤ◌}
use Rattle.std.specs.Int.Signed.{quot_z}
use Rattle.std.specs.Int.{w64}
use Rattle.std.proofs.Common.{SFits, of_z}
use Rattle.rules.specs.Reach.{Run, Piece}
use Rattle.rules.specs.Ring.{Pt, ring}
use Rattle.decide.specs.Span.{Span}
use Rattle.footprint.specs.Shape.{HoldsRing, Corner}

-- ---- points
-- as far as a point over a denominator lies
pub record Far (p : Pt) : Type 0 where
  pub x : nat_abs p.x ≤ 25067520
  pub y : nat_abs p.y ≤ 25067520

-- a point within reach
pub record Close (p : Pt) : Type 0 where
  pub x : nat_abs p.x ≤ 16384
  pub y : nat_abs p.y ≤ 16384

-- a difference of two velocities
pub record Slow (w : Pt) : Type 0 where
  pub x : nat_abs w.x ≤ 510
  pub y : nat_abs w.y ≤ 510

-- a list that holds the corners of a ring, each within reach
pub record Held (l : List ℤ) : Type 0 where
  pub holds : HoldsRing l (ring l).size
  pub corners : (j : ℕ) → j < (ring l).size → Corner l j

-- ---- moments
-- a moment n/d whose product with another's number is below 2^60
pub record Sized (n d : ℤ) : Type 0 where
  pub some : pos 0 <ℤ d
  pub num : nat_abs n ≤ 8589934592
  pub den : nat_abs d ≤ 67108864

-- from a moment at or after 0 to one not after 4,096 ticks, numerators of at most N over denominators from 1 to D
pub record Tame (N D : ℕ) (s : Span) : Type 0 where
  pub begin : pos 0 ≤ℤ s.low_n
  pub end : s.high_n ≤ℤ (pos 4096 *ℤ s.high_d)
  pub low : pos 0 <ℤ s.low_d
  pub high : pos 0 <ℤ s.high_d
  pub low_n : nat_abs s.low_n ≤ N
  pub low_d : nat_abs s.low_d ≤ D
  pub high_n : nat_abs s.high_n ≤ N
  pub high_d : nat_abs s.high_d ≤ D

-- an inequality 0 ≤ a + b t that keeps a span tame
pub record Bounds (N D : ℕ) (a b : ℤ) : Type 0 where
  pub base : nat_abs a ≤ N
  pub slope : nat_abs b ≤ D

abbrev pub Slope : ℤ → ℤ → Type 0
Slope = Bounds 8589934592 67108864

-- each step of 256 n / d fits, and the divisor is not 0
pub record MarkSteps (n d : ℤ) : Type 0 where
  pub scaled : SFits w64 (pos 256 *ℤ n)
  pub divisor : 0 < of_z w64 d
  pub all : SFits w64 (quot_z (pos 256 *ℤ n) d)

-- ---- motions
-- a coordinate, its speed, and two others
pub record Flat (p w a b : ℤ) : Type 0 where
  pub start : nat_abs p ≤ 16384
  pub speed : nat_abs w ≤ 510
  pub from : nat_abs a ≤ 16384
  pub to : nat_abs b ≤ 16384

-- a run and a band whose heights are within reach
pub record Level (r : Run) (k : Piece) : Type 0 where
  pub start : nat_abs r.start.z ≤ 16384
  pub bottom : nat_abs k.bottom ≤ 16384
  pub top : nat_abs k.top ≤ 16384
  pub rise : nat_abs r.speed.z ≤ 255
  pub lift : nat_abs k.speed.z ≤ 255
  pub ticks : r.ticks ≤ 4096

-- each step of d p + n w fits
pub record AlongSteps (d p n w : ℤ) : Type 0 where
  pub first : SFits w64 (d *ℤ p)
  pub second : SFits w64 (n *ℤ w)
  pub all : SFits w64 (d *ℤ p +ℤ n *ℤ w)
