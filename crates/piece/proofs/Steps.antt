-- What lies within reach, over a denominator, fits a machine's width. Assumes nothing.
use mathlib.Core.Path.{◌≡◌, ◌∙◌}
use mathlib.Core.Bool.{Bool}
use mathlib.Core.List.{List}
use Prim.Native.Nat.{ℕ, ◌≤◌, ◌<◌}
use native.Mathlib.Omega.{arith}
use lib.IntN.{ℤ, nat_abs, ◌-ℤ◌, ◌*ℤ◌}
use mir.Syntax.{w64}
use mir.Val.{to_z, of_z}
use mir.Facts.{to_z-of_z}
use Rattle.whole.proofs.Range.{fits, abs_sub, abs_mul_le}
use Rattle.rules.specs.Ring.{Pt, times, ring, next, to}
use Rattle.rules.proofs.Ring.{next_below}
use Rattle.decide.specs.Side.{side_of}
use Rattle.decide.specs.Touch.{least, most, ranged}
use Rattle.footprint.specs.Steps.{CrossSteps}
use Rattle.footprint.proofs.Steps.{reach_abs, Broad, cross_steps}
use Rattle.good.specs.Numbers.{pt}
use Rattle.piece.specs.Sizes.{Far, Close, Held}

-- a number as a machine reads it back: below 2^62 it is itself
abbrev pub word : ℤ → ℤ
word z = to_z w64 (of_z w64 z)

pub back : (z : ℤ) → nat_abs z ≤ 4611686018427387904 → word z ≡ z
back z h = to_z-of_z (fits w64 z (omega arith))

-- ---- corners within reach
pub close_far : (p : Pt) → Close p → Far p
close_far p h = record { x = omega (arith, h.x); y = omega (arith, h.y) }

pub close_at : (l : List ℤ) (h : Held l) (q : Pt) (i : ℕ) → i < (ring l).size → q ≡ (ring l).at i → Close q
close_at l h q i k e = let c = h.corners i k in rw e (record { x = reach_abs _ c.x; y = reach_abs _ c.y })

pub close_after : (l : List ℤ) (h : Held l) (q : Pt) (i : ℕ) → i < (ring l).size → q ≡ to (ring l) i → Close q
close_after l h q i k = close_at l h q (next (ring l).size i) (next_below _ _ k)

-- ---- a point over a denominator
scaled : (d z : ℤ) → nat_abs d ≤ 510 → nat_abs z ≤ 16384 → nat_abs (d *ℤ z) ≤ 8355840
scaled d z h k = abs_mul_le d z 510 16384 h k

module _ (d : ℤ) (p : Pt) (h : nat_abs d ≤ 510) (k : Close p) where
  pub times_back : pt (word (word d *ℤ word p.x)) (word (word d *ℤ word p.y)) ≡ times d p
  times_back =
      rw (back d (omega arith), back p.x (omega (arith, k.x)), back p.y (omega (arith, k.y)), back (d *ℤ p.x) (omega (arith, scaled d p.x h k.x)), back (d *ℤ p.y) (omega (arith, scaled d p.y h k.y)))

  pub times_far : Far (pt (word (word d *ℤ word p.x)) (word (word d *ℤ word p.y)))
  times_far = rw times_back (record { x = omega (arith, scaled d p.x h k.x); y = omega (arith, scaled d p.y h k.y) })

-- ---- a side
gap_broad : (a b : ℤ) → nat_abs a ≤ 25067520 → nat_abs b ≤ 25067520 → Broad (a -ℤ b)
gap_broad a b h k = omega (arith, abs_sub a b)

pub gap_back : (a b : ℤ) → nat_abs a ≤ 25067520 → nat_abs b ≤ 25067520 → word (word a -ℤ word b) ≡ a -ℤ b
gap_back a b h k = rw (back a (omega arith), back b (omega arith)) (back (a -ℤ b) (omega (arith, gap_broad a b h k)))

module _ (a b p : Pt) (h : Far a) (i : Far b) (j : Far p) where
  -- what holds of the four differences holds of them as a machine has them
  as_read : (P : ℤ → ℤ → ℤ → ℤ → Type 0) → P (b.x -ℤ a.x) (b.y -ℤ a.y) (p.x -ℤ a.x) (p.y -ℤ a.y)
      → P (word (word b.x -ℤ word a.x)) (word (word b.y -ℤ word a.y)) (word (word p.x -ℤ word a.x)) (word (word p.y -ℤ word a.y))
  as_read P k = rw (gap_back b.x a.x i.x h.x, gap_back b.y a.y i.y h.y, gap_back p.x a.x j.x h.x, gap_back p.y a.y j.y h.y) k

  pub side_steps : CrossSteps (word (word b.x -ℤ word a.x)) (word (word b.y -ℤ word a.y)) (word (word p.x -ℤ word a.x)) (word (word p.y -ℤ word a.y))
  side_steps = as_read CrossSteps (cross_steps _ _ _ _ (gap_broad b.x a.x i.x h.x) (gap_broad b.y a.y i.y h.y) (gap_broad p.x a.x j.x h.x) (gap_broad p.y a.y j.y h.y))

  pub side_said : (r : ℤ) → r ≡ word (word b.x -ℤ word a.x) *ℤ word (word p.y -ℤ word a.y) -ℤ word (word b.y -ℤ word a.y) *ℤ word (word p.x -ℤ word a.x) → r ≡ side_of a b p
  side_said r = as_read (λ x y u v. r ≡ x *ℤ v -ℤ y *ℤ u → r ≡ side_of a b p) (λ e. e)

-- ---- a box's width or height, as the calls have it
module _ (a b p : ℤ) (h : nat_abs a ≤ 25067520) (i : nat_abs b ≤ 25067520) (j : nat_abs p ≤ 25067520) where
  pub in_range : {r : Bool} (u v : ℤ) → word u ≡ least (word a) (word b) → word v ≡ most (word a) (word b) → r ≡ ranged (word u) (word p) (word v) → r ≡ ranged (least a b) p (most a b)
  in_range u v e f g = g ∙ rw (e, f, back a (omega arith), back b (omega arith), back p (omega arith))
