-- What lies within reach fits a machine's width. Assumes nothing.
use mathlib.Core.Path.{◌≡◌}
use Prim.Native.Nat.{ℕ, ◌+◌, ◌*◌, ◌≤◌}
use native.Mathlib.Omega.{arith}
use lib.IntN.{ℤ, nat_abs, ◌-ℤ◌, ◌*ℤ◌}
use mir.Syntax.{w64}
use mir.Facts.{to_z-of_z}
use mir.Val.{SFits, to_z, of_z}
use Rattle.whole.proofs.Range.{fits, abs_by, abs_sub, abs_mul_le}
use Rattle.rules.specs.Reach.{Reach}
use Rattle.footprint.specs.declared.point.Point.{Point}
use Rattle.footprint.specs.Steps.{SideSteps, CrossSteps}

pub fit : (z : ℤ) → nat_abs z ≤ 4294967296 → SFits w64 z
fit z h = fits w64 z (omega arith)

pub reach_abs : (z : ℤ) → Reach z → nat_abs z ≤ 16384
reach_abs z h = abs_by 16384 z h.above h.below

-- x v − y u
pub cross_most : (A B : ℕ) (x y u v : ℤ) → nat_abs x ≤ A → nat_abs y ≤ A → nat_abs u ≤ B → nat_abs v ≤ B → nat_abs (x *ℤ v -ℤ y *ℤ u) ≤ A * B + A * B
cross_most A B x y u v h i j k = omega (arith, abs_sub (x *ℤ v) (y *ℤ u), abs_mul_le x v A B h k, abs_mul_le y u A B i j)

-- as far as a difference of two points over a denominator
abbrev pub Broad : ℤ → Type 0
Broad z = nat_abs z ≤ 50135040

pub product : (x y : ℤ) → Broad x → Broad y → SFits w64 (x *ℤ y)
product x y h k = fits w64 (x *ℤ y) (omega (arith, abs_mul_le x y 50135040 50135040 h k))

pub cross_steps : (x y u v : ℤ) → Broad x → Broad y → Broad u → Broad v → CrossSteps x y u v
cross_steps x y u v h i j k = record {
  x_fits = fit x (omega arith);
  y_fits = fit y (omega arith);
  u_fits = fit u (omega arith);
  v_fits = fit v (omega arith);
  first = product x v h k;
  second = product y u i j;
  all = fits w64 _ (omega (arith, cross_most 50135040 50135040 x y u v h i j k));
}

-- of corners within reach
apart : (a b : ℤ) → Reach a → Reach b → Broad (a -ℤ b)
apart a b h k = omega (arith, abs_sub a b, reach_abs a h, reach_abs b k)

-- a corner's number, as a local reads it back
pub reread : {z : ℤ} → Reach z → to_z w64 (of_z w64 z) ≡ z
reread {z = z} h = to_z-of_z (fit z (let m = reach_abs z h in omega arith))

pub turn_steps : (a b c : Point) → SideSteps a.x a.y b.x b.y c.x c.y
turn_steps a b c = cross_steps _ _ _ _ (apart _ _ b.x_within a.x_within) (apart _ _ b.y_within a.y_within) (apart _ _ c.x_within a.x_within) (apart _ _ c.y_within a.y_within)

pub wedge_steps : (a b : Point) → CrossSteps a.x a.y b.x b.y
wedge_steps a b = cross_steps _ _ _ _ (omega (arith, reach_abs _ a.x_within)) (omega (arith, reach_abs _ a.y_within)) (omega (arith, reach_abs _ b.x_within)) (omega (arith, reach_abs _ b.y_within))
