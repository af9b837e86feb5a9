-- What products and sides ask of a machine's width: each value on the way fits. Assumes nothing.
use Rattle.std.specs.Prelude.{ℤ, ◌-ℤ◌, ◌*ℤ◌}
use Rattle.std.specs.Int.{w64}
use Rattle.std.proofs.Common.{SFits}

-- each step of x v − y u fits, and so do the four
pub record CrossSteps (x y u v : ℤ) : Type 0 where
  pub x_fits : SFits w64 x
  pub y_fits : SFits w64 y
  pub u_fits : SFits w64 u
  pub v_fits : SFits w64 v
  pub first : SFits w64 (x *ℤ v)
  pub second : SFits w64 (y *ℤ u)
  pub all : SFits w64 (x *ℤ v -ℤ y *ℤ u)

-- each step of `side` fits
abbrev pub SideSteps : ℤ → ℤ → ℤ → ℤ → ℤ → ℤ → Type 0
SideSteps ax ay bx by px py = CrossSteps (bx -ℤ ax) (by -ℤ ay) (px -ℤ ax) (py -ℤ ay)
