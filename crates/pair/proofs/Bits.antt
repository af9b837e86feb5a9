-- A number of two bytes as the machine holds it. Assumes nothing.
use native.Mathlib.Omega.{arith}
use lib.Dec.{leb→le}
use lib.IntN.{ℤ, pos, negsuc}
use mir.Syntax.{w32}
use mir.Val.{SFits}
use Rattle.pair.specs.Pair.{Half}

-- two bytes are fewer than the machine's four
pub half_fits : (z : ℤ) → Half z → SFits w32 z
half_fits (pos n) h = record { sfits = let l = leb→le n 32767 h.below.le in omega arith }
half_fits (negsuc n) h = record { sfits = let l = leb→le n 32767 h.above.le in omega arith }
