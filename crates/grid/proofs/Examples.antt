-- Worked examples, by their bits: 1024, 1024.0625, -0.03125, 0.03125, minus zero, a NaN and an infinity. Assumes nothing.
use mathlib.Core.Path.{◌≡◌, refl}
use Prim.Native.Nat.{ℕ}
use native.Mathlib.Omega.{arith}
use lib.IntN.{pos, negsuc}
use lib.Ieee.{binary32, fits, of_bits}
use Rattle.grid.specs.declared.Taken.TheVariants.{Grid, OffGrid, NotNumber, Beyond}
use Rattle.grid.specs.Number.{Answer}

highest : Answer (of_bits binary32 0x4480_0000) (Grid (pos 16384))
unfolding of_bits
highest = (record { least = record { le = tt }; most = record { le = tt } }, refl)

beyond : Answer (of_bits binary32 0x4480_0200) Beyond
unfolding of_bits
beyond = λ w. w.most.le

below_zero : Answer (of_bits binary32 0xbd00_0000) (OffGrid (of_bits binary32 0xbd80_0000))
unfolding of_bits fits
below_zero = (
  record { least = record { le = tt }; most = record { le = tt } },
  record {
    k = negsuc 0;
    above = record { lt = tt };
    next = record { lt = tt };
    export = record { binary = tt; worth = refl; plus = λ e. absurd (let z : ◌≡◌ {A = ℕ} 0 1 = cc in omega arith) };
  },
)

above_zero : Answer (of_bits binary32 0x3d00_0000) (OffGrid (of_bits binary32 0))
unfolding of_bits fits
above_zero = (
  record { least = record { le = tt }; most = record { le = tt } },
  record {
    k = pos 0;
    above = record { lt = tt };
    next = record { lt = tt };
    export = record { binary = tt; worth = refl; plus = λ e. refl };
  },
)

minus_zero : Answer (of_bits binary32 0x8000_0000) (Grid (pos 0))
unfolding of_bits
minus_zero = (record { least = record { le = tt }; most = record { le = tt } }, refl)

no_number : Answer (of_bits binary32 0xffc0_1234) NotNumber
unfolding of_bits
no_number = refl

infinite : Answer (of_bits binary32 0xff80_0000) Beyond
unfolding of_bits
infinite = refl
