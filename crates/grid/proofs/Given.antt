-- The value of a number is the one that its bits give: so its answer is the bits' answer, and sixteen times it is sixteen times that value. Assumes nothing.
use mathlib.Core.Path.{◌≡◌, refl, sym, ap, subst}
use mathlib.Core.Bool.{Bool, cond}
use Prim.Native.Nat.{ℕ, zero, suc, ◌+◌, ◌*◌, ◌^◌, ◌<◌}
use native.Mathlib.Omega.{arith}
use native.Mathlib.Nat.{mul-one}
use lib.Dec.{T, eqb, eqb→eq}
use lib.Ieee.{Float, nan, inf, binary32, fits, odd, of_fields, of_bits, to_bits}
use lib.Ieee.Fits.{eq→eqb}
use lib.Ieee.Bits.{of_bits-to_bits}
use lib.Ieee.Exact.{odd_sign}
use Rattle.whole.proofs.Flag.{yes_of, no_of, by_flag}
use Rattle.grid.specs.declared.Taken.{Taken}
use Rattle.grid.specs.Number.{signed, Is, sixteenfold, Within, Scaled, Answer}
use Rattle.grid.specs.Bits.{exponent, units, given, Says, HasBits, worth, BitsAnswer}
use Rattle.grid.proofs.Number.{answer_worth}
use Rattle.grid.proofs.Exact.{has_is}

-- ---- by the fields
-- q·2^k units of 2^-149
read : (s : Bool) (q k e m : ℕ) → units e m ≡ q * 2 ^ k → Is (odd 24 s q k 149) (given s e m)
read s q k e m h = has_is (odd 24 s q k 149) s (q * 2 ^ k) (2 ^ 149) (given s e m) (odd_sign 24 s q k 149) (ap (signed s) h) refl

-- an exponent of 255
special : (s : Bool) (e m : ℕ) → e ≡ 255 → Says s e m (cond (eqb m 0) (inf s) nan)
special s e m h =
    by_flag (Says s e m) (eqb m 0) (inf s) nan
    (λ z. record { finite = λ l. absurd (omega arith); infinite = λ i j. refl; none = λ i f. absurd (f (eqb→eq m 0 (yes_of (eqb m 0) z))) })
    (λ z. record { finite = λ l. absurd (omega arith); infinite = λ i j. absurd (no_of (eqb m 0) z (eq→eqb j)); none = λ i f. refl })

fields : (s : Bool) (e m : ℕ) → Says s e m (of_fields binary32 s e m)
unfolding of_fields
fields s zero m =
    record { finite = λ l. read s m 0 0 m (sym (mul-one m)); infinite = λ i. absurd (omega arith); none = λ i. absurd (omega arith) }
fields s (suc e) m =
    by_flag (Says s (suc e) m) (eqb (suc e) 255) (cond (eqb m 0) (inf s) nan) (odd 24 s (2 ^ 23 + m) e 149)
    (λ z. special s (suc e) m (eqb→eq (suc e) 255 (yes_of (eqb (suc e) 255) z)))
    (λ z.
    let other : suc e ≡ 255 → ⊥ = λ i. no_of (eqb (suc e) 255) z (eq→eqb i) in
    record { finite = λ l. read s (2 ^ 23 + m) e (suc e) m refl; infinite = λ i. absurd (other i); none = λ i. absurd (other i) })

-- ---- what is read from bits has them, and every number of the machine has bits
pub of_bits_lem : (b : ℕ) → HasBits (of_bits binary32 b) b
unfolding of_bits
of_bits_lem b = fields _ _ _

pub by_bits : (x : Float) → T (fits binary32 x) → HasBits x (to_bits binary32 x)
by_bits x f = subst (λ (y : Float). HasBits y (to_bits binary32 x)) (of_bits-to_bits binary32 x f) (of_bits_lem (to_bits binary32 x))

-- ---- against the value that the bits give
module _ (x : Float) (b : ℕ) (h : HasBits x b) where
  pub scaled_bits : (g : Float) → Scaled x g → exponent b < 255 → Within (worth b) → Is g (sixteenfold (worth b))
  scaled_bits g sc l = sc (worth b) (h.finite l)

  pub answer_bits : (t : Taken) → Answer x t → BitsAnswer b t
  answer_bits t a =
      record {
        finite = λ l. answer_worth (worth b) t x (h.finite l) a;
        infinite = λ e z. subst (λ (y : Float). Answer y t) (h.infinite e z) a;
        none = λ e f. subst (λ (y : Float). Answer y t) (h.none e f) a;
      }
