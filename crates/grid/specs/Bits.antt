-- IEEE 754: what the 32 bits of a binary32 number say, by its sign, its exponent and its digits; and the answer that they have. Assumes nothing.
use Rattle.std.specs.Prelude.{◌≡◌, Bool, ℕ, zero, suc, ◌+◌, ◌*◌, ◌/◌, ◌%◌, ◌^◌, ◌<◌, leb, pos, Float}
use Rattle.std.specs.Float.{nan, inf}
use Rattle.whole.specs.Fraction.{Frac}
use Rattle.grid.specs.declared.Taken.{Taken}
use Rattle.grid.specs.declared.Taken.TheVariants.{NotNumber, Beyond}
use Rattle.grid.specs.Number.{signed, Is, Worth}

-- the highest bit is the sign, the next eight are the exponent, the last 23 the digits
abbrev pub minus : ℕ → Bool
minus b = leb (2 ^ 31) b

abbrev pub exponent : ℕ → ℕ
exponent b = b % 2 ^ 31 / 2 ^ 23

abbrev pub digits : ℕ → ℕ
digits b = b % 2 ^ 23

-- the size in units of 2^-149: the digits m, at an exponent of 0; otherwise (2^23 + m)·2^(e - 1)
abbrev pub units : ℕ → ℕ → ℕ
units zero m = m
units (suc e) m = (2 ^ 23 + m) * 2 ^ e

-- the value: ±m·2^-149 at an exponent of 0, otherwise ±(2^23 + m)·2^(e - 150)
abbrev pub given : Bool → ℕ → ℕ → Frac
given s e m = record { num = signed s (units e m); den = pos (2 ^ 149); some = record { lt = tt } }

-- x is what a sign, an exponent and digits say: of the exponents 255 is that of infinities and of what is no number
pub record Says (s : Bool) (e m : ℕ) (x : Float) : Type 0 where
  pub finite : e < 255 → Is x (given s e m)
  pub infinite : e ≡ 255 → m ≡ 0 → x ≡ inf s
  pub none : e ≡ 255 → (m ≡ 0 → ⊥) → x ≡ nan

-- x is what the bits b say, of zeros either one
abbrev pub HasBits : Float → ℕ → Type 0
HasBits x b = Says (minus b) (exponent b) (digits b) x

-- the value that bits give
abbrev pub worth : ℕ → Frac
worth b = given (minus b) (exponent b) (digits b)

-- the answer of bits: that of the value that they give; where they give none, out of reach or not a number
pub record BitsAnswer (b : ℕ) (t : Taken) : Type 0 where
  pub finite : exponent b < 255 → Worth (worth b) t
  pub infinite : exponent b ≡ 255 → digits b ≡ 0 → t ≡ Beyond
  pub none : exponent b ≡ 255 → (digits b ≡ 0 → ⊥) → t ≡ NotNumber
