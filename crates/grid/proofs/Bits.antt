-- A binary32 number is fixed by its sign and its size, since its bits are. Assumes nothing.
use mathlib.Core.Path.{◌≡◌, sym, ap, ◌∙◌}
use mathlib.Core.Bool.{Bool, cond}
use Prim.Native.Nat.{ℕ, ◌+◌, ◌*◌, ◌-◌, ◌/◌, ◌^◌, ◌<◌}
use native.Mathlib.Nat.{mul_right_comm, eq_of_mul-eq-mul_right}
use lib.Dec.{T}
use lib.IntN.{ℤ}
use lib.Ieee.{Float, nan, inf, fin, binary32, hid, top, up, down, size, fits, of_bits, to_bits}
use lib.Ieee.Fits.{down_pos}
use lib.Ieee.Bits.{of_bits-to_bits}
use lib.Ieee.Nearest.{div_same}
use lib.Ieee.Exact.{HasValue}

-- two sizes m·2^e and n·2^d, both a/c
module _ (m n : ℕ) (e d : ℤ) (a c : ℕ) (some : 0 < c) (first : m * up e * c ≡ a * down e) (second : n * up d * c ≡ a * down d) where
  crossed : m * up e * down d ≡ n * up d * down e
  crossed =
      eq_of_mul-eq-mul_right c some (m * up e * down d) (n * up d * down e)
      (mul_right_comm (m * up e) (down d) c
      ∙ ap (λ (x : ℕ). x * down d) first
      ∙ mul_right_comm a (down e) (down d)
      ∙ ap (λ (x : ℕ). x * down e) (sym second)
      ∙ mul_right_comm (n * up d) c (down e))

  -- in units of 2^-149
  units : m * up e * 2 ^ 149 / down e ≡ n * up d * 2 ^ 149 / down d
  units =
      div_same (m * up e * 2 ^ 149) (down e) (n * up d * 2 ^ 149) (down d) (down_pos e) (down_pos d)
      (mul_right_comm (m * up e) (2 ^ 149) (down d) ∙ ap (λ (x : ℕ). x * 2 ^ 149) crossed ∙ mul_right_comm (n * up d) (down e) (2 ^ 149))

abbrev pattern : Bool → ℕ → ℕ
pattern s n = cond s (top binary32) 0 + (size n - 24) * hid binary32 + n / 2 ^ (size n - 24)

same_bits : (v w : Float) (s : Bool) (a c : ℕ) → 0 < c → HasValue v s a c → HasValue w s a c → to_bits binary32 v ≡ to_bits binary32 w
unfolding to_bits
same_bits nan w s a c p h k = absurd h
same_bits (inf t) w s a c p h k = absurd h
same_bits (fin t m e) nan s a c p h k = absurd k
same_bits (fin t m e) (inf u) s a c p h k = absurd k
same_bits (fin t m e) (fin u n d) s a c p h k =
    ap (λ (b : Bool). pattern b (m * up e * 2 ^ 149 / down e)) (h.0 ∙ sym k.0)
    ∙ ap (pattern u) (units m n e d a c p h.1 k.1)

pub one_value : (v w : Float) (s : Bool) (a c : ℕ) → 0 < c → T (fits binary32 v) → T (fits binary32 w) → HasValue v s a c → HasValue w s a c → v ≡ w
one_value v w s a c p f g h i = sym (of_bits-to_bits binary32 v f) ∙ ap (of_bits binary32) (same_bits v w s a c p h i) ∙ of_bits-to_bits binary32 w g
