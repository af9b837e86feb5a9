-- From 2^23 to 2^24 binary32 has the whole numbers only: what is rounded there goes to a whole number less than one away. Assumes nothing.
use mathlib.Core.Path.{◌≡◌, refl, sym, ap, ◌∙◌}
use mathlib.Core.Bool.{Bool, true, false, cond}
use Prim.Native.Nat.{ℕ, zero, suc, ◌+◌, ◌*◌, ◌-◌, ◌/◌, ◌^◌, ◌≤◌, ◌<◌}
use native.Mathlib.Omega.{arith}
use native.Mathlib.Nat.{div-one, mod-one, mul-one, mul_assoc, mul_right_comm, mul-pos, mul-le-mul_right, mul-lt-mul_of_pos_right, le-div_iff_mul-le, div-lt_iff_lt-mul}
use native.Mathlib.Nat.{le_trans, le_of_eq, lt_of_lt_of_le, lt_of_le_of_lt, lt_of_not-le, not-le_of_lt}
use lib.Dec.{T, ltb, lt→ltb, lit<}
use lib.Pow.{pow_pos, pow_mono}
use lib.IntN.{ℤ, pos}
use lib.Ieee.{Float, fin, binary32, up, down, size, units, round, sum, add, of_int}
use lib.Ieee.Digits.{size-lt, size-le}
use lib.Ieee.Fits.{down_pos, round_is}
use lib.Ieee.Nearest.{closest, closest_mono, closest_same}

-- ---- the nearest whole number is less than one away
whole_closest : (n : ℕ) → closest n 1 ≡ n
whole_closest n = rw (mod-one n) (div-one n)

closest_ge : (a c n : ℕ) → 0 < c → n * c ≤ a → n ≤ closest a c
closest_ge a c n C h = rw (whole_closest n) at (closest_mono n 1 a c (lit< tt) C (rw (mul-one a) h))

closest_le : (a c n : ℕ) → 0 < c → a ≤ n * c → closest a c ≤ n
closest_le a c n C h = rw (whole_closest n) at (closest_mono a c n 1 C (lit< tt) (rw (mul-one a) h))

closest_low : (a c : ℕ) → 0 < c → closest a c * c < a + c
closest_low a c C = lt_of_not-le (not_far (closest a c) (λ p h. closest_le a c p C h))
  where
    not_far : (q : ℕ) → ((p : ℕ) → a ≤ p * c → q ≤ p) → a + c ≤ q * c → ⊥
    not_far zero f h = omega arith
    not_far (suc p) f h = let l = f p (omega arith) in omega arith

closest_high : (a c : ℕ) → 0 < c → a < (closest a c + 1) * c
closest_high a c C = lt_of_not-le (λ (h : (closest a c + 1) * c ≤ a). let l = closest_ge a c (closest a c + 1) C h in omega arith)

-- ---- a number of 173 digits
exactly : (n : ℕ) → 2 ^ 172 ≤ n → n < 2 ^ 173 → size n ≡ 173
exactly n h k =
    let l = size-le n 173 k in
    let g : 172 < size n = lt_of_not-le (λ (i : size n ≤ 172). not-le_of_lt (lt_of_lt_of_le (size-lt n) (pow_mono i)) h) in
    omega arith

-- ---- in units of 2^-149, 149 digits are dropped
at_units : (a c : ℕ) → 0 < c → 2 ^ 23 * c ≤ a → a < 2 ^ 24 * c → round binary32 false a c ≡ units binary32 false (closest a c) 149
at_units a c C h k =
    let l = 2 ^ 149 in
    let low : 2 ^ 172 * c ≤ a * l = le_trans (le_of_eq (mul_right_comm (2 ^ 23) l c)) (mul-le-mul_right l h) in
    let high : a * l < 2 ^ 173 * c = lt_of_lt_of_le (mul-lt-mul_of_pos_right k (pow_pos 149)) (le_of_eq (mul_right_comm (2 ^ 24) c l)) in
    let e : size (a * l / c) ≡ 173 = exactly (a * l / c) ((le-div_iff_mul-le C).1 low) ((div-lt_iff_lt-mul C).1 high) in
    round_is binary32 false a c
    ∙ ap (λ (z : ℕ). units binary32 false (closest (a * l) (c * 2 ^ (z - 24))) (z - 24)) e
    ∙ ap (λ (z : ℕ). units binary32 false z 149) (closest_same (a * l) (c * l) a c (mul-pos C (pow_pos 149)) C (mul_right_comm a l c ∙ mul_assoc a c l))

rounded : (a c : ℕ) → 0 < c → 2 ^ 23 * c ≤ a → a ≤ (2 ^ 24 - 1) * c → round binary32 false a c ≡ of_int binary32 (pos (closest a c))
unfolding of_int
rounded a c C h k =
    let q = closest a c in
    let m : q ≤ 2 ^ 24 - 1 = closest_le a c (2 ^ 24 - 1) C k in
    at_units a c C h (lt_of_le_of_lt k (mul-lt-mul_of_pos_right (lit< tt) C))
    ∙ ap (λ (z : ℕ). units binary32 false z 149) (sym (whole_closest q))
    ∙ sym (at_units q 1 (lit< tt) (rw (mul-one (2 ^ 23)) (closest_ge a c (2 ^ 23) C h)) (rw (mul-one (2 ^ 24)) (lt_of_le_of_lt m (lit< tt))))

-- ---- a number of at most 16,384, and 12,582,912
abbrev pub raise : Float
raise = fin false 3 (pos 22)

-- the sum of ±a / d and it, over d
abbrev pub lifted : Bool → ℕ → ℕ → ℕ
lifted false a d = a + 12582912 * d
lifted true a d = 12582912 * d - a

lifted_least : (s : Bool) (a d : ℕ) → a ≤ 16384 * d → 12566528 * d ≤ lifted s a d
lifted_least true a d h = omega arith
lifted_least false a d h = omega arith

lifted_most : (s : Bool) (a d : ℕ) → a ≤ 16384 * d → lifted s a d ≤ 12599296 * d
lifted_most true a d h = omega arith
lifted_most false a d h = omega arith

add_raise : (s : Bool) (m : ℕ) (e : ℤ) → m * up e ≤ 16384 * down e → add binary32 (fin s m e) raise ≡ round binary32 false (lifted s (m * up e * 1) (down e)) (down e * 1)
unfolding add sum
add_raise false m e h = refl
add_raise true m e h = taken (ltb (m * up e * 1) (12582912 * down e)) _ _ (lt→ltb (m * up e * 1) (12582912 * down e) (let p = down_pos e in omega arith))
  where
    taken : (b : Bool) (x y : Float) → T b → cond b x y ≡ x
    taken true x y t = refl
    taken false x y t = absurd t

-- their sum in binary32 is a whole number q that is less than one away
pub record Raised (s : Bool) (m : ℕ) (e : ℤ) (q : ℕ) : Type 0 where
  pub is : add binary32 (fin s m e) raise ≡ of_int binary32 (pos q)
  pub least : 12566528 ≤ q
  pub most : q ≤ 12599296
  pub low : q * down e < lifted s (m * up e) (down e) + down e
  pub high : lifted s (m * up e) (down e) < (q + 1) * down e

pub raised : (s : Bool) (m : ℕ) (e : ℤ) → m * up e ≤ 16384 * down e → Raised s m e (closest (lifted s (m * up e) (down e)) (down e))
raised s m e h =
    let d = down e in
    let D = down_pos e in
    let n = lifted s (m * up e) d in
    let l = lifted_least s (m * up e) d h in
    let k = lifted_most s (m * up e) d h in
    record {
      is = rw (mul-one (m * up e), mul-one d) at (add_raise s m e h) ∙ rounded n d D (omega arith) (omega arith);
      least = closest_ge n d 12566528 D l;
      most = closest_le n d 12599296 D k;
      low = closest_low n d D;
      high = closest_high n d D;
    }
