-- Where binary32 arithmetic is exact: sixteen times a number within reach, a small whole number, a sixteenth of one. Assumes nothing.
use mathlib.Core.Path.{◌≡◌, refl, sym, ap, subst, ◌∙◌}
use mathlib.Core.Bool.{Bool, true, false, ◌&&◌}
use Prim.Native.Nat.{ℕ, zero, suc, ◌+◌, ◌*◌, ◌-◌, ◌%◌, ◌^◌, ◌≤◌, ◌<◌}
use native.Mathlib.Omega.{arith}
use native.Mathlib.Nat.{one-mul, mul-one, mul_assoc, mul_comm, mul_right_comm, mul-pos, eq_of_mul-eq-mul_right}
use native.Mathlib.Nat.{mul-le-mul_right, le_of_mul-le-mul_right, lt_of_le_of_lt, not-le_of_lt, le_of_lt, le_of_eq, le_trans}
use lib.Dec.{T, ltb, leb, eqb, ltb→lt, leb→le, eqb→eq, lit<, lit≤}
use lib.Pow.{pow-add, pow-lt}
use lib.IntN.{ℤ, pos, negsuc, nat_abs, ◌*ℤ◌}
use lib.Ieee.{Float, nan, inf, fin, binary32, fits, up, down, round, mul, of_int, unlike}
use lib.Ieee.Fits.{and_l, and_r, down_pos, up_pos, mul-fits}
use lib.Ieee.Exact.{HasValue, round_exact}
use lib.Ieee.Back.{round_whole}
use Rattle.whole.specs.Fraction.{Frac, whole}
use Rattle.whole.proofs.Difference.{all4, ring}
use Rattle.grid.specs.Number.{signed, value, Is, grid, sixteenfold, Scaled, Within, Export}
use Rattle.grid.proofs.Value.{signed_mul, size_within, ≈_sym, is_same, within_same}
use Rattle.grid.proofs.Bits.{one_value}

-- ---- what fits binary32: fewer than 25 digits, and no unit below 2^-149
digits : (s : Bool) (m : ℕ) (e : ℤ) → T (fits binary32 (fin s m e)) → m < 2 ^ 24
unfolding fits
digits s zero e t = lit< tt
digits s (suc m) e t =
    let a = eqb (suc m % 2) 1 in
    let b = ltb (suc m) (2 ^ 24) in
    let c = leb (down e) (2 ^ 149) in
    ltb→lt (suc m) (2 ^ 24) (and_r a b (and_l (a && b) c (and_l (a && b && c) (ltb (suc m * up e) (2 ^ 128 * down e)) t)))

fine : (s : Bool) (m : ℕ) (e : ℤ) → T (fits binary32 (fin s (suc m) e)) → down e ≤ 2 ^ 149
unfolding fits
fine s m e t =
    let a = eqb (suc m % 2) 1 in
    let b = ltb (suc m) (2 ^ 24) in
    let c = leb (down e) (2 ^ 149) in
    leb→le (down e) (2 ^ 149) (and_r (a && b) c (and_l (a && b && c) (ltb (suc m * up e) (2 ^ 128 * down e)) t))

-- ---- 2^e is 2^j of the units 2^-n
pow_le : (i j : ℕ) → 2 ^ i ≤ 2 ^ j → i ≤ j
pow_le i j h = not_more (λ g. not-le_of_lt (pow-lt g) h)
  where
    not_more : (j < i → ⊥) → i ≤ j
    not_more f = omega arith

record Counted (n : ℕ) (e : ℤ) : Type 0 where
  j : ℕ
  is : 2 ^ j * down e ≡ up e * 2 ^ n

counted : (n : ℕ) (e : ℤ) → down e ≤ 2 ^ n → Counted n e
counted n (pos k) h = record { j = k + n; is = mul-one (2 ^ (k + n)) ∙ pow-add 2 k n }
counted n (negsuc k) h =
    let l : suc k ≤ n = pow_le (suc k) n h in
    let s : (n - suc k) + suc k ≡ n = omega arith in
    record { j = n - suc k; is = sym (pow-add 2 (n - suc k) (suc k)) ∙ ap (λ (x : ℕ). 2 ^ x) s ∙ sym (one-mul (2 ^ n)) }

like : (s : Bool) → unlike s false ≡ s
like true = refl
like false = refl

-- ---- sixteen times a number within reach
-- 16.0
abbrev pub sixteen : Float
sixteen = fin false 1 (pos 4)

-- m·U/D, where U/D is 2^j of the units 2^-153: sixteen times that is m·2^j of the units 2^-149
module _ (m U D j : ℕ) (is : 2 ^ j * D ≡ U * 2 ^ 153) where
  shifted : m * 2 ^ j * D ≡ m * U * 2 ^ 153
  shifted = mul_assoc m (2 ^ j) D ∙ ap (λ (x : ℕ). m * x) is ∙ sym (mul_assoc m U (2 ^ 153))

  lift : m * U * 16 * 2 ^ 149 ≡ m * 2 ^ j * D
  lift = mul_assoc (m * U) 16 (2 ^ 149) ∙ sym shifted

  room : 0 < D → m * U ≤ 1024 * D → m * 2 ^ j < 2 ^ 277
  room d r =
      let most : m * U * 2 ^ 153 ≤ 1024 * 2 ^ 153 * D = le_trans (mul-le-mul_right (2 ^ 153) r) (le_of_eq (mul_right_comm 1024 D (2 ^ 153))) in
      lt_of_le_of_lt (le_of_mul-le-mul_right (le_trans (le_of_eq shifted) most) d) (lit< tt)

scaled_at : (s : Bool) (m : ℕ) (e : ℤ) → m < 2 ^ 24 → Counted 153 e → m * up e ≤ 1024 * down e → HasValue (mul binary32 (fin s m e) sixteen) s (m * up e * 16) (down e * 1)
unfolding mul
scaled_at s m e small n r =
    let N = m * up e * 16 in
    let D = down e * 1 in
    let d : 0 < D = mul-pos (down_pos e) (lit< tt) in
    let one = sym (mul-one (down e)) in
    let h : 2 ^ n.j * D ≡ up e * 2 ^ 153 = ap (λ (x : ℕ). 2 ^ n.j * x) (sym one) ∙ n.is in
    let fine = room m (up e) D n.j h d (le_trans r (le_of_eq (ap (λ (x : ℕ). 1024 * x) one))) in
    subst (λ (t : Bool). HasValue (round binary32 (unlike s false) N D) t N D) (like s)
    (round_exact binary32 (unlike s false) N D m n.j d small fine (lift m (up e) D n.j h))

unit_fine : (s : Bool) (m : ℕ) (e : ℤ) → T (fits binary32 (fin s m e)) → down e ≤ 2 ^ 153
unfolding fits
unit_fine s zero e t = le_trans (le_trans (le_of_eq (sym (one-mul (down e)))) (le_trans (mul-le-mul_right (down e) (up_pos e)) (le_of_eq (eqb→eq (up e * down e) 1 t)))) (lit≤ tt)
unit_fine s (suc m) e t = le_trans (fine s m e t) (lit≤ tt)

-- a number with a size and a sign has that value
pub has_is : (y : Float) (s : Bool) (a c : ℕ) (v : Frac) → HasValue y s a c → v.num ≡ signed s a → v.den ≡ pos c → Is y v
has_is nan s a c v h p q = h
has_is (inf t) s a c v h p q = h
has_is (fin t m e) s a c v h p q =
    rw (p, q, h.0, ← signed_mul s (m * up e) c, h.1) (signed_mul s a (down e))

by_value : (s : Bool) (m : ℕ) (e : ℤ) → T (fits binary32 (fin s m e)) → Within (value s m e) → Is (mul binary32 (fin s m e) sixteen) (sixteenfold (value s m e))
by_value s m e f w =
    has_is (mul binary32 (fin s m e) sixteen) s (m * up e * 16) (down e * 1) (sixteenfold (value s m e))
    (scaled_at s m e (digits s m e f) (counted 153 e (unit_fine s m e f)) (size_within 1023 s (m * up e) (down e) w.least w.most))
    (sym (signed_mul s (m * up e) 16))
    (ap pos (sym (mul-one (down e))))

times_same : (a b c d : ℤ) → a *ℤ b ≡ c *ℤ d → (a *ℤ pos 16) *ℤ b ≡ (c *ℤ pos 16) *ℤ d
times_same = all4 _ λ a a' b b' c c' d d'. simp ring (omega arith)

pub exact : (x : Float) → T (fits binary32 x) → Scaled x (mul binary32 x sixteen)
exact nan f v i w = absurd i
exact (inf s) f v i w = absurd i
exact (fin s m e) f v i w =
    let u = value s m e in
    is_same (mul binary32 (fin s m e) sixteen) (sixteenfold u) (sixteenfold v) (times_same u.num v.den v.num u.den i)
    (by_value s m e f (within_same v u (≈_sym u v i) w))

-- ---- a whole number of at most 24 digits
-- its sign, zero's being plus
abbrev pub minus : ℤ → Bool
minus (pos n) = false
minus (negsuc n) = true

pub sign_size : (k : ℤ) → k ≡ signed (minus k) (nat_abs k)
sign_size (pos n) = refl
sign_size (negsuc n) = refl

pub int_has : (k : ℤ) → nat_abs k ≤ 2 ^ 24 → HasValue (of_int binary32 k) (minus k) (nat_abs k) 1
unfolding of_int
int_has (pos n) h = round_whole binary32 false n h
int_has (negsuc n) h = round_whole binary32 true (suc n) h

pub int_is : (k : ℤ) → nat_abs k ≤ 2 ^ 24 → Is (of_int binary32 k) (whole k)
int_is k h = has_is (of_int binary32 k) (minus k) (nat_abs k) 1 (whole k) (int_has k h) (sign_size k) refl

-- ---- a sixteenth of one
-- from one fraction to another of the same size
rescaled : (x : Float) (s : Bool) (N D n c : ℕ) → 0 < D → N * c ≡ n * D → HasValue x s N D → HasValue x s n c
rescaled nan s N D n c d e h = h
rescaled (inf t) s N D n c d e h = h
rescaled (fin t m x) s N D n c d e h = (
  h.0,
  eq_of_mul-eq-mul_right D d (m * up x * c) (n * down x)
      (mul_right_comm (m * up x) c D ∙ ap (λ (y : ℕ). y * c) h.1 ∙ mul_right_comm N (down x) c ∙ ap (λ (y : ℕ). y * down x) e ∙ mul_right_comm n D (down x)),
)

sixteenth_at : (y : Float) (s : Bool) (n : ℕ) → n < 2 ^ 24 → HasValue y s n 1 → HasValue (mul binary32 y (fin false 1 (negsuc 3))) s n 16
unfolding mul
sixteenth_at nan s n small h = absurd h
sixteenth_at (inf t) s n small h = absurd h
sixteenth_at (fin t m e) s n small h =
    let N = m * up e * 1 in
    let D = down e * 16 in
    let d : 0 < D = mul-pos (down_pos e) (lit< tt) in
    let g : N * 2 ^ 149 ≡ n * 2 ^ 145 * D =
    ap (λ (x : ℕ). x * 2 ^ 149) h.1 ∙ mul_assoc n (down e) (2 ^ 149) ∙ ap (λ (x : ℕ). n * x) (mul_comm (down e) (2 ^ 149))
    ∙ ap (λ (x : ℕ). n * x) (mul_assoc (2 ^ 145) 16 (down e) ∙ ap (λ (x : ℕ). 2 ^ 145 * x) (mul_comm 16 (down e))) ∙ sym (mul_assoc n (2 ^ 145) D) in
    rescaled (round binary32 (unlike t false) N D) s N D n 16 d
    (rw (h.1, mul_right_comm n (down e) 16, mul_assoc n 16 (down e), mul_comm 16 (down e)) refl)
    (subst (λ (b : Bool). HasValue (round binary32 (unlike t false) N D) b N D) (like t ∙ h.0)
    (round_exact binary32 (unlike t false) N D n 145 d small (lt_of_le_of_lt (mul-le-mul_right (2 ^ 145) (le_of_lt small)) (lit< tt)) g))

zero_fits : T (fits binary32 (fin false 0 (pos 0)))
unfolding fits
zero_fits = tt

pub export : (k : ℤ) → nat_abs k < 2 ^ 24 → Export k (mul binary32 (of_int binary32 k) (fin false 1 (negsuc 3)))
export k h =
    let w = mul binary32 (of_int binary32 k) (fin false 1 (negsuc 3)) in
    let f = mul-fits binary32 (of_int binary32 k) (fin false 1 (negsuc 3)) in
    let v = sixteenth_at (of_int binary32 k) (minus k) (nat_abs k) h (int_has k (le_of_lt h)) in
    record {
      binary = f;
      worth = has_is w (minus k) (nat_abs k) 16 (grid k) v (sign_size k) refl;
      plus = λ e. one_value w (fin false 0 (pos 0)) false 0 16 (lit< tt) f zero_fits (subst (λ (z : ℤ). HasValue w (minus z) (nat_abs z) 16) e v) (refl, refl);
    }

-- its sign and its size, from its value
export_at : (k : ℤ) (s : Bool) (m : ℕ) (e : ℤ) → Export k (fin s m e) → HasValue (fin s m e) (minus k) (nat_abs k) 16
export_at (pos zero) s m e x = subst (λ (y : Float). HasValue y false 0 16) (sym (x.plus refl)) (refl, refl)
export_at (pos (suc n)) false m e x = (refl, let h = simp ring at x.worth in omega arith)
export_at (pos (suc n)) true m e x = let p : 0 < suc n * down e = mul-pos (omega arith) (down_pos e) in let h = simp ring at x.worth in absurd (omega arith)
export_at (negsuc n) true m e x = (refl, let h = simp ring at x.worth in omega arith)
export_at (negsuc n) false m e x = let p : 0 < suc n * down e = mul-pos (omega arith) (down_pos e) in let h = simp ring at x.worth in absurd (omega arith)

pub export_has : (k : ℤ) (w : Float) → Export k w → HasValue w (minus k) (nat_abs k) 16
export_has k nan x = x.worth
export_has k (inf s) x = x.worth
export_has k (fin s m e) x = export_at k s m e x
