-- Magnitudes, as naturals that `omega` reads: `nat_abs z`; what fits a machine's width; what a machine reads back. Assumes nothing.
use mathlib.Core.Path.{◌≡◌, refl, ◌∙◌}
use Prim.Native.Nat.{ℕ, zero, suc, ◌+◌, ◌*◌, ◌/◌, ◌^◌, ◌≤◌, ◌<◌}
use native.Mathlib.Omega.{arith}
use native.Mathlib.Nat.{mul-le-mul, div-add-mod', mod-lt, div-le_self, zero-add, add-zero}
use lib.ListN.{length, get_or}
use mathlib.Core.List.{List, [], ◌∷◌}
use lib.Dec.{T, leb, ltb, leb→le, le→leb, ltb→lt, lt→ltb}
use mathlib.Core.Bool.{Bool, true, false, ◌&&◌}
use Rattle.whole.proofs.Flag.{lt_true, lt_false}
use lib.IntN.{ℤ, pos, negsuc, neg_ℤ, nat_abs, ◌+ℤ◌, ◌-ℤ◌, ◌*ℤ◌}
use lib.Signed.{◌≤ℤ◌, ◌<ℤ◌, mag, lt_z, quot_z, non_neg}
use mir.Syntax.{Width}
use mir.Val.{SFits, hbits, to_z, of_z}
use mir.Facts.{to_z-of_z, sfits_lit, and_yes}
use Rattle.whole.proofs.Difference.{all, all4, ring}
use Rattle.whole.proofs.Polynomial.{Exp, var, num, nsuc, plus, times, minus, val, num_val, nsuc_val, plus_val, times_val, minus_val}

-- a number that is small fits
pub fits : (w : Width) (z : ℤ) → nat_abs z < 2 ^ hbits w → SFits w z
fits w (pos n) h = record { sfits = h }
fits w (negsuc n) h = record { sfits = omega arith }

-- a magnitude's bound is two orders, and back. (`neg_ℤ (pos n)` computes half way, and `simp ring` does not see it: so a ℤ stands for the bound in these.)
lo_pos : (z : ℤ) → pos 0 ≤ℤ z → neg_ℤ z ≤ℤ z
lo_pos = all _ λ a a'. simp ring (omega arith)

pub abs_lo : (z : ℤ) → neg_ℤ (pos (nat_abs z)) ≤ℤ z
abs_lo (pos n) = lo_pos (pos n) (simp ring (omega arith))
abs_lo (negsuc n) = simp ring (omega arith)

pub abs_hi : (z : ℤ) → z ≤ℤ pos (nat_abs z)
abs_hi (pos n) = simp ring (omega arith)
abs_hi (negsuc n) = record { le = tt }

neg_le : (B : ℤ) (n : ℕ) → neg_ℤ B ≤ℤ negsuc n → pos (suc n) ≤ℤ B
neg_le = all _ λ b b' n. simp ring (omega arith)

pub abs_by : (B : ℕ) (z : ℤ) → neg_ℤ (pos B) ≤ℤ z → z ≤ℤ pos B → nat_abs z ≤ B
abs_by B (pos n) h k = leb→le n B k.le
abs_by B (negsuc n) h k = leb→le (suc n) B (neg_le (pos B) n h).le

add_in : (A B x y : ℤ) → neg_ℤ A ≤ℤ x → x ≤ℤ A → neg_ℤ B ≤ℤ y → y ≤ℤ B → (neg_ℤ (A +ℤ B) ≤ℤ (x +ℤ y)) × ((x +ℤ y) ≤ℤ (A +ℤ B))
add_in = all4 _ λ A A' B B' a a' b b'. simp ring (omega arith)

pub abs_add : (x y : ℤ) → nat_abs (x +ℤ y) ≤ nat_abs x + nat_abs y
abs_add x y = let h = add_in (pos (nat_abs x)) (pos (nat_abs y)) x y (abs_lo x) (abs_hi x) (abs_lo y) (abs_hi y) in abs_by _ _ h.0 h.1

pub abs_neg : (x : ℤ) → nat_abs (neg_ℤ x) ≡ nat_abs x
abs_neg (pos zero) = refl
abs_neg (pos (suc n)) = refl
abs_neg (negsuc n) = refl

pub abs_sub : (x y : ℤ) → nat_abs (x -ℤ y) ≤ nat_abs x + nat_abs y
abs_sub x y = omega (arith, abs_add x (neg_ℤ y), abs_neg y)

pub abs_mul : (x y : ℤ) → nat_abs (x *ℤ y) ≡ nat_abs x * nat_abs y
abs_mul (pos m) (pos n) = refl
abs_mul (pos m) (negsuc n) = abs_neg (pos (m * suc n))
abs_mul (negsuc m) (pos n) = abs_neg (pos (suc m * n))
abs_mul (negsuc m) (negsuc n) = refl

pub abs_mul_le : (x y : ℤ) (A B : ℕ) → nat_abs x ≤ A → nat_abs y ≤ B → nat_abs (x *ℤ y) ≤ A * B
abs_mul_le x y A B h k = rw (abs_mul x y) (mul-le-mul h k)

-- a call's result, as the caller's local reads it back: its range (`.ok`) and what it ensures
pub read : (w : Width) {r z : ℤ} → mag r < 2 ^ hbits w → r ≡ z → to_z w (of_z w r) ≡ z
read w h e = to_z-of_z (record { sfits = h }) ∙ e

-- ---- the quotient of two that are not negative
pub record Quot (n d : ℤ) : Type 0 where
  pub low : (quot_z n d *ℤ d) ≤ℤ n
  pub high : n <ℤ ((quot_z n d +ℤ pos 1) *ℤ d)
  pub sign : T (non_neg (quot_z n d))
  pub small : nat_abs (quot_z n d) ≤ nat_abs n
  pub nonzero : (w : Width) → 0 < of_z w d

quot_ℕ : (n d : ℕ) → 0 < d → (n / d * d ≤ n) × (n < (n / d + 1) * d)
quot_ℕ n d h = let e = div-add-mod' n d in let l = mod-lt n h in omega arith

pub quot : (n d : ℤ) → pos 0 ≤ℤ n → pos 0 <ℤ d → Quot n d
quot (pos n) (pos d) h k =
    let p = ltb→lt 0 d k.lt in let q = quot_ℕ n d p in
    record { low = record { le = le→leb _ _ q.0 }; high = record { lt = lt→ltb _ _ q.1 }; sign = tt; small = div-le_self n d; nonzero = λ w. p }
quot (pos n) (negsuc d) h k = absurd k.lt
quot (negsuc n) d h k = absurd h.le

-- ---- a test of two values that were read back: `lt_yes c.fits.x c.fits.y c.if1.taken`; a literal's is `lit z`
pub lit : {w : Width} (z : ℤ) → T (ltb (mag z) (2 ^ hbits w)) → SFits w z
lit z t = sfits_lit t

module _ {w : Width} {x y : ℤ} (fx : SFits w x) (fy : SFits w y) where
  pub lt_yes : lt_z (to_z w (of_z w x)) (to_z w (of_z w y)) ≡ true → x <ℤ y
  lt_yes e = lt_true x y (rw (to_z-of_z fx, to_z-of_z fy) at e)

  pub lt_no : lt_z (to_z w (of_z w x)) (to_z w (of_z w y)) ≡ false → y ≤ℤ x
  lt_no e = lt_false x y (rw (to_z-of_z fx, to_z-of_z fy) at e)

-- any signed value, read back: `omega arith` finds its range in what a goal is handed, be it a parameter, a call's result, an element or a struct's field
pub field : (w : Width) (z : ℤ) → mag z < 2 ^ hbits w → to_z w (of_z w z) ≡ z
field w z h = to_z-of_z (record { sfits = h })

-- ---- the range of an expression from those of its variables, in one step:
--     f = vars3 _ λ ρ h i j. simp (poly, num_val ρ) (in_range ρ (100 ∷ 100 ∷ 7 ∷ []) _ (h, (i, (j, tt))) w64 tt)
abbrev pub bound : List ℕ → Exp → ℕ
bound β (var i) = get_or β i 0
bound β (num n) = n
bound β (nsuc n) = suc n
bound β (plus e f) = bound β e + bound β f
bound β (times e f) = bound β e * bound β f
bound β (minus e) = bound β e

-- only variables with a bound stand in it
abbrev pub closed : List ℕ → Exp → Bool
closed β (var i) = ltb i (length β)
closed β (num n) = true
closed β (nsuc n) = true
closed β (plus e f) = closed β e && closed β f
closed β (times e f) = closed β e && closed β f
closed β (minus e) = closed β e

-- the magnitudes of the variables from i on are at most β
abbrev pub Known : List ℤ → ℕ → List ℕ → Type 0
Known ρ i [] = Unit {0}
Known ρ i (B ∷ β) = (nat_abs (val ρ (var i)) ≤ B) × Known ρ (suc i) β

known_at : (ρ : List ℤ) (β : List ℕ) (i j : ℕ) → Known ρ i β → j < length β → nat_abs (val ρ (var (j + i))) ≤ get_or β j 0
known_at ρ [] i j k h = absurd (omega arith)
known_at ρ (B ∷ β) i zero k h = rw (zero-add i) k.0
known_at ρ (B ∷ β) i (suc j) k h = let e : suc j + i ≡ j + suc i = omega arith in rw e (known_at ρ β (suc i) j k.1 (omega arith))

bounded : (ρ : List ℤ) (β : List ℕ) → Known ρ 0 β → (e : Exp) → T (closed β e) → nat_abs (val ρ e) ≤ bound β e
bounded ρ β k (var i) t = rw (add-zero i) at (known_at ρ β 0 i k (ltb→lt i (length β) t))
bounded ρ β k (num n) t = rw (← num_val ρ n) (omega arith)
bounded ρ β k (nsuc n) t = rw (← nsuc_val ρ n) (omega arith)
bounded ρ β k (plus e f) t =
    let s = and_yes (closed β e) (closed β f) t in
    rw (← plus_val ρ e f) (omega (arith, abs_add (val ρ e) (val ρ f), bounded ρ β k e s.0, bounded ρ β k f s.1))
bounded ρ β k (times e f) t =
    let s = and_yes (closed β e) (closed β f) t in
    rw (← times_val ρ e f) (abs_mul_le (val ρ e) (val ρ f) _ _ (bounded ρ β k e s.0) (bounded ρ β k f s.1))
bounded ρ β k (minus e) t = rw (← minus_val ρ e, abs_neg (val ρ e)) (bounded ρ β k e t)

pub in_range : (ρ : List ℤ) (β : List ℕ) (e : Exp) → Known ρ 0 β → (w : Width) → T (closed β e && ltb (bound β e) (2 ^ hbits w)) → SFits w (val ρ e)
in_range ρ β e k w t =
    let s = and_yes (closed β e) (ltb (bound β e) (2 ^ hbits w)) t in
    fits w (val ρ e) (omega (arith, bounded ρ β k e s.0, ltb→lt (bound β e) (2 ^ hbits w) s.1))

-- the same as a bound
pub at_most : (ρ : List ℤ) (β : List ℕ) (e : Exp) → Known ρ 0 β → (B : ℕ) → T (closed β e && leb (bound β e) B) → nat_abs (val ρ e) ≤ B
at_most ρ β e k B t =
    let s = and_yes (closed β e) (leb (bound β e) B) t in
    omega (arith, bounded ρ β k e s.0, leb→le (bound β e) B s.1)
