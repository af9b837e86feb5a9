-- Decimals: sixteen times a whole number and a part, digits with a point or none among them, and a sign before them. Assumes nothing.
use mathlib.Core.Path.{◌≡◌, refl, sym, ◌∙◌}
use mathlib.Core.Bool.{Bool, true, false, cond, not, ◌&&◌, and-false}
use mathlib.Core.Logic.{⊎_elim}
use mathlib.Core.List.{List, [], ◌∷◌}
use Prim.Native.Nat.{ℕ, suc, ◌+◌, ◌*◌, ◌/◌, ◌%◌, ◌^◌, ◌≤◌, ◌<◌}
use native.Mathlib.Omega.{arith}
use native.Mathlib.Nat.{mul-le-mul_right, mul-add-mod_self_right, mul-add-div_right, div-le_of_le-mul}
use borrow.Author.Tests.{lt-ltb, le-ltb, ltb-true, ltb-false, eqb-true, eqb-false}
use lib.Dec.{ltb, eqb, lit<}
use lib.IntN.{ℤ, pos, nat_abs}
use lib.ListN.{length, drop}
use Rattle.whole.proofs.Range.{abs_neg}
use Rattle.whole.proofs.Flag.{by_flag, decided, and_yes}
use Rattle.grid.specs.Number.{signed}
use Rattle.line.specs.Text.{point, parts}
use Rattle.line.specs.Number.{Decimal, few, number, minus, plus, is_pointed, pointed, is_decimal, decimal, gridded}
use Rattle.std.proofs.Common.{Some, None, Result, Ok, Err}
use Rattle.line.specs.declared.Missed.{Missed}
use Rattle.line.specs.declared.Missed.TheVariants.{Beyond, OffGrid}
use Rattle.line.specs.Calls.{entry}
use Rattle.line.specs.Steps.{Entered, pointed_or, turned_if, decimal_or}
use Rattle.line.proofs.Parts.{alone}
use Rattle.line.proofs.Digits.{digits_unparted, number_after, few_digits}

-- ---- a whole number w and a part p of s: held against 1,024, and sixteen times it
-- within reach it is at most 16,384
pub sixteen_small : (n s : ℕ) → n ≤ 1024 * s → 16 * n / s ≤ 16384
sixteen_small n s h = div-le_of_le-mul s (omega arith)

module _ (w p s : ℕ) (h : p < s) where
  held : (n : ℕ) → 1024 * s < suc n * s + p → n * s + p ≤ 1024 * s → ltb (1024 * s) (w * s + p) ≡ ltb n w
  held n a b =
      ⊎_elim
      (λ e. lt-ltb (1024 * s) (w * s + p) (omega (arith, mul-le-mul_right s (ltb-true n w e))) ∙ sym e)
      (λ e. le-ltb (1024 * s) (w * s + p) (omega (arith, mul-le-mul_right s (ltb-false n w e))) ∙ sym e)
      (decided (ltb n w))

  beyond_is : ltb (1024 * s) (w * s + p) ≡ cond (eqb p 0) (ltb 1024 w) (ltb 1023 w)
  beyond_is =
      by_flag (λ t. ltb (1024 * s) (w * s + p) ≡ t) (eqb p 0) (ltb 1024 w) (ltb 1023 w)
      (λ e. let z = eqb-true p 0 e in held 1024 (omega arith) (omega arith)) (λ e. let z = eqb-false p 0 e in held 1023 (omega arith) (omega arith))

  sixteen : 16 * (w * s + p) ≡ 16 * w * s + 16 * p
  sixteen = omega arith

  left_is : 16 * (w * s + p) % s ≡ 16 * p % s
  left_is = rw sixteen (mul-add-mod_self_right (16 * w) s (16 * p))

  grid_is : 16 * (w * s + p) / s ≡ 16 * w + 16 * p / s
  grid_is = rw sixteen (mul-add-div_right (omega arith) (16 * w) (16 * p))

  pub grid_small : cond (eqb p 0) (ltb 1024 w) (ltb 1023 w) ≡ false → 16 * w + 16 * p / s ≤ 16384
  grid_small e = rw (← grid_is) (sixteen_small (w * s + p) s (ltb-false _ _ (beyond_is ∙ e)))

  -- the entry of plus or minus it
  pub entered : (m : Bool) (e : Result ℤ Missed) → e ≡ cond (cond (eqb p 0) (ltb 1024 w) (ltb 1023 w)) (Err Beyond) (cond (eqb (16 * p % s) 0) (Ok (signed m (16 * w + 16 * p / s))) (Err OffGrid))
      → Entered m (w * s + p) s e
  unfolding entry gridded
  entered m e g places k = rw (← k, beyond_is, left_is, grid_is) g

-- ---- digits, and perhaps a point and digits
few_unparted : (b : List ℕ) → few b ≡ true → parts point b ≡ b ∷ []
few_unparted b e = digits_unparted 46 (lit< tt) b (few_digits b e).0

-- a and then the parts of b: both have to be digits
two_parts : (a b : List ℕ) → is_pointed (a ∷ parts point b) ≡ (few a && few b)
two_parts a b = alone point (λ ps. is_pointed (a ∷ ps)) (λ q r ps. refl) b (λ e. few_unparted b (and_yes (few a) (few b) e).1)

-- a text: up to its first point, and after it
module _ (m : Bool) (w a : List ℕ) where
  pub first_entry : parts point w ≡ a ∷ [] → few a ≡ true → pointed_or m w ≡ Some (entry (record { negative = m; whole = number a; places = 0 }))
  first_entry e f = rw (e, f)

  module _ (b : List ℕ) (e : parts point w ≡ a ∷ parts point b) where
    pub no_second : few b ≡ false → pointed_or m w ≡ None
    no_second g = rw (e, two_parts a b, g, and-false (few a))

    pub both_entry : few a ≡ true → few b ≡ true → pointed_or m w ≡ Some (entry (record { negative = m; whole = number a * 10 ^ length b + number b; places = length b }))
    both_entry f g = rw (e, two_parts a b, f, g, few_unparted b g, number_after a b)

-- ---- perhaps with a sign before them, and perhaps turned
turn : (t s : Bool) (ps : List (List ℕ))
    → cond (is_pointed ps) (Some (entry (turned_if t (pointed s ps)))) None ≡ cond (is_pointed ps) (Some (entry (pointed (cond s (not t) t) ps))) None
turn false true ps = refl
turn false false ps = refl
turn true s [] = refl
turn true true (a ∷ []) = refl
turn true false (a ∷ []) = refl
turn true true (a ∷ (b ∷ l)) = refl
turn true false (a ∷ (b ∷ l)) = refl

-- within reach a grid number is at most 16,384
pub signed_size : (s : Bool) (a : ℕ) → nat_abs (signed s a) ≡ a
signed_size true a = abs_neg (pos a)
signed_size false a = refl

pub gridded_small : (d : Decimal) → d.whole ≤ 1024 * 10 ^ d.places → nat_abs (gridded d) ≤ 16384
unfolding gridded
gridded_small d h = rw (signed_size d.negative (16 * d.whole / 10 ^ d.places)) (sixteen_small d.whole (10 ^ d.places) h)

module _ (t : Bool) (w : List ℕ) where
  pub minus_entry : minus w ≡ true → decimal_or t w ≡ pointed_or (not t) (drop 1 w)
  unfolding is_decimal decimal
  minus_entry e = rw e (turn t true (parts point (drop 1 w)))

  pub plus_entry : minus w ≡ false → plus w ≡ true → decimal_or t w ≡ pointed_or t (drop 1 w)
  unfolding is_decimal decimal
  plus_entry e f = rw (e, f) (turn t false (parts point (drop 1 w)))

  pub plain_entry : minus w ≡ false → plus w ≡ false → decimal_or t w ≡ pointed_or t w
  unfolding is_decimal decimal
  plain_entry e f = rw (e, f) (turn t false (parts point w))
