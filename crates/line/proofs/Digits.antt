-- Digits: whether bytes are digits, the number that they say, and one to nine of them. Assumes nothing.
use mathlib.Core.Path.{◌≡◌, refl, sym, ap, ◌∙◌}
use mathlib.Core.Bool.{Bool, true, false, cond, not, and-true, and-false}
use mathlib.Core.List.{List, [], ◌∷◌, ◌++◌}
use Prim.Native.Nat.{ℕ, ◌+◌, ◌*◌, ◌-◌, ◌^◌, ◌≤◌, ◌<◌}
use native.Mathlib.Omega.{arith}
use native.Mathlib.Numerals.{add-one}
use native.Mathlib.Nat.{pow-suc, pow-le-pow_right, mul-le-mul_right}
use borrow.Author.Tests.{le-leb, lt-leb, leb-true, ne_eqb}
use lib.Dec.{leb, eqb, lit<}
use lib.ListN.{length, get_or, drop}
use lib.Seq.{drop-cons}
use Rattle.whole.proofs.Flag.{and_yes}
use Rattle.line.specs.Text.{parts}
use Rattle.line.specs.Number.{digit, all_digits, empty, digits, few, amount, number}
use Rattle.line.specs.Steps.{saturated, number_or, few_or}
use Rattle.std.proofs.Common.{Option, Some, None}

-- ---- a byte and whether it is a digit
pub is_digit : (b : ℕ) → 48 ≤ b → b ≤ 57 → digit b ≡ true
is_digit b h g = rw (le-leb 48 b h, le-leb b 57 g)

pub below_digits : (b : ℕ) → b < 48 → digit b ≡ false
below_digits b h = rw (lt-leb 48 b h)

pub above_digits : (b : ℕ) → 57 < b → digit b ≡ false
above_digits b h = rw (lt-leb b 57 h) (and-false (leb 48 b))

digit_range : (b : ℕ) → digit b ≡ true → (48 ≤ b) × (b ≤ 57)
digit_range b e = let y = and_yes (leb 48 b) (leb b 57) e in (leb-true 48 b y.0, leb-true b 57 y.1)

pub digit_small : (b : ℕ) → digit b ≡ true → b - 48 ≤ 9
digit_small b e = omega (arith, digit_range b e)

-- ---- digits from a place on
module _ (w : List ℕ) (i : ℕ) (h : i < length w) where
  pub next_digit : digit (get_or w i 0) ≡ true → all_digits (drop i w) ≡ all_digits (drop (i + 1) w)
  unfolding all_digits
  next_digit e = rw (add-one, drop-cons w i 0 h, e)

  pub no_digit : digit (get_or w i 0) ≡ false → all_digits (drop i w) ≡ false
  unfolding all_digits
  no_digit e = rw (drop-cons w i 0 h, e)

  pub next_amount : (n : ℕ) → amount n (drop i w) ≡ amount (10 * n + (get_or w i 0 - 48)) (drop (i + 1) w)
  unfolding amount
  next_amount n = rw (add-one, drop-cons w i 0 h)

-- a byte below the digits, a point or a slash, parts none
pub digits_unparted : (c : ℕ) → c < 48 → (l : List ℕ) → all_digits l ≡ true → parts (λ b. eqb b c) l ≡ l ∷ []
unfolding parts all_digits
digits_unparted c h [] e = refl
digits_unparted c h (b ∷ l) e =
    let y = and_yes (digit b) (all_digits l) e in
    rw (ne_eqb b c (λ f. omega (arith, digit_range b y.0)), digits_unparted c h l y.1)

-- ---- powers of ten
pub pow_more : (i : ℕ) → 10 * 10 ^ i ≡ 10 ^ (i + 1)
pow_more i = rw (add-one, pow-suc 10 i) (omega arith)

pub pow_most : (i k : ℕ) → i ≤ k → 10 ^ i ≤ 10 ^ k
pow_most i k h = pow-le-pow_right (lit< tt) h

-- ---- the number that digits say
amount_after : (n : ℕ) (a b : List ℕ) → amount n (a ++ b) ≡ amount (amount n a) b
unfolding amount
amount_after n [] b = refl
amount_after n (c ∷ a) b = amount_after (10 * n + (c - 48)) a b

amount_is : (n : ℕ) (b : List ℕ) → amount n b ≡ n * 10 ^ length b + number b
unfolding amount
amount_is n [] = omega arith
amount_is n (c ∷ b) = rw (pow-suc 10 (length b), amount_is (10 * n + (c - 48)) b, amount_is (10 * 0 + (c - 48)) b) (omega arith)

-- that of a, moved up by as many places as b has
pub number_after : (a b : List ℕ) → number (a ++ b) ≡ number a * 10 ^ length b + number b
number_after a b = amount_after 0 a b ∙ amount_is (number a) b

pub number_small : (b : List ℕ) → all_digits b ≡ true → number b < 10 ^ length b
unfolding amount all_digits
number_small [] e = omega arith
number_small (c ∷ b) e =
    let y = and_yes (digit c) (all_digits b) e in
    let d : c - 48 ≤ 9 = omega (arith, digit_range c y.0) in
    let h = number_small b y.1 in
    let l = mul-le-mul_right (10 ^ length b) d in
    rw (pow-suc 10 (length b), amount_is (10 * 0 + (c - 48)) b) (omega arith)

-- ---- a number in 32 bits
pub saturated_few : (n : ℕ) → n ≤ 2 ^ 32 - 1 → saturated n ≡ n
saturated_few n h = omega arith

-- one more digit
saturated_more : (n d : ℕ) → saturated (10 * saturated n + d) ≡ saturated (10 * n + d)
saturated_more n d = omega arith

-- what more digits make of it is known from it
saturated_amount : (n : ℕ) (l : List ℕ) → saturated (amount (saturated n) l) ≡ saturated (amount n l)
unfolding amount
saturated_amount n [] = saturated_few (saturated n) (omega arith)
saturated_amount n (b ∷ l) =
    let d = b - 48 in
    sym (saturated_amount (10 * saturated n + d) l) ∙ (ap (λ m. saturated (amount m l)) (saturated_more n d) ∙ saturated_amount (10 * n + d) l)

pub next_saturated : (w : List ℕ) (i : ℕ) → i < length w → (n : ℕ) → saturated (amount n (drop i w)) ≡ saturated (amount (saturated (10 * n + (get_or w i 0 - 48))) (drop (i + 1) w))
next_saturated w i h n = ap saturated (next_amount w i h n) ∙ sym (saturated_amount (10 * n + (get_or w i 0 - 48)) (drop (i + 1) w))

-- ---- one digit or more
pub not_empty : (w : List ℕ) → (length w ≡ 0 → ⊥) → empty w ≡ false
not_empty [] h = absurd (h refl)
not_empty (b ∷ w) h = refl

pub digits_yes : (w : List ℕ) → (length w ≡ 0 → ⊥) → all_digits w ≡ true → digits w ≡ true
digits_yes w h e = rw (not_empty w h, e)

pub digits_no : (w : List ℕ) → all_digits w ≡ false → digits w ≡ false
digits_no w e = rw e (and-false (not (empty w)))

-- a byte that is no digit ends them
pub digits_end : (w : List ℕ) (i : ℕ) → i < length w → all_digits w ≡ all_digits (drop i w) → digit (get_or w i 0) ≡ false → digits w ≡ false
digits_end w i h d e = digits_no w (d ∙ no_digit w i h e)

-- ---- one to nine
pub few_long : (w : List ℕ) → 9 < length w → few w ≡ false
few_long w h = rw (lt-leb (length w) 9 h) (and-false (digits w))

pub few_digits : (w : List ℕ) → few w ≡ true → (all_digits w ≡ true) × (length w ≤ 9)
few_digits w e = let y = and_yes (digits w) (leb (length w) 9) e in ((and_yes (not (empty w)) (all_digits w) y.0).1, leb-true (length w) 9 y.1)

-- they say a number of 32 bits
pub few_number : (w : List ℕ) → length w ≤ 9 → number_or w ≡ few_or w
few_number w h = rw (le-leb (length w) 9 h, and-true (digits w)) (by (digits w) refl)
  where
    by : (t : Bool) → digits w ≡ t → ◌≡◌ {A = Option ℕ} (cond t (Some (saturated (number w))) None) (cond t (Some (number w)) None)
    by true e =
        let n = number_small w (and_yes (not (empty w)) (all_digits w) e).1 in
        ap Some (saturated_few (number w) (omega (arith, pow_most (length w) 9 h)))
    by false e = refl
