-- The check of a block is an 8-bit Fletcher sum that starts at zero: two sums that run along the bytes, each kept modulo 255. Assumes nothing.
use mathlib.Core.Path.{◌≡◌, refl, ap, ◌∙◌}
use mathlib.Core.List.{List}
use Prim.Native.Nat.{ℕ, zero, suc, ◌+◌, ◌*◌, ◌-◌, ◌%◌}
use native.Mathlib.Nat.{add-mul}
use native.Mathlib.Omega.{arith}
use Rattle.seal.specs.Seal.{body_size, byte, sum, plain_sum, weighed_sum}
use Rattle.seal.proofs.Bytes.{sum_same}

-- after n bytes: the first sum takes each byte, and the second the first sum
unfoldable pub plain : List ℕ → ℕ → ℕ
plain l zero = 0
plain l (suc n) = (plain l n + byte l n) % 255

unfoldable pub weighed : List ℕ → ℕ → ℕ
weighed l zero = 0
weighed l (suc n) = (weighed l n + plain l (suc n)) % 255

-- remainders add up
mod_add : (a b : ℕ) → (a % 255 + b % 255) % 255 ≡ (a + b) % 255
mod_add a b = omega arith

sum_plus : (f g : ℕ → ℕ) (n : ℕ) → sum (λ i. f i + g i) n ≡ sum f n + sum g n
unfolding sum
sum_plus f g zero = refl
sum_plus f g (suc n) = omega (arith, sum_plus f g n)

module _ (l : List ℕ) where
  plain_is : (n : ℕ) → plain l n ≡ sum (byte l) n % 255
  unfolding sum plain
  plain_is zero = refl
  plain_is (suc n) = omega (arith, plain_is n)

  -- with one byte more, each byte before it weighs one more
  heavier : (n : ℕ) → sum (λ i. (suc n - i) * byte l i) n ≡ sum (λ i. (n - i) * byte l i) n + sum (byte l) n
  heavier n =
      sum_same (λ i. (suc n - i) * byte l i) (λ i. (n - i) * byte l i + byte l i) n
      (λ i h. let e : suc n - i ≡ n - i + 1 = omega arith in ap (λ m. m * byte l i) e ∙ add-mul (n - i) 1 (byte l i) ∙ omega arith)
      ∙ sum_plus (λ i. (n - i) * byte l i) (byte l) n

  -- the sum of the first n bytes, each weighing how far it is before m
  abbrev tilted : ℕ → ℕ → ℕ
  tilted m n = sum (λ i. (m - i) * byte l i) n

  last : (n : ℕ) → tilted (suc n) n ≡ tilted n n + sum (byte l) n → (suc n - n) * byte l n ≡ 1 * byte l n → tilted n n + sum (byte l) (suc n) ≡ tilted (suc n) (suc n)
  unfolding sum
  last n h e = omega arith

  weighed_is : (n : ℕ) → weighed l n ≡ sum (λ i. (n - i) * byte l i) n % 255
  unfolding sum weighed
  weighed_is zero = refl
  weighed_is (suc n) =
      let e : suc n - n ≡ 1 = omega arith in
      ap (λ m. (m + plain l (suc n)) % 255) (weighed_is n)
      ∙ ap (λ m. (sum (λ i. (n - i) * byte l i) n % 255 + m) % 255) (plain_is (suc n))
      ∙ mod_add (sum (λ i. (n - i) * byte l i) n) (sum (byte l) (suc n))
      ∙ ap (λ m. m % 255) (last n (heavier n) (ap (λ m. m * byte l n) e))

  pub fletcher : (plain l body_size ≡ plain_sum l) × (weighed l body_size ≡ weighed_sum l)
  unfolding plain_sum weighed_sum
  fletcher = (plain_is body_size, weighed_is body_size)
