-- The decimal digits that the buffer is given are those of the definition, and there are few. Assumes nothing.
use mathlib.Core.Path.{◌≡◌, ap}
use mathlib.Core.Logic.{⊎_elim}
use mathlib.Core.List.{[], ◌∷◌, ◌++◌}
use Prim.Native.Nat.{ℕ, zero, suc, ◌+◌, ◌*◌, ◌-◌, ◌/◌, ◌%◌, ◌^◌, ◌≤◌, ◌<◌}
use native.Mathlib.Omega.{arith}
use native.Mathlib.Nat.{pow-suc, one-le-pow}
use borrow.Author.Tests.{lt-ltb, le-ltb}
use lib.ListN.{length, length-append}
use Rattle.whole.proofs.Order.{ℕ_or}
use Rattle.io.specs.Digits as io
use Rattle.io.specs.Digits.{IsDigitCount}
use Rattle.print.specs.Digits.{digits_in, digits}

few : (k n : ℕ) → length (digits_in k n) ≤ k
unfolding digits_in
few zero n = omega arith
few (suc k) n =
    ⊎_elim
    (λ (h : 10 ≤ n). rw (le-ltb n 10 h) (omega (arith, few k (n / 10), length-append (digits_in k (n / 10)) ((48 + n % 10) ∷ []))))
    (λ (h : n < 10). rw (lt-ltb n 10 h) (omega arith))
    (ℕ_or 10 n)

-- more than one digit: ten or more
more : (n r : ℕ) → IsDigitCount 10 1 n (suc (suc r)) → 10 ^ r * 10 ≤ n
more n r f = let e : suc (suc r) - 1 ≡ suc r = omega arith in let g = f.2 (omega arith) in omega (arith, pow-suc 10 r, rw e at g)

ten : (n r : ℕ) → IsDigitCount 10 1 n (suc (suc r)) → 10 ≤ n
ten n r f = omega (arith, more n r f, one-le-pow r 10 (omega arith))

-- one fewer hold a tenth
tenth : (n r : ℕ) → IsDigitCount 10 1 n (suc (suc r)) → IsDigitCount 10 1 (n / 10) (suc r)
tenth n r f = let e : suc r - 1 ≡ r = omega arith in (omega arith, omega (arith, f.1, pow-suc 10 (suc r)), λ h. rw e (omega (arith, more n r f)))

digit : (d : ℕ) → d < 10 → io.hex_digit_ascii d ≡ 48 + d
digit d h = rw (lt-ltb d 10 h)

same_digits : (k n r : ℕ) → n < 10 ^ suc k → IsDigitCount 10 1 n r → io.last_digits 10 r n ≡ digits_in (suc k) n
unfolding digits_in
same_digits k n zero h f = absurd (omega (arith, f.0))
same_digits k n (suc zero) h f =
    let g : n < 10 = omega (arith, f.1) in let e : n % 10 ≡ n = omega arith in rw (lt-ltb n 10 g, e, digit n g)
same_digits zero n (suc (suc r)) h f = absurd (omega (arith, ten n r f))
same_digits (suc k) n (suc (suc r)) h f =
    rw (le-ltb n 10 (ten n r f), digit (n % 10) (omega arith))
    (ap (λ l. l ++ ((48 + n % 10) ∷ [])) (same_digits k (n / 10) (suc r) (omega (arith, h, pow-suc 10 (suc k))) (tenth n r f)))

-- ---- all of them, and of 64 bits at most twenty
below : (n : ℕ) → n < 10 ^ suc n
below zero = omega arith
below (suc n) = omega (arith, below n, pow-suc 10 (suc n))

module _ (n r : ℕ) (f : IsDigitCount 10 1 n r) where
  pub digits_are : io.last_digits 10 r n ≡ digits n
  digits_are = same_digits n n r (below n) f

  pub digits_few : n < 2 ^ 64 → length (io.last_digits 10 r n) ≤ 20
  digits_few h = rw (same_digits 19 n r (omega arith) f) (few 20 n)
