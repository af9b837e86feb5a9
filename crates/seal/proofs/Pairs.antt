-- The sums of a block, as loops run over them: a byte's weight has a bound, and bytes taken in pairs come to the block's sums. Assumes nothing.
use mathlib.Core.Path.{◌≡◌, refl, sym, ap, ◌∙◌}
use mathlib.Core.List.{List}
use Prim.Native.Nat.{ℕ, zero, suc, ◌+◌, ◌*◌, ◌-◌, ◌%◌, ◌≤◌}
use native.Mathlib.Nat.{mul-le-mul, add-mul, mul-add}
use native.Mathlib.Omega.{arith}
use mir.Syntax.{w8}
use mir.Val.{Fits}
use Rattle.seal.specs.Seal.{body_size, byte, sum, plain_sum, weighed_sum}
use Rattle.seal.proofs.Bytes.{sum_split}

pub byte_weight_most : (i b : ℕ) → Fits w8 b → (body_size - i) * b ≤ 130050
byte_weight_most i b h = let l : body_size - i ≤ body_size = omega arith in let k : b ≤ 255 = omega arith in mul-le-mul l k

-- byte j and byte 255 + j
abbrev pub both : List ℕ → ℕ → ℕ
both l j = byte l j + byte l (255 + j)

pub weight_most : (i a b : ℕ) → Fits w8 a → Fits w8 b → (255 - i) * (a + b) ≤ 130050
weight_most i a b h k = let l : 255 - i ≤ 255 = omega arith in let m : a + b ≤ 510 = omega arith in mul-le-mul l m

-- ---- pairs and single bytes
paired : (l : List ℕ) (n : ℕ) → sum (λ j. both l j) n ≡ sum (λ j. byte l j) n + sum (λ j. byte l (255 + j)) n
unfolding sum
paired l zero = refl
paired l (suc n) = omega (arith, paired l n)

-- byte j weighs 255 more than byte 255 + j
weighs : (l : List ℕ) (n : ℕ) → n ≤ 255
    → sum (λ j. (body_size - j) * byte l j) n + sum (λ j. (body_size - (255 + j)) * byte l (255 + j)) n ≡ sum (λ j. (255 - j) * both l j) n + 255 * sum (λ j. byte l j) n
unfolding sum
weighs l zero h = refl
weighs l (suc n) h =
    let a : body_size - n ≡ 255 + (255 - n) = omega arith in
    let b : body_size - (255 + n) ≡ 255 - n = omega arith in
    let p = ap (λ m. m * byte l n) a ∙ add-mul 255 (255 - n) (byte l n) in
    let q = ap (λ m. m * byte l (255 + n)) b in
    let r = mul-add (255 - n) (byte l n) (byte l (255 + n)) in
    omega (arith, weighs l n (omega arith), p, q, r)

pub ended : (l : List ℕ) (plain weighed : ℕ) → plain ≡ sum (λ j. both l j) 255 → weighed ≡ sum (λ j. (255 - j) * both l j) 255 → (plain % 255 ≡ plain_sum l) × (weighed % 255 ≡ weighed_sum l)
unfolding plain_sum weighed_sum
ended l plain weighed p w =
    (ap (λ n. n % 255) (p ∙ paired l 255 ∙ sym (sum_split (λ j. byte l j) 255 255)), omega (arith, w, weighs l 255 (omega arith), sum_split (λ j. (body_size - j) * byte l j) 255 255))
