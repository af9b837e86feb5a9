-- A block of zeros has a right check. Assumes nothing.
use mathlib.Core.Path.{◌≡◌, refl, sym, ap, ◌∙◌}
use mathlib.Core.List.{List}
use Prim.Native.Nat.{ℕ, zero, suc, ◌+◌, ◌*◌, ◌-◌, ◌%◌}
use native.Mathlib.Omega.{arith}
use lib.ListN.{replicate, length-replicate}
use Rattle.rules.specs.Refusal.{Passes}
use Rattle.seal.specs.Seal.{block_size, body_size, byte, sum, plain_sum, weighed_sum, block_checks}
use Rattle.seal.proofs.Bytes.{repeated, sum_same}

unfoldable pub zeros : List ℕ
zeros = replicate block_size 0

pub zero_at : (i : ℕ) → byte zeros i ≡ 0
unfolding zeros
zero_at i = repeated 0 block_size i

no_sum : (n : ℕ) → sum (λ i. 0) n ≡ 0
unfolding sum
no_sum zero = refl
no_sum (suc n) = omega (arith, no_sum n)

plain_zero : plain_sum zeros ≡ 0
unfolding plain_sum
plain_zero = ap (λ n. n % 255) (sum_same (λ i. byte zeros i) (λ i. 0) body_size (λ i h. zero_at i) ∙ no_sum body_size)

weighed_zero : weighed_sum zeros ≡ 0
unfolding weighed_sum
weighed_zero =
    ap (λ n. n % 255) (sum_same (λ i. (body_size - i) * byte zeros i) (λ i. 0) body_size (λ i h. rw (zero_at i) (omega arith)) ∙ no_sum body_size)

pub zero_sealed : Passes (block_checks zeros)
unfolding zeros block_checks
zero_sealed = (length-replicate {A = ℕ} block_size 0, (record { first = zero_at body_size ∙ sym plain_zero; second = zero_at (body_size + 1) ∙ sym weighed_zero }, tt))

-- and its first byte is no kind
pub zero_not : (n : ℕ) → byte zeros 0 ≡ suc n → ⊥
zero_not n e = omega (arith, zero_at 0)
