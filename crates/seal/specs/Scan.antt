-- Bytes that are alike, or become zero, and the sums of some of a block's. Assumes nothing.
use Rattle.std.specs.Prelude.{◌≡◌, List, ◌++◌, ℕ, ◌+◌, ◌*◌, ◌-◌, ◌≤◌, ◌<◌, length, take, replicate}
use Rattle.seal.specs.Seal.{body_size, byte, sum}

-- the first 510 bytes are the same
abbrev pub Alike : List ℕ → List ℕ → Type 0
Alike l m = (i : ℕ) → i < body_size → byte l i ≡ byte m i

-- the bytes before here, and zeros in the place of the others
unfoldable pub cleared : ℕ → List ℕ → List ℕ
cleared from l = take from l ++ replicate (length l - from) 0

-- the sums of bytes that stand in a block from byte `at` on, no remainder taken
pub record SumsAt (l : List ℕ) (at plain weighed : ℕ) : Type 0 where
  pub plain_is : plain ≡ sum (λ i. byte l i) (length l)
  pub weighed_is : weighed ≡ sum (λ i. (body_size - (at + i)) * byte l i) (length l)
  pub plain_most : plain ≤ 255 * length l
  pub weighed_most : weighed ≤ 130050 * length l
