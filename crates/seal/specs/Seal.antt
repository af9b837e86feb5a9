-- 512 bytes and their check: the block of its first bytes, and what any block is looked at for. `Finds` these checks has one answer by refusal/proofs/Unique
-- `finds_one`, since they are definite (proofs/OneFault). Assumes nothing.
use Rattle.std.specs.Prelude.{◌≡◌, List, [], ◌∷◌, ◌++◌, ℕ, zero, suc, ◌+◌, ◌*◌, ◌-◌, ◌%◌, ◌≤◌, length, get_or, take, drop, replicate}
use Rattle.rules.specs.Refusal.{refuse, Check, demand, each}

-- ---- bytes
-- every block has 512 bytes, 510 of them before its check
abbrev pub block_size : ℕ
block_size = 512

abbrev pub body_size : ℕ
body_size = 510

-- byte i, and zero past the end
abbrev pub byte : List ℕ → ℕ → ℕ
byte l i = get_or l i 0

-- so many bytes are whole blocks: a multiple of 512, from the least to the most
pub record Blocks (least most : ℕ) (l : List ℕ) : Type 0 where
  pub whole : length l % block_size ≡ 0
  pub above : least ≤ length l
  pub below : length l ≤ most

-- block i of them
unfoldable pub block_at : List ℕ → ℕ → List ℕ
block_at l i = take block_size (drop (block_size * i) l)

-- ---- the check
-- f 0 + f 1 + .. + f (n - 1)
unfoldable pub sum : (ℕ → ℕ) → ℕ → ℕ
sum f zero = 0
sum f (suc n) = sum f n + f n

-- the check: the sum of bytes 0 to 509 modulo 255, and the sum of (510 - i) times byte i modulo 255
unfoldable pub plain_sum : List ℕ → ℕ
plain_sum l = sum (λ i. byte l i) body_size % 255

unfoldable pub weighed_sum : List ℕ → ℕ
weighed_sum l = sum (λ i. (body_size - i) * byte l i) body_size % 255

-- zeros after l, up to n bytes
unfoldable pub filled : ℕ → List ℕ → List ℕ
filled n l = l ++ replicate (n - length l) 0

-- a block of 512 bytes from its first ones: zeros up to 510, then the check
unfoldable pub block_of : List ℕ → List ℕ
block_of l = filled body_size l ++ (plain_sum (filled body_size l) ∷ weighed_sum (filled body_size l) ∷ [])

-- ---- what is looked at
-- a block has 512 bytes
abbrev pub length_check : List ℕ → Check
length_check l = demand (length l ≡ block_size) (refuse 1 0 0)

-- bytes 510 and 511 of a block are the check of these bytes
pub record SealedAs (l block : List ℕ) : Type 0 where
  pub first : byte block body_size ≡ plain_sum l
  pub second : byte block (body_size + 1) ≡ weighed_sum l

-- a block is sealed by its own
abbrev pub Sealed : List ℕ → Type 0
Sealed l = SealedAs l l

abbrev pub seal_check : List ℕ → Check
seal_check l = demand (Sealed l) (refuse 2 0 0)

-- any block: length, then check
unfoldable pub block_checks : List ℕ → List Check
block_checks l = length_check l ∷ seal_check l ∷ []

-- byte j from here on is not zero
abbrev pub NotZero : List ℕ → ℕ → ℕ → Type 0
NotZero l from j = byte l (from + j) ≡ 0 → ⊥

-- the bytes from here to 509 have no name, and are zero
abbrev pub unnamed_check : List ℕ → ℕ → Check
unnamed_check l from = each (NotZero l from) (body_size - from) (λ i. refuse 3 (from + i) 0)
