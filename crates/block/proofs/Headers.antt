-- A header and its block: what passes is the block of its count, and the block of a good count passes. Assumes nothing.
use mathlib.Core.Path.{◌≡◌, refl, sym, ap, ◌∙◌}
use mathlib.Core.List.{List, [], ◌∷◌}
use Prim.Native.Nat.{ℕ, zero, suc, ◌+◌, ◌≤◌, ◌<◌}
use native.Mathlib.Omega.{arith}
use lib.ListN.{length, get_or, get_or-append}
use Rattle.rules.specs.Reach.{Pieces}
use Rattle.rules.specs.Refusal.{Passes}
use Rattle.rules.proofs.Checks.{passes_append, passes_left, passes_right}
use Rattle.seal.specs.Seal.{block_size, body_size, byte, Sealed, block_checks}
use Rattle.block.specs.Layout.{name, edition, header_front, header_block}
use Rattle.block.specs.Reading.{header_bytes, header_checks}
use Rattle.seal.proofs.Bytes.{Alike, block_length, block_at, block_sealed, block_is}
use Rattle.seal.proofs.Unnamed.{stable, unnamed_front}

few : (n : ℕ) → length (header_front n) ≤ body_size
few n = omega arith

-- ---- what passes
module _ (l : List ℕ) (p : Passes (header_checks l)) where
  whole : Passes (block_checks l)
  unfolding header_checks
  whole = passes_left (block_checks l) (header_bytes l) p

  rest : Passes (header_bytes l)
  unfolding header_checks
  rest = passes_right (block_checks l) (header_bytes l) p

  pub header_length : length l ≡ block_size
  unfolding block_checks
  header_length = whole.0

  sealed : Sealed l
  unfolding block_checks
  sealed = whole.1.0

  letter : (j : ℕ) → j < 4 → byte l j ≡ get_or name j 0
  unfolding header_bytes
  letter j h = stable _ _ (rest.0 j h)

  edition_is : byte l 4 ≡ edition
  unfolding header_bytes
  edition_is = rest.1.0

  zero_at : (n : ℕ) → n < 504 → byte l (6 + n) ≡ 0
  unfolding header_bytes
  zero_at n h = stable (byte l (6 + n)) 0 (rest.1.1.1.0 n h)

  alike : Alike l (header_front (byte l 5))
  alike zero h = letter 0 (omega arith)
  alike (suc zero) h = letter 1 (omega arith)
  alike (suc (suc zero)) h = letter 2 (omega arith)
  alike (suc (suc (suc zero))) h = letter 3 (omega arith)
  alike (suc (suc (suc (suc zero)))) h = edition_is
  alike (suc (suc (suc (suc (suc zero))))) h = refl
  alike (suc (suc (suc (suc (suc (suc n)))))) h =
      let e : suc (suc (suc (suc (suc (suc n))))) ≡ 6 + n = omega arith in
      rw e (zero_at n (omega arith))

  pub header_count : Pieces (byte l 5)
  unfolding header_bytes
  header_count = rest.1.1.0

  pub header_is : l ≡ header_block (byte l 5)
  unfolding header_block
  header_is = block_is l (header_front (byte l 5)) (few (byte l 5)) header_length sealed alike

-- ---- what a good count makes
pub header_passes : (n : ℕ) → Pieces n → Passes (header_checks (header_block n))
unfolding header_checks header_block block_checks header_bytes
header_passes n h =
    passes_append (block_checks (header_block n)) (header_bytes (header_block n))
    (block_length (header_front n) (few n), (block_sealed (header_front n) (few n), tt)) (
      λ j k b. b (block_at (header_front n) (few n) j (omega arith) ∙ get_or-append name (edition ∷ n ∷ []) 0 j k),
      (
        block_at (header_front n) (few n) 4 (omega arith),
        (rw (block_at (header_front n) (few n) 5 (omega arith)) h, (unnamed_front (header_front n) 6 (few n) (omega arith), tt)),
      ),
    )

-- byte 5 tells the count
pub header_one : (m n : ℕ) → header_block m ≡ header_block n → m ≡ n
unfolding header_block
header_one m n e = sym (block_at (header_front m) (few m) 5 (omega arith)) ∙ ap (λ l. byte l 5) e ∙ block_at (header_front n) (few n) 5 (omega arith)
