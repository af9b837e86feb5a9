-- Blocks of two bytes and then numbers, as runs and pieces are: when a list is one, and what it tells of its numbers. Assumes nothing.
use mathlib.Core.Path.{◌≡◌, sym, ap, ◌∙◌}
use mathlib.Core.Logic.{◌⊎◌, inl, inr, ⊎_elim}
use mathlib.Core.List.{List, ◌∷◌}
use Prim.Native.Nat.{ℕ, zero, suc, ◌+◌, ◌*◌, ◌-◌, ◌/◌, ◌%◌, ◌≤◌, ◌<◌}
use native.Mathlib.Omega.{arith}
use lib.IntN.{ℤ, pos}
use lib.ListN.{length, get_or, take, drop}
use lib.Seq.{get_or-take, get_or-drop}
use mir.Syntax.{w8, w32}
use mir.Val.{Fits, to_z, of_z}
use mir.Facts.{to_z-of_z}
use Rattle.whole.proofs.Order.{ℕ_or}
use Rattle.seal.specs.Seal.{block_size, body_size, byte, block_of, Sealed}
use Rattle.pair.specs.Pair.{word, words, NumbersOf}
use Rattle.seal.proofs.Bytes.{Alike, block_at, block_is}
use Rattle.pair.proofs.Bits.{half_fits}
use Rattle.pair.proofs.Words.{low_at, high_at, words_length, number_at}
use Rattle.block.specs.Scan.{NumberAt}

-- even or odd
pub halves : (n : ℕ) → (n % 2 ≡ 0) ⊎ (n % 2 ≡ 0 → ⊥)
halves n = ⊎_elim (λ (h : n % 2 ≤ 0). inl (omega arith)) (λ (h : 0 < n % 2). inr (λ e. omega arith)) (ℕ_or (n % 2) 0)

-- ---- after a kind and a second byte
pub front_low_at : (a b : ℕ) (zs : List ℤ) (j : ℕ) → byte (a ∷ b ∷ words zs) (2 + 2 * j) ≡ word (get_or zs j (pos 0)) % 256
front_low_at a b zs j = let e : 2 + 2 * j ≡ suc (suc (2 * j)) = omega arith in rw e (low_at zs j)

pub front_high_at : (a b : ℕ) (zs : List ℤ) (j : ℕ) → byte (a ∷ b ∷ words zs) (3 + 2 * j) ≡ word (get_or zs j (pos 0)) / 256
front_high_at a b zs j = let e : 3 + 2 * j ≡ suc (suc (suc (2 * j))) = omega arith in rw e (high_at zs j)

pub front_low : (a b : ℕ) (zs : List ℤ) (i : ℕ) → 2 ≤ i → i % 2 ≡ 0 → byte (a ∷ b ∷ words zs) i ≡ word (get_or zs ((i - 2) / 2) (pos 0)) % 256
front_low a b zs i h k = let e : 2 + 2 * ((i - 2) / 2) ≡ i = omega arith in rw e at (front_low_at a b zs ((i - 2) / 2))

pub front_high : (a b : ℕ) (zs : List ℤ) (i : ℕ) → 2 ≤ i → (i % 2 ≡ 0 → ⊥) → byte (a ∷ b ∷ words zs) i ≡ word (get_or zs ((i - 2) / 2) (pos 0)) / 256
front_high a b zs i h k = let e : 3 + 2 * ((i - 2) / 2) ≡ i = omega arith in rw e at (front_high_at a b zs ((i - 2) / 2))

-- ---- the block of them
pub few : (a b : ℕ) (zs : List ℤ) → length zs ≤ 254 → length (a ∷ b ∷ words zs) ≤ body_size
few a b zs h = omega (arith, words_length zs)

-- number j of zs stands at byte 2 + 2·j of l
abbrev pub Numbers : List ℕ → List ℤ → Type 0
Numbers l zs = (j : ℕ) → j < 254 → word (get_or zs j (pos 0)) ≡ byte l (2 + 2 * j) + 256 * byte l (3 + 2 * j)

module _ (l : List ℕ) (bytes : (i : ℕ) → Fits w8 (byte l i)) (a b : ℕ) (zs : List ℤ) (n : Numbers l zs) where
  low_is : (i : ℕ) → 2 ≤ i → i < body_size → i % 2 ≡ 0 → byte l i ≡ byte (a ∷ b ∷ words zs) i
  low_is i h k e =
      let j = (i - 2) / 2 in let f : 2 + 2 * j ≡ i = omega arith in
      let g : byte l (2 + 2 * j) ≡ word (get_or zs j (pos 0)) % 256 = omega (arith, n j (omega arith), bytes (2 + 2 * j)) in
      (rw f at g) ∙ sym (front_low a b zs i h e)

  high_is : (i : ℕ) → 2 ≤ i → i < body_size → (i % 2 ≡ 0 → ⊥) → byte l i ≡ byte (a ∷ b ∷ words zs) i
  high_is i h k e =
      let j = (i - 2) / 2 in let f : 3 + 2 * j ≡ i = omega arith in
      let g : byte l (3 + 2 * j) ≡ word (get_or zs j (pos 0)) / 256 = omega (arith, n j (omega arith), bytes (2 + 2 * j)) in
      (rw f at g) ∙ sym (front_high a b zs i h e)

  alike : byte l 0 ≡ a → byte l 1 ≡ b → Alike l (a ∷ b ∷ words zs)
  alike e f zero h = e
  alike e f (suc zero) h = f
  alike e f (suc (suc i)) h =
      ⊎_elim (λ g. low_is (suc (suc i)) (omega arith) h g) (λ g. high_is (suc (suc i)) (omega arith) h g) (halves (suc (suc i)))

  pub laid_is : length zs ≤ 254 → length l ≡ block_size → Sealed l → byte l 0 ≡ a → byte l 1 ≡ b → l ≡ block_of (a ∷ b ∷ words zs)
  laid_is h k s e f = block_is l (a ∷ b ∷ words zs) (few a b zs h) k s (alike e f)

-- the numbers of a block
pub laid_numbers : (a b : ℕ) (zs : List ℤ) → length zs ≤ 254 → Numbers (block_of (a ∷ b ∷ words zs)) zs
laid_numbers a b zs h j k =
    let e = block_at (a ∷ b ∷ words zs) (few a b zs h) (2 + 2 * j) (omega arith) ∙ front_low_at a b zs j in
    let f = block_at (a ∷ b ∷ words zs) (few a b zs h) (3 + 2 * j) (omega arith) ∙ front_high_at a b zs j in
    omega (arith, e, f)

-- ---- numbers that were read out of a part of the block
pub part_number : (l : List ℕ) (first n : ℕ) (zs : List ℤ) → NumbersOf (take n (drop (2 + 2 * first) l)) zs → (j : ℕ) → 2 * j + 1 < n → NumberAt l (first + j) (get_or zs j (pos 0))
part_number l first n zs a j h =
    let part = take n (drop (2 + 2 * first) l) in
    let at : (i : ℕ) → i < n → get_or part i 0 ≡ byte l (2 + 2 * first + i) = λ i g. get_or-take n (drop (2 + 2 * first) l) i 0 g ∙ get_or-drop (2 + 2 * first) l i 0 in
    let s = number_at part zs a j in
    let d : 2 + 2 * first + 2 * j ≡ 2 + 2 * (first + j) = omega arith in
    let e : 2 + 2 * first + suc (2 * j) ≡ 3 + 2 * (first + j) = omega arith in
    record {
      half = s.half;
      bits =
          s.bits
          ∙ ap (λ m. m + 256 * get_or part (suc (2 * j)) 0) (at (2 * j) (omega arith) ∙ ap (byte l) d)
          ∙ ap (λ m. byte l (2 + 2 * (first + j)) + 256 * m) (at (suc (2 * j)) (omega arith) ∙ ap (byte l) e);
    }

-- and as a local has it
pub part_local : (l : List ℕ) (first n : ℕ) (zs : List ℤ) → NumbersOf (take n (drop (2 + 2 * first) l)) zs →
    (j : ℕ) → 2 * j + 1 < n → NumberAt l (first + j) (to_z w32 (of_z w32 (get_or zs j (pos 0))))
part_local l first n zs a j h = let s = part_number l first n zs a j h in rw (to_z-of_z (half_fits (get_or zs j (pos 0)) s.half)) s
