-- Numbers laid out and read one by one: two bytes stored after those before them, and a number stored after those before it. Assumes nothing.
use mathlib.Core.Path.{◌≡◌, refl, sym, ap, ◌∙◌}
use mathlib.Core.Logic.{◌⊎◌, inl, inr, ⊎_elim}
use mathlib.Core.List.{List, [], ◌∷◌, ◌++◌, append_assoc}
use Prim.Native.Nat.{ℕ, suc, ◌+◌, ◌*◌, ◌/◌, ◌%◌, ◌≤◌, ◌<◌}
use native.Mathlib.Omega.{arith}
use lib.IntN.{ℤ, pos}
use lib.ListN.{length, get_or, take, drop}
use lib.Seq.{take_at, drop_at, take-suc, length-take-le, ext_get_or}
use borrow.Rule.Slice.PartMut.{put_mid}
use Rattle.std.proofs.lemmas.List.{drop-drop}
use Rattle.std.proofs.Common.{add-one}
use Rattle.whole.proofs.Order.{ℕ_or}
use Rattle.pair.specs.Pair.{word, Spelt, words, NumbersOf}
use Rattle.pair.proofs.Words.{low_at, high_at, words_length, words_append}

-- ---- writing: number j's two bytes, after those before it
pub laid_more : (zs : List ℤ) (l m ws : List ℕ) (j k : ℕ) → j < length zs → length l ≡ 2 * length zs → m ≡ words (take j zs) ++ drop (2 * j) l → k ≡ 2
    → ws ≡ word (get_or zs j (pos 0)) % 256 ∷ word (get_or zs j (pos 0)) / 256 ∷ [] → put_mid (2 * j) k m ws ≡ words (take (j + 1) zs) ++ drop (2 * (j + 1)) l
laid_more zs l m ws j k h long e two w =
    let n : length (words (take j zs)) ≡ 2 * j = omega (arith, words_length (take j zs), length-take-le j zs (omega arith)) in
    let front : take (2 * j) m ≡ words (take j zs) = rw e (take_at (words (take j zs)) (drop (2 * j) l) (2 * j) n) in
    let back : drop (2 * j) m ≡ drop (2 * j) l = rw e (drop_at (words (take j zs)) (drop (2 * j) l) (2 * j) n) in
    let more : words (take (j + 1) zs) ≡ words (take j zs) ++ ws = rw (add-one, take-suc zs j (pos 0) h, words_append, w) refl in
    let past : drop k (drop (2 * j) l) ≡ drop (2 * (j + 1)) l = drop-drop k (2 * j) l ∙ ap (λ i. drop i l) (let q : 2 * j + k ≡ 2 * (j + 1) = omega arith in q) in
    rw (front, back, past, more, append_assoc) refl

-- ---- reading
-- z is number j of the bytes
abbrev At : List ℕ → ℕ → ℤ → Type 0
At l j z = Spelt (get_or l (2 * j) 0) (get_or l (2 * j + 1) 0) z

-- the first n numbers are those of the bytes
abbrev pub Read : List ℕ → ℕ → List ℤ → Type 0
Read l n zs = (j : ℕ) → j < n → At l j (get_or zs j (pos 0))

-- all of them: every byte is that of its number
module _ (l : List ℕ) (zs : List ℤ) (long : length l ≡ 2 * length zs) (bytes : (i : ℕ) → get_or l i 0 < 256) (r : Read l (length zs) zs) where
  low_is : (j : ℕ) → j < length zs → get_or (words zs) (2 * j) 0 ≡ get_or l (2 * j) 0
  low_is j h = omega (arith, low_at zs j, (r j h).bits, bytes (2 * j))

  high_is : (j : ℕ) → j < length zs → get_or (words zs) (suc (2 * j)) 0 ≡ get_or l (suc (2 * j)) 0
  high_is j h = let e : 2 * j + 1 ≡ suc (2 * j) = omega arith in omega (arith, high_at zs j, rw e at (r j h).bits, bytes (2 * j))

  -- an even place, and an odd one
  place : (i : ℕ) → (i ≡ 2 * (i / 2)) ⊎ (i ≡ suc (2 * (i / 2)))
  place i = ⊎_elim (λ (h : i % 2 ≤ 0). inl (omega arith)) (λ (h : 0 < i % 2). inr (omega arith)) (ℕ_or (i % 2) 0)

  is : (i : ℕ) → i < length (words zs) → get_or (words zs) i 0 ≡ get_or l i 0
  is i h =
      let n = words_length zs in
      ⊎_elim (λ e. rw (sym e) at (low_is (i / 2) (omega arith))) (λ e. rw (sym e) at (high_is (i / 2) (omega arith))) (place i)

  pub all_read : NumbersOf l zs
  all_read = record { halves = λ j h. (r j h).half; same = ext_get_or 0 (words zs) l (words_length zs ∙ sym long) is }
