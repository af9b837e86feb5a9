-- A slot put in its place, and all other slots as they were. Assumes nothing.
use mathlib.Core.Path.{◌≡◌, sym, ap, ◌∙◌}
use mathlib.Core.Logic.{◌⊎◌, inl, inr, ⊎_elim}
use mathlib.Core.List.{List, ◌++◌}
use Prim.Native.Nat.{ℕ, suc, ◌+◌, ◌*◌, ◌-◌, ◌%◌, ◌≤◌, ◌<◌}
use native.Mathlib.Nat.{mod-lt}
use native.Mathlib.Omega.{arith}
use lib.ListN.{length, take, drop, take-append-drop}
use lib.Seq.{ext_get_or, drop-drop}
use Rattle.whole.proofs.Order.{ℕ_or}
use Rattle.seal.specs.Seal.{byte, block_at}
use Rattle.seal.proofs.Blocks.{nth_length, nth_byte, nth_size}
use Rattle.seal.proofs.Replaced.{mid, mid_length, mid_part, mid_before, mid_after}
use Rattle.book.specs.Entry.{Slots, slots, put}

-- a slot is put in the middle of the book
put_mid : (b : List ℕ) (i : ℕ) (s : List ℕ) → put b i s ≡ mid (512 * i) 512 b s
unfolding put
put_mid b i s =
    let e : 512 * i + 512 ≡ 512 * suc i = omega arith in
    ap (λ (l : List ℕ). take (512 * i) b ++ (s ++ l)) (sym (drop-drop 512 (512 * i) b ∙ ap (λ n. drop n b) e))

-- as code puts it: from 512·i to 512·i + 512
pub part_put : (b : List ℕ) (i : ℕ) (s : List ℕ) → mid (512 * i) (512 * i + 512 - 512 * i) b s ≡ put b i s
part_put b i s = ap (λ n. mid (512 * i) n b s) (nth_size i) ∙ sym (put_mid b i s)

-- a slot put where it stands changes nothing
pub put_self : (b : List ℕ) (i : ℕ) → put b i (block_at b i) ≡ b
unfolding block_at
put_self b i = put_mid b i (take 512 (drop (512 * i) b)) ∙ ap (λ (l : List ℕ). take (512 * i) b ++ l) (take-append-drop 512 (drop (512 * i) b)) ∙ take-append-drop (512 * i) b

-- a number modulo the number of slots is that of a slot
pub slot_in : (b : List ℕ) → Slots b → (n : ℕ) → 512 * suc (n % slots b) ≤ length b
slot_in b s n = let w = s.whole in let l = s.above in let p : 0 < slots b = omega arith in omega (arith, mod-lt n p)

module _ (b s : List ℕ) (i : ℕ) (l : length s ≡ 512) (h : 512 * suc i ≤ length b) where
  within : 512 * i + 512 ≤ length b
  within = omega arith

  pub put_length : length (put b i s) ≡ length b
  put_length = ap length (put_mid b i s) ∙ mid_length b s (512 * i) 512 within l

  pub put_same : block_at (put b i s) i ≡ s
  unfolding block_at
  put_same = ap (λ (m : List ℕ). block_at m i) (put_mid b i s) ∙ mid_part b s (512 * i) 512 within l

  put_other : (n : ℕ) → (n < 512 * i) ⊎ (512 * suc i ≤ n) → byte (put b i s) n ≡ byte b n
  put_other n (inl g) = ap (λ (m : List ℕ). byte m n) (put_mid b i s) ∙ mid_before b s (512 * i) 512 within l n g
  put_other n (inr g) =
      let e : 512 * i + (512 + (n - 512 * suc i)) ≡ n = omega arith in
      ap (λ (m : List ℕ). byte m n) (put_mid b i s) ∙ (rw e at (mid_after b s (512 * i) 512 within l (n - 512 * suc i)))

  pub put_elsewhere : (k : ℕ) → (k ≡ i → ⊥) → 512 * suc k ≤ length b → block_at (put b i s) k ≡ block_at b k
  put_elsewhere k n g =
      let e = nth_length (put b i s) k (omega (arith, put_length)) in
      ext_get_or 0 _ _ (e ∙ sym (nth_length b k g)) (λ j q. let r : j < 512 = omega (arith, e) in nth_byte (put b i s) k j r ∙ put_other (512 * k + j) (apart j r) ∙ sym (nth_byte b k j r))
    where
      apart : (j : ℕ) → j < 512 → (512 * k + j < 512 * i) ⊎ (512 * suc i ≤ 512 * k + j)
      apart j r = ⊎_elim (λ (q : i ≤ k). ⊎_elim (λ (w : k ≤ i). absurd (n (omega arith))) (λ (w : i < k). inr (omega arith)) (ℕ_or k i)) (λ (q : k < i). inl (omega arith)) (ℕ_or i k)
