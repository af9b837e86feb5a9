-- Zeros in the place of a list's last bytes: what stands where, and which list that is. Assumes nothing.
use mathlib.Core.Path.{◌≡◌, sym, ap, ◌∙◌}
use mathlib.Core.Logic.{⊎_elim}
use mathlib.Core.List.{List}
use Prim.Native.Nat.{ℕ, ◌+◌, ◌-◌, ◌≤◌, ◌<◌}
use native.Mathlib.Omega.{arith}
use lib.ListN.{length, take, drop, replicate, length-append, length-take, length-replicate, get_or-eq_default}
use lib.Seq.{ext_get_or, get_or-take}
use Rattle.whole.proofs.Order.{ℕ_or}
use Rattle.seal.specs.Seal.{byte}
use Rattle.seal.specs.Scan.{cleared}
use Rattle.seal.proofs.Bytes.{repeated, padded}
use Rattle.seal.proofs.Replaced.{mid, mid_length, mid_before, mid_in, part_length}

module _ (from : ℕ) (l : List ℕ) where
  pub cleared_length : length (cleared from l) ≡ length l
  unfolding cleared
  cleared_length = omega (arith, length-append (take from l) (replicate (length l - from) 0), length-take from l, length-replicate {A = ℕ} (length l - from) 0)

  pub cleared_before : (i : ℕ) → i < from → byte (cleared from l) i ≡ byte l i
  unfolding cleared
  cleared_before i h = padded (take from l) (length l - from) i ∙ get_or-take from l i 0 h

  pub cleared_past : (i : ℕ) → from ≤ i → byte (cleared from l) i ≡ 0
  unfolding cleared
  cleared_past i h = padded (take from l) (length l - from) i ∙ get_or-eq_default (take from l) 0 {n = i} (omega (arith, length-take from l))

  pub cleared_is : (after : List ℕ) → length after ≡ length l → ((i : ℕ) → i < from → byte after i ≡ byte l i) → ((i : ℕ) → from ≤ i → i < length after → byte after i ≡ 0) → after ≡ cleared from l
  cleared_is after n stays zeros =
      ext_get_or 0 after (cleared from l) (n ∙ sym cleared_length)
      (λ i h. ⊎_elim (λ (g : from ≤ i). zeros i g h ∙ sym (cleared_past i g)) (λ (g : i < from). stays i g ∙ sym (cleared_before i g)) (ℕ_or from i))

  -- zeros in the place of all bytes from here on
  pub refilled : (ys : List ℕ) → from ≤ length l → ys ≡ replicate (length (take (length l - from) (drop from l))) 0 → mid from (length l - from) l ys ≡ cleared from l
  refilled ys h e =
      let n : length ys ≡ length l - from = ap length e ∙ length-replicate {A = ℕ} (length (take (length l - from) (drop from l))) 0 ∙ part_length l from (length l - from) (omega arith) in
      let s : from + (length l - from) ≤ length l = omega arith in
      cleared_is (mid from (length l - from) l ys) (mid_length l ys from (length l - from) s n) (mid_before l ys from (length l - from) s n)
      (λ i g k. let d : from + (i - from) ≡ i = omega arith in
      let q : i - from < length l - from = omega (arith, mid_length l ys from (length l - from) s n) in
      rw (sym d) (mid_in l ys from (length l - from) s n (i - from) q ∙ ap (λ (m : List ℕ). byte m (i - from)) e ∙ repeated 0 _ (i - from)))
