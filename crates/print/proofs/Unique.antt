-- A text is put in one way: the place answered and the buffer are fixed. Assumes nothing.
use mathlib.Core.Path.{◌≡◌, sym, ◌∙◌}
use mathlib.Core.Logic.{⊎_elim}
use mathlib.Core.List.{List}
use Prim.Native.Nat.{ℕ, ◌+◌, ◌-◌, ◌≤◌, ◌<◌}
use native.Mathlib.Omega.{arith}
use lib.ListN.{length, get_or}
use lib.Seq.{ext_get_or}
use Rattle.whole.proofs.Order.{ℕ_or}
use Rattle.print.specs.Put.{Puts}

module _ (l : List ℕ) (at : ℕ) (text a b : List ℕ) (m n : ℕ) (p : Puts l at text a m) (q : Puts l at text b n) where
  pub one_place : m ≡ n
  one_place = p.end ∙ sym q.end

  same_text : (k : ℕ) → at ≤ k → k < m → k < length l → get_or a k 0 ≡ get_or b k 0
  same_text k h g r =
      let i = k - at in let e = one_place in let f : at + i ≡ k = omega arith in
      rw f at (p.within i (omega arith) (omega arith) ∙ sym (q.within i (omega arith) (omega arith)))

  same : (k : ℕ) → k < length a → get_or a k 0 ≡ get_or b k 0
  same k h =
      let e = one_place in
      ⊎_elim
      (λ (r : m ≤ k). p.upper k r ∙ sym (q.upper k (omega arith)))
      (λ (r : k < m).
      ⊎_elim
      (λ (s : at ≤ k). same_text k s r (omega (arith, p.size)))
      (λ (s : k < at). p.lower k s ∙ sym (q.lower k s))
      (ℕ_or at k))
      (ℕ_or m k)

  pub one_buffer : a ≡ b
  one_buffer = ext_get_or 0 a b (p.size ∙ sym q.size) same
