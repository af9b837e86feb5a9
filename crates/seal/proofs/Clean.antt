-- The bits of all bytes together, and when there are none; a part with zeros after it. Assumes nothing.
use mathlib.Core.Path.{◌≡◌, refl, sym, ap, ◌∙◌}
use mathlib.Core.Bool.{Bool}
use mathlib.Core.List.{List, [], ◌∷◌, ◌++◌}
use Prim.Native.Nat.{ℕ, zero, suc, ◌-◌, ◌≤◌, ◌<◌}
use native.Mathlib.Omega.{arith}
use lib.Bits.{bit_or}
use lib.Dec.{eqb}
use lib.ListN.{length, take, drop, replicate, length-append, length-replicate}
use lib.Seq.{ext_get_or, take_at}
use borrow.Author.Tests.{eqb-true, eqb-false}
use Rattle.std.specs.Prelude.{fold}
use Rattle.std.proofs.lemmas.List.{append_cancel_left, take-append-drop}
use Rattle.std.proofs.lemmas.Nat.{le_or_l, le_or_r}
use Rattle.whole.specs.Decide.{Decides}
use Rattle.whole.proofs.Decide.{yes, no, decide_by}
use Rattle.seal.specs.Seal.{byte, filled}
use Rattle.seal.proofs.Bytes.{repeated}

abbrev pub bits_of : ℕ → List ℕ → ℕ
bits_of a l = fold (λ a b. bit_or a b) a l

more : (l : List ℕ) (a : ℕ) → a ≤ bits_of a l
more [] a = omega arith
more (x ∷ l) a = let h = le_or_l a x in let g = more l (bit_or a x) in omega arith

within : (l : List ℕ) (a i : ℕ) → byte l i ≤ bits_of a l
within [] a i = omega arith
within (x ∷ l) a zero = let h = le_or_r a x in let g = more l (bit_or a x) in omega arith
within (x ∷ l) a (suc i) = within l (bit_or a x) i

none : (n : ℕ) → bits_of 0 (replicate n 0) ≡ 0
none zero = refl
none (suc n) = none n

zeros_by : (l : List ℕ) → ((i : ℕ) → i < length l → byte l i ≡ 0) → l ≡ replicate (length l) 0
zeros_by l h = ext_get_or 0 l (replicate (length l) 0) (sym (length-replicate {A = ℕ} (length l) 0)) (λ i k. h i k ∙ sym (repeated 0 (length l) i))

pub clean_by : (l : List ℕ) → Decides (l ≡ replicate (length l) 0) (eqb (bits_of 0 l) 0)
clean_by l =
    decide_by _ (eqb (bits_of 0 l) 0) (λ e. zeros_by l (λ i k. let z = eqb-true (bits_of 0 l) 0 e in let w = within l 0 i in omega arith))
    (λ e z. eqb-false (bits_of 0 l) 0 e (rw z (none (length l))))

-- ---- a part and zeros after it
module _ (l part : List ℕ) where
  abbrev front : List ℕ
  front = take (length part) l

  abbrev rest : List ℕ
  rest = drop (length part) l

  pub padded_not : (front ≡ part → ⊥) → l ≡ filled (length l) part → ⊥
  unfolding filled
  padded_not f e = f (ap (take (length part)) e ∙ take_at part (replicate (length l - length part) 0) (length part) refl)

  pub padded_by : (t : Bool) → front ≡ part → Decides (rest ≡ replicate (length rest) 0) t → Decides (l ≡ filled (length l) part) t
  unfolding filled
  padded_by t f d =
      let e : l ≡ part ++ rest = sym (take-append-drop (length part) l) ∙ ap (λ (m : List ℕ). m ++ rest) f in
      let n : length l - length part ≡ length rest = omega (arith, ap length e, length-append part rest) in
      decide_by _ t (λ y. e ∙ ap (λ (r : List ℕ). part ++ r) (yes _ t d y ∙ ap (λ m. replicate m 0) (sym n)))
      (λ y g. no _ t d y (append_cancel_left part rest (replicate (length rest) 0) (sym e ∙ g ∙ ap (λ m. part ++ replicate m 0) n)))
