-- Texts put one after the other are one text. Assumes nothing.
use mathlib.Core.Path.{◌≡◌, refl, sym, ◌∙◌}
use mathlib.Core.Logic.{⊎_elim}
use mathlib.Core.List.{List, [], ◌∷◌, ◌++◌}
use Prim.Native.Nat.{ℕ, ◌+◌, ◌-◌, ◌≤◌, ◌<◌, min}
use native.Mathlib.Omega.{arith}
use lib.ListN.{length, set, get_or, length-append, length-set, get_or-append}
use lib.Seq.{get_or-set_same, get_or-set_other, get_or-append-add}
use Rattle.whole.proofs.Order.{ℕ_or}
use Rattle.print.specs.Put.{LAST, Puts}

pub none : (l : List ℕ) (at : ℕ) → at ≤ LAST → Puts l at [] l at
none l at h = record {
  end = omega arith;
  size = refl;
  within = λ k g q. absurd (omega arith);
  lower = λ k g. refl;
  upper = λ k g. refl;
}

-- ---- one byte, in the buffer or past it
module _ (l : List ℕ) (at x : ℕ) where
  pub byte : at < length l → at < LAST → Puts l at (x ∷ []) (set l at x) (at + 1)
  byte h g = record {
    end = omega arith;
    size = length-set l at x;
    within = λ k q r. let e : k ≡ 0 = omega arith in let f : at + 0 ≡ at = omega arith in rw (e, f) (get_or-set_same l at x 0 h);
    lower = λ k q. get_or-set_other l at k x 0 (λ r. omega arith);
    upper = λ k q. get_or-set_other l at k x 0 (λ r. omega arith);
  }

  pub no_byte : (next : ℕ) → length l ≤ at → next ≡ min (at + 1) LAST → Puts l at (x ∷ []) l next
  no_byte next h e = record {
    end = e;
    size = refl;
    within = λ k q r. absurd (omega arith);
    lower = λ k q. refl;
    upper = λ k q. refl;
  }

-- ---- a text, and another after it
module _ {a b c v w : List ℕ} {i j n : ℕ} (p : Puts a i v b j) (q : Puts b j w c n) where
  last : n ≡ min (i + length (v ++ w)) LAST
  last = omega (arith, p.end, q.end, length-append v w)

  from_first : (k : ℕ) → i + k < j → i + k < length a → get_or c (i + k) 0 ≡ get_or (v ++ w) k 0
  from_first k h g = q.lower (i + k) h ∙ (p.within k h g ∙ sym (get_or-append v w 0 k (omega (arith, p.end))))

  from_second : (k : ℕ) → j ≤ i + k → i + k < n → i + k < length a → get_or c (i + k) 0 ≡ get_or (v ++ w) k 0
  from_second k h g r =
      let m = k - length v in
      let e : i + length v ≡ j = omega (arith, p.end, q.end) in
      let f : i + k ≡ j + m = omega arith in
      let u : length v + m ≡ k = omega arith in
      rw f (q.within m (omega arith) (omega (arith, p.size))) ∙ rw u at (sym (get_or-append-add v w m 0))

  below : (k : ℕ) → k < i → get_or c k 0 ≡ get_or a k 0
  below k h =
      ⊎_elim
      (λ (r : j ≤ k). q.upper k (omega (arith, p.end, q.end)) ∙ p.lower k h)
      (λ (r : k < j). q.lower k r ∙ p.lower k h)
      (ℕ_or j k)

  pub then : Puts a i (v ++ w) c n
  then = record {
    end = last;
    size = q.size ∙ p.size;
    within = λ k h g. ⊎_elim (λ (r : j ≤ i + k). from_second k r h g) (λ (r : i + k < j). from_first k r g) (ℕ_or j (i + k));
    lower = below;
    upper = λ k h. q.upper k h ∙ p.upper k (omega (arith, p.end, q.end));
  }
