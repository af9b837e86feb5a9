-- A new front, laid one element after the other. Assumes nothing.
use mathlib.Core.Path.{◌≡◌, refl, sym, ◌∙◌}
use mathlib.Core.Logic.{⊎_elim}
use mathlib.Core.List.{List}
use Prim.Native.Nat.{ℕ, ◌+◌, ◌-◌, ◌≤◌, ◌<◌}
use native.Mathlib.Omega.{arith}
use lib.ListN.{length, get_or, set, drop, length-set, length-append, length-drop, get_or-append}
use lib.Seq.{ext_get_or, get_or-set_same, get_or-set_other, get_or-drop, get_or-append-add}
use borrow.Author.Count.{below_none, below_more}
use Rattle.whole.specs.Front.{Stays, Front, fronted}
use Rattle.whole.proofs.Order.{ℕ_or}

-- one more element is stored: those up to it are right
pub stored : {A : Type 0} (z : A) (l m : List A) (i : ℕ) (a : A) → i < length l → ((k : ℕ) → k < i → get_or l k z ≡ get_or m k z) →
    a ≡ get_or m i z → (k : ℕ) → k < i + 1 → get_or (set l i a) k z ≡ get_or m k z
stored z l m i a h before e = below_more (λ k. get_or (set l i a) k z ≡ get_or m k z) i (λ k g. get_or-set_other l i k a z (λ q. omega arith) ∙ before k g) (get_or-set_same l i a z h ∙ e)

-- one list stays so, where its first elements are known
pub stays_one : {A : Type 0} (z : A) (n : ℕ) (before a b : List A) → Stays z n before a → Stays z n before b → ((i : ℕ) → i < n → get_or a i z ≡ get_or b i z) → a ≡ b
stays_one z n before a b f g first = ext_get_or z a b (f.size ∙ sym g.size) λ i h. ⊎_elim (λ (q : n ≤ i). f.rest i q ∙ sym (g.rest i q)) (λ (q : i < n). first i q) (ℕ_or n i)

module _ {A : Type 0} (z : A) (front before : List A) where
  pub front_none : Front z front 0 before before
  front_none = record { first = below_none _; stays = record { size = refl; rest = λ i h. refl } }

  pub front_more : (l : List A) (j : ℕ) (a : A) → a ≡ get_or front j z → j < length l → Front z front j before l → Front z front (j + 1) before (set l j a)
  front_more l j a e h f = record {
    first = stored z l front j a h f.first e;
    stays = record { size = length-set l j a ∙ f.stays.size; rest = λ i k. get_or-set_other l j i a z (λ q. omega arith) ∙ f.stays.rest i (omega arith) };
  }

  -- the whole of another list
  module _ (h : length front ≤ length before) where
    pub front_made : Front z front (length front) before (fronted front before)
    front_made = record {
      first = λ i k. get_or-append front (drop (length front) before) z i k;
      stays = record {
        size = omega (arith, length-append front (drop (length front) before), length-drop (length front) before);
        rest = λ i k. let e : length front + (i - length front) ≡ i = omega arith in
            rw e at (get_or-append-add front (drop (length front) before) (i - length front) z ∙ get_or-drop (length front) before (i - length front) z);
      };
    }

    pub front_is : (after : List A) → Front z front (length front) before after → after ≡ fronted front before
    front_is after f = stays_one z (length front) before after (fronted front before) f.stays front_made.stays λ i k. f.first i k ∙ sym (front_made.first i k)
