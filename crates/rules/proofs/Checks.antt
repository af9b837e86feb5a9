-- At most one refusal is the first fault, and none where every check passes. Assumes nothing.
use Rattle.std.specs.Prelude.{Option, Some, None}
use Rattle.std.specs.Bool.{then_some}
use Rattle.std.specs.Option.{option_or}
use mathlib.Core.Path.{◌≡◌, refl, sym, ap, subst, ◌∙◌}
use mathlib.Core.Bool.{Bool, true, false}
use mathlib.Core.Logic.{inl, inr, ⊎_elim}
use mathlib.Core.List.{List, [], ◌∷◌, ◌++◌}
use Prim.Native.Nat.{ℕ, zero, suc, ◌+◌, ◌-◌, ◌≤◌, ◌<◌}
use native.Mathlib.Omega.{arith}
use native.Mathlib.Nat.{add-suc, add-zero}
use Rattle.whole.specs.Decide.{Decides}
use Rattle.whole.proofs.Order.{ℕ_or}
use Rattle.rules.specs.Refusal.{Refusal, Check, Passes, Fault, demand, First, Sought, each, in_turn}

-- ---- the first of several
-- the same index, from what rules out an earlier one each way
pub only : (i j : ℕ) → (i < j → ⊥) → (j < i → ⊥) → i ≡ j
only i j f g = ⊎_elim (λ (h : i ≤ j). ⊎_elim (λ (k : j ≤ i). (omega arith)) (λ (k : i < j). absurd (f k)) (ℕ_or j i)) (λ (h : j < i). absurd (g h)) (ℕ_or i j)

pub first_one : (Bad : ℕ → Type 0) (n i j : ℕ) → First Bad n i → First Bad n j → i ≡ j
first_one Bad n i j f g = only i j (λ h. g.before i h f.bad) (λ h. f.before j h g.bad)

-- a search finds one thing
pub sought_one : (Bad : ℕ → Type 0) (n : ℕ) (r s : Option ℕ) → Sought Bad n r → Sought Bad n s → r ≡ s
sought_one Bad n None None f g = refl
sought_one Bad n None (Some j) f g = absurd (f j g.below g.bad)
sought_one Bad n (Some i) None f g = absurd (g i f.below f.bad)
sought_one Bad n (Some i) (Some j) f g = ap Some (first_one Bad n i j f g)

-- the same of what is Bad alike
pub sought_map : (Bad Evil : ℕ → Type 0) (n : ℕ) (r : Option ℕ) → ((j : ℕ) → j < n → Bad j → Evil j) → ((j : ℕ) → j < n → Evil j → Bad j) → Sought Bad n r → Sought Evil n r
sought_map Bad Evil n None f g s = λ j l e. s j l (g j l e)
sought_map Bad Evil n (Some i) f g s = record { below = s.below; bad = f i s.below s.bad; before = λ j l e. s.before j l (g j (let b = s.below in omega arith) e) }

-- number n is looked at too: what was found of those before it stays
pub sought_more : (Bad : ℕ → Type 0) (n : ℕ) (r : Option ℕ) (t : Bool) → Sought Bad n r → Decides (Bad n) t → Sought Bad (n + 1) (option_or r (then_some t n))
sought_more Bad n (Some i) t s d = record { below = let b = s.below in omega arith; bad = s.bad; before = s.before }
sought_more Bad n None true s d = record { below = omega arith; bad = d; before = s }
sought_more Bad n None false s d = λ j l b. ⊎_elim (λ (h : n ≤ j). let e : j ≡ n = omega arith in d (subst Bad e b)) (λ (h : j < n). s j h b) (ℕ_or n j)

-- the first that is Bad gives the refusal of a check of each
pub each_fails : {Bad : ℕ → Type 0} {n i : ℕ} (r : ℕ → Refusal) → First Bad n i → (each Bad n r).fails (r i)
each_fails {i = i} r f = (i, f, refl)

-- ---- one check
-- it does not pass and fail, and fails in one way
pub record Definite (c : Check) : Type 0 where
  pub never : (r : Refusal) → c.passes → c.fails r → ⊥
  pub one : (r s : Refusal) → c.fails r → c.fails s → r ≡ s

pub definite_demand : (P : Type 0) (r : Refusal) → Definite (demand P r)
definite_demand P r = record { never = λ s h f. f.0 h; one = λ s t f g. f.1 ∙ sym g.1 }

pub definite_each : (Bad : ℕ → Type 0) (n : ℕ) (r : ℕ → Refusal) → Definite (each Bad n r)
definite_each Bad n r = record {
  never = λ s h f. h f.0 f.1.below f.1.bad;
  one = λ s t f g. f.2 ∙ ap r (first_one Bad n f.0 g.0 f.1 g.1) ∙ sym g.2;
}

-- ---- all of them
abbrev pub AllDefinite : List Check → Type 0
AllDefinite [] = Unit {0}
AllDefinite (c ∷ cs) = Definite c × AllDefinite cs

pub never_both : (cs : List Check) → AllDefinite cs → (r : Refusal) → Passes cs → Fault cs r → ⊥
never_both [] a r p f = f
never_both (c ∷ cs) a r p f = ⊎_elim (λ g. a.0.never r p.0 g) (λ g. never_both cs a.1 r p.1 g.1) f

pub one_fault : (cs : List Check) → AllDefinite cs → (r s : Refusal) → Fault cs r → Fault cs s → r ≡ s
one_fault [] a r s f g = absurd f
one_fault (c ∷ cs) a r s f g =
    ⊎_elim
    (λ h. ⊎_elim (λ k. a.0.one r s h k) (λ k. absurd (a.0.never r k.0 h)) g)
    (λ h. ⊎_elim (λ k. absurd (a.0.never s h.0 k)) (λ k. one_fault cs a.1 r s h.1 k.1) g)
    f

pub definite_append : (cs ds : List Check) → AllDefinite cs → AllDefinite ds → AllDefinite (cs ++ ds)
definite_append [] ds a b = b
definite_append (c ∷ cs) ds a b = (a.0, definite_append cs ds a.1 b)

-- checks in a row: those of the second list are made where the first passes
pub passes_append : (cs ds : List Check) → Passes cs → Passes ds → Passes (cs ++ ds)
passes_append [] ds p q = q
passes_append (c ∷ cs) ds p q = (p.0, passes_append cs ds p.1 q)

pub fault_left : (cs ds : List Check) (r : Refusal) → Fault cs r → Fault (cs ++ ds) r
fault_left [] ds r f = absurd f
fault_left (c ∷ cs) ds r f = ⊎_elim (λ h. inl h) (λ h. inr (h.0, fault_left cs ds r h.1)) f

pub fault_right : (cs ds : List Check) (r : Refusal) → Passes cs → Fault ds r → Fault (cs ++ ds) r
fault_right [] ds r p f = f
fault_right (c ∷ cs) ds r p f = inr (p.0, fault_right cs ds r p.1 f)

-- a fault of the second checks, told as one of others
pub fault_then : (cs ds es : List Check) (x : Refusal) → (Fault ds x → Fault es x) → Fault (cs ++ ds) x → Fault (cs ++ es) x
fault_then [] ds es x g f = g f
fault_then (c ∷ cs) ds es x g f = ⊎_elim (λ h. inl h) (λ h. inr (h.0, fault_then cs ds es x g h.1)) f

pub passes_left : (cs ds : List Check) → Passes (cs ++ ds) → Passes cs
passes_left [] ds p = tt
passes_left (c ∷ cs) ds p = (p.0, passes_left cs ds p.1)

pub passes_right : (cs ds : List Check) → Passes (cs ++ ds) → Passes ds
passes_right [] ds p = p
passes_right (c ∷ cs) ds p = passes_right cs ds p.1

-- where the first pass, the fault is among the others
pub fault_past : (cs ds : List Check) → AllDefinite cs → (r : Refusal) → Passes cs → Fault (cs ++ ds) r → Fault ds r
fault_past [] ds a r p f = f
fault_past (c ∷ cs) ds a r p f = ⊎_elim (λ h. absurd (a.0.never r p.0 h)) (λ h. fault_past cs ds a.1 r p.1 h.1) f

-- where the others find none, the fault is among the first
pub fault_within : (cs ds : List Check) (r : Refusal) → (Passes cs → Fault ds r → ⊥) → Fault (cs ++ ds) r → Fault cs r
fault_within [] ds r n f = n tt f
fault_within (c ∷ cs) ds r n f = ⊎_elim (λ h. inl h) (λ h. inr (h.0, fault_within cs ds r (λ p g. n (h.0, p) g) h.1)) f

-- ---- lists of checks, one after the other
module _ (f : ℕ → List Check) where
  pub definite_in_turn : ((i : ℕ) → AllDefinite (f i)) → (n : ℕ) → AllDefinite (in_turn f n)
  unfolding in_turn
  definite_in_turn a zero = tt
  definite_in_turn a (suc n) = definite_append (in_turn f n) (f n) (definite_in_turn a n) (a n)

  pub in_turn_pass : (n : ℕ) → ((i : ℕ) → i < n → Passes (f i)) → Passes (in_turn f n)
  unfolding in_turn
  in_turn_pass zero h = tt
  in_turn_pass (suc n) h = passes_append (in_turn f n) (f n) (in_turn_pass n (λ i k. h i (omega arith))) (h n (omega arith))

  in_turn_more : (r : Refusal) (k d : ℕ) → Fault (in_turn f k) r → Fault (in_turn f (k + d)) r
  unfolding in_turn
  in_turn_more r k zero h = rw (add-zero k) h
  in_turn_more r k (suc d) h = rw (add-suc k d) (fault_left (in_turn f (k + d)) (f (k + d)) r (in_turn_more r k d h))

  -- the first fault is where those before pass
  pub in_turn_fault : (r : Refusal) (i n : ℕ) → i < n → Passes (in_turn f i) → Fault (f i) r → Fault (in_turn f n) r
  unfolding in_turn
  in_turn_fault r i n h p g =
      let e : suc i + (n - suc i) ≡ n = omega arith in rw e at (in_turn_more r (suc i) (n - suc i) (fault_right (in_turn f i) (f i) r p g))
