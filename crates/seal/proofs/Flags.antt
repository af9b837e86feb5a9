-- A loop that keeps a flag: 0 as long as P holds of all that was passed. Assumes nothing.
use mathlib.Core.Path.{◌≡◌, refl, sym, subst, ◌∙◌}
use mathlib.Core.Logic.{⊎_elim}
use mathlib.Core.List.{List}
use Prim.Native.Nat.{ℕ, ◌+◌, ◌≤◌, ◌<◌}
use native.Mathlib.Omega.{arith}
use lib.Dec.{eqb}
use borrow.Author.Tests.{eqb-true, eqb-false}
use Rattle.whole.proofs.Order.{ℕ_or}
use Rattle.whole.specs.Decide.{Decides}
use Rattle.whole.proofs.Decide.{decide_by}
use Rattle.seal.specs.Seal.{byte}

-- P holds from here up to there
abbrev pub Run : (ℕ → Type 0) → ℕ → ℕ → Type 0
Run P from to = (k : ℕ) → from ≤ k → k < to → P k

pub record Flagged (P : ℕ → Type 0) (from to i flag : ℕ) : Type 0 where
  pub above : from ≤ i
  pub below : i ≤ to
  pub clear : flag ≡ 0 → Run P from i
  pub set : (flag ≡ 0 → ⊥) → Run P from to → ⊥

pub flag_start : (P : ℕ → Type 0) (from to : ℕ) → from ≤ to → Flagged P from to from 0
flag_start P from to h = record { above = omega arith; below = h; clear = λ e k g l. absurd (omega arith); set = λ f r. f refl }

module _ (P : ℕ → Type 0) (from to i flag next : ℕ) (f : Flagged P from to i flag) (h : i < to) where
  pub flag_bad : (P i → ⊥) → next ≡ 1 → Flagged P from to (i + 1) next
  flag_bad n e = let a = f.above in record { above = omega arith; below = omega arith; clear = λ z. absurd (omega arith); set = λ g r. n (r i a h) }

  pub flag_good : P i → next ≡ flag → Flagged P from to (i + 1) next
  flag_good p e =
      let a = f.above in
      record {
        above = omega arith;
        below = omega arith;
        clear = λ z k g l. ⊎_elim (λ (q : i ≤ k). let d : i ≡ k = omega arith in subst P d p) (λ (q : k < i). f.clear (sym e ∙ z) k g q) (ℕ_or i k);
        set = λ z. f.set (λ w. z (e ∙ w));
      }

pub flag_end : (P : ℕ → Type 0) (from to i flag : ℕ) → Flagged P from to i flag → to ≤ i → Decides (Run P from to) (eqb flag 0)
flag_end P from to i flag f h =
    decide_by _ (eqb flag 0) (λ e. let b = f.below in let d : i ≡ to = omega arith in subst (Run P from) d (f.clear (eqb-true flag 0 e))) (λ e. f.set (eqb-false flag 0 e))

-- ---- what the two loops ask of each byte
abbrev pub Zero : List ℕ → ℕ → Type 0
Zero l i = byte l i ≡ 0

abbrev pub Same : List ℕ → List ℕ → ℕ → Type 0
Same a b i = byte a i ≡ byte b i
