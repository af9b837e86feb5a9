-- Corners by their parts: whole numbers as far as 32 bits hold them, and the vertex that one names. Assumes nothing.
use mathlib.Core.Path.{◌≡◌, refl, sym, subst, ap₂}
use mathlib.Core.Bool.{Bool, true, false, cond, not, ◌&&◌, ◌||◌}
use mathlib.Core.List.{List, [], ◌∷◌}
use Prim.Native.Nat.{ℕ, zero, suc, ◌-◌, ◌≤◌, ◌<◌}
use native.Mathlib.Omega.{arith}
use borrow.Author.Tests.{eqb-true, ltb-true, lt-ltb, le-ltb, ne_eqb}
use lib.Dec.{ltb, eqb, lit<}
use lib.IntN.{ℤ, pos, negsuc}
use Rattle.whole.proofs.Flag.{and_yes, by_flag}
use Rattle.grid.specs.Number.{signed}
use Rattle.line.specs.Text.{parts, slash}
use Rattle.line.specs.Number.{all_digits, empty, digits, number, minus, past, is_whole, whole, is_after, is_corner, index}
use Rattle.line.specs.Line.{names}
use Rattle.line.specs.declared.Unnamed.{Unnamed}
use Rattle.line.specs.declared.Unnamed.TheVariants.{NoVertex, NoCorner}
use Rattle.line.specs.Calls.{named, corner_or}
use Rattle.line.specs.Steps.{saturated, whole_or}
use Rattle.line.proofs.Parts.{alone}
use Rattle.line.proofs.Digits.{digits_unparted}
use Rattle.std.specs.Option.{is_some}
use Rattle.std.proofs.Common.{Some, None, Result, Ok, Err}

-- ---- the vertex that a number names, of k
module _ (k : ℕ) where
  -- none: 0, and a number past the vertices
  pub names_none : (s : Bool) (m : ℕ) → (0 < m → k < m) → names k (signed s m) ≡ k
  unfolding names
  names_none true zero h = refl
  names_none false zero h = refl
  names_none true (suc i) h = rw (le-ltb i k (omega (arith, h (omega arith))))
  names_none false (suc i) h = rw (le-ltb i k (omega (arith, h (omega arith))))

  -- one: counted back from the last, or from the first
  pub names_one : (s : Bool) (m : ℕ) → 0 < m → m ≤ k → names k (signed s m) ≡ cond s (k - m) (m - 1)
  unfolding names
  names_one s zero h g = absurd (omega arith)
  names_one true (suc i) h g = rw (lt-ltb i k (omega arith))
  names_one false (suc i) h g = rw (lt-ltb i k (omega arith)) (omega arith)

  pub names_most : (z : ℤ) → names k z ≤ k
  unfolding names
  names_most (pos zero) = omega arith
  names_most (pos (suc i)) = by_flag (λ v. v ≤ k) (ltb i k) i k (λ e. omega (arith, ltb-true i k e)) (λ e. omega arith)
  names_most (negsuc i) = by_flag (λ v. v ≤ k) (ltb i k) (k - suc i) k (λ e. omega arith) (λ e. omega arith)

  -- and so what is told of it
  pub named_none : (s : Bool) (m : ℕ) → (0 < m → k < m) → named k (signed s m) ≡ Err NoVertex
  named_none s m h = rw (names_none s m h, le-ltb k k (omega arith))

  pub named_one : (s : Bool) (m : ℕ) → 0 < m → m ≤ k → named k (signed s m) ≡ Ok (cond s (k - m) (m - 1))
  named_one s m h g = rw (names_one s m h g, lt-ltb (cond s (k - m) (m - 1)) k (by s))
    where
      by : (t : Bool) → cond t (k - m) (m - 1) < k
      by true = omega arith
      by false = omega arith

-- ---- a whole number
pub whole_told : (w : List ℕ) → is_some (whole_or w) ≡ is_whole w
whole_told w = by (is_whole w)
  where
    by : (t : Bool) → is_some (cond t (Some (saturated (number (past (minus w) w)))) None) ≡ t
    by true = refl
    by false = refl

-- it has no slash
whole_unparted : (w : List ℕ) → is_whole w ≡ true → parts slash w ≡ w ∷ []
unfolding parts
whole_unparted [] e = refl
whole_unparted (b ∷ l) e = by (eqb b 45) refl e
  where
    by : (t : Bool) → eqb b 45 ≡ t → digits (past t (b ∷ l)) ≡ true → parts slash (b ∷ l) ≡ (b ∷ l) ∷ []
    by true f g = rw (ne_eqb b 47 (omega (arith, eqb-true b 45 f)), digits_unparted 47 (lit< tt) l (and_yes (not (empty l)) (all_digits l) g).1)
    by false f g = digits_unparted 47 (lit< tt) (b ∷ l) g

-- after an index: one part, or two if the second is whole
pub after_is : (t r : List ℕ) → is_after (t ∷ parts slash r) ≡ ((empty t || is_whole t) && is_whole r)
after_is t r = alone slash (λ ps. is_after (t ∷ ps)) (λ q s ps. refl) r (λ e. whole_unparted r (and_yes (empty t || is_whole t) (is_whole r) e).1)

-- ---- a corner: its index, whether that is whole, and whether what stands after it is right
pub cornered : (k : ℕ) (w n : List ℕ) (l : List (List ℕ)) (s t : Bool) → parts slash w ≡ n ∷ l → is_whole n ≡ s → is_after l ≡ t
    → corner_or k w ≡ cond (s && t) (named k (whole n)) (Err NoCorner)
unfolding is_corner index
cornered k w n l s t e f g = rw e (ap₂ (λ (x y : Bool). cond (x && y) (named k (whole n)) (Err NoCorner)) f g)

-- what a word is as a corner, by the vertex that it names or why it names none
module _ (k : ℕ) (w : List ℕ) where
  abbrev pub CornerIs : Result ℕ Unnamed → Type 0
  CornerIs (Ok v) = (is_corner w ≡ true) × (v ≡ names k (index w)) × (ltb (names k (index w)) k ≡ true)
  CornerIs (Err NoVertex) = (is_corner w ≡ true) × (ltb (names k (index w)) k ≡ false)
  CornerIs (Err NoCorner) = is_corner w ≡ false

  pub corner_is : (r : Result ℕ Unnamed) → r ≡ corner_or k w → CornerIs r
  corner_is r e = subst CornerIs (sym e) (by (is_corner w) (ltb (names k (index w)) k) refl refl)
    where
      by : (s t : Bool) → is_corner w ≡ s → ltb (names k (index w)) k ≡ t → CornerIs (cond s (cond t (Ok (names k (index w))) (Err NoVertex)) (Err NoCorner))
      by true true f g = (f, refl, g)
      by true false f g = (f, g)
      by false t f g = f
