-- One pass over the edges: the computed place. Assumes nothing.
use mathlib.Core.Path.{◌≡◌, refl, ap, subst}
use mathlib.Core.Bool.{Bool, true, false, not, beq, ◌&&◌}
use mathlib.Core.Logic.{⊎_elim}
use Prim.Native.Nat.{ℕ, zero, suc, ◌+◌, ◌≤◌, ◌<◌}
use native.Mathlib.Omega.{arith}
use native.Mathlib.Numerals.{add-one}
use lib.IntN.{ℤ, pos, negsuc}
use mir.Syntax.{w64}
use mir.Val.{SFits, of_z}
use borrow.Author.Tests.{ne_eqb, lt-leb, le-leb}
use Rattle.std.proofs.Common.{nat_eq}
use Rattle.whole.proofs.Order.{ℕ_or}
use Rattle.whole.proofs.Flag.{or_right}
use Rattle.rules.specs.Ring.{Pt, Ring, from, to}
use Rattle.rules.specs.Place.{on, inside, outside}
use Rattle.decide.specs.Crossing.{xor, flag, parity}
use Rattle.decide.proofs.Share.{times_one}
use Rattle.decide.specs.Touch.{ranged, is_on, on_some, place, over}

-- the line is asked in the box alone
pub on_boxed : (box line : Bool) → (box && line) ≡ (line && box)
on_boxed true true = refl
on_boxed true false = refl
on_boxed false true = refl
on_boxed false false = refl

-- on the line, as the code has it
pub on_line : (z : ℤ) → SFits w64 z → nat_eq (of_z w64 z) 0 ≡ ranged (pos 0) z (pos 0)
on_line (pos zero) f = refl
on_line (pos (suc n)) f = rw (ne_eqb (suc n) 0 (λ e. omega arith), lt-leb (suc n) 0 (omega arith), le-leb 0 (suc n) (omega arith))
on_line (negsuc n) f = let l = f.sfits in ne_eqb _ 0 (λ e. omega arith)

-- as the code has it
pub differ : (s t : Bool) → not (beq s t) ≡ xor s t
differ true true = refl
differ true false = refl
differ false true = refl
differ false false = refl

module _ (r : Ring) (p : Pt) where
  -- n edges, i of them passed: the point is on none, and this is the parity
  pub record Scan (n i : ℕ) (odd : Bool) : Type 0 where
    pub upto : i ≤ n
    pub off : on_some r p i ≡ false
    pub count : odd ≡ parity (flag r p) i

  pub scan_none : (n : ℕ) → Scan n 0 false
  unfolding on_some parity
  scan_none n = record { upto = omega arith; off = refl; count = refl }

  pub scan_step : (n i : ℕ) (odd : Bool) → i < n → Scan n i odd → is_on p (from r i) (to r i) ≡ false → Scan n (i + 1) (xor odd (flag r p i))
  unfolding on_some parity
  scan_step n i odd h s e = record {
    upto = omega arith;
    off = rw (add-one i, s.off) e;
    count = rw (add-one i) (ap (λ (t : Bool). xor t (flag r p i)) s.count);
  }

  -- every edge passed
  pub scan_done : (n i : ℕ) (odd : Bool) → n ≤ i → Scan n i odd → Scan n n odd
  scan_done n i odd h s = let l = s.upto in let e : i ≡ n = omega arith in subst (λ (k : ℕ). Scan n k odd) e s

  -- on an edge is on the ring
  some_later : (m n : ℕ) → m ≤ n → on_some r p m ≡ true → on_some r p n ≡ true
  unfolding on_some
  some_later m zero h e = let q : m ≡ 0 = omega arith in subst (λ (k : ℕ). on_some r p k ≡ true) q e
  some_later m (suc n) h e = ⊎_elim (λ (l : suc n ≤ m). let q : m ≡ suc n = omega arith in subst (λ (k : ℕ). on_some r p k ≡ true) q e)
      (λ (l : m < suc n). rw (some_later m n (omega arith) e)) (ℕ_or (suc n) m)

  pub on_place : (i : ℕ) → i < r.size → is_on p (from r i) (to r i) ≡ true → on ≡ place r p
  unfolding on_some place
  on_place i h e = rw (some_later (suc i) r.size h (or_right (on_some r p i) (is_on p (from r i) (to r i)) e))

  pub in_place : Scan r.size r.size true → inside ≡ place r p
  unfolding place
  in_place s = rw (s.off, ← s.count)

  pub out_place : Scan r.size r.size false → outside ≡ place r p
  unfolding place
  out_place s = rw (s.off, ← s.count)

-- over 1 the corners are themselves
pub over_one : (r : Ring) → over (pos 1) r ≡ r
over_one r = λ j. record { size = r.size; at = λ i. times_one (r.at i) j }
