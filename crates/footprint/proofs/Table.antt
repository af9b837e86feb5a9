-- The table of boxes: one edge more, and two edges of it. Assumes nothing.
use mathlib.Core.Path.{◌≡◌, ◌∙◌}
use mathlib.Core.List.{List}
use mathlib.Core.Logic.{⊎_elim}
use Prim.Native.Nat.{ℕ, ◌+◌, ◌≤◌, ◌<◌}
use native.Mathlib.Omega.{arith}
use lib.IntN.{ℤ}
use lib.ListN.{length, get_or, set}
use lib.Seq.{get_or-set_same, get_or-set_other}
use mir.Syntax.{w16}
use mir.Val.{SFits}
use Rattle.whole.proofs.Order.{ℕ_or}
use Rattle.whole.proofs.Range.{fits}
use Rattle.rules.specs.Reach.{Reach}
use Rattle.rules.specs.Ring.{Pt, Ring, from, to}
use Rattle.footprint.specs.Shape.{boxes_apart}
use Rattle.footprint.specs.Table.{extent_of, extents_apart, AllBoxed}
use Rattle.footprint.specs.declared.extent.Extent.{Extent}
use Rattle.footprint.proofs.Steps.{reach_abs}

-- ---- numbers within reach fit 16 bits
pub reach_narrow : (z : ℤ) → Reach z → SFits w16 z
reach_narrow z h = fits w16 z (omega (arith, reach_abs z h))

-- ---- one edge more
pub boxed_more : (r : Ring) (t : List Extent) (i : ℕ) (e : Extent) (a b : Pt) → i < length t → AllBoxed r t i → e ≡ extent_of a b → a ≡ from r i → b ≡ to r i → AllBoxed r (set t i e) (i + 1)
boxed_more r t i e a b h p q u v j d l =
    ⊎_elim (λ (k : i ≤ j). let m : j ≡ i = omega arith in rw m (get_or-set_same t i e d h ∙ new)) (λ (k : j < i). get_or-set_other t i j e d (λ m. omega arith) ∙ p j d k)
    (ℕ_or i j)
  where
    new : e ≡ extent_of (from r i) (to r i)
    new = rw (← u, ← v) q

-- ---- two boxes
pub boxed_apart : (r : Ring) (t : List Extent) (i j : ℕ) (d e : Extent) → get_or t i d ≡ extent_of (from r i) (to r i) → get_or t j e ≡ extent_of (from r j) (to r j)
    → extents_apart (get_or t i d) (get_or t j e) ≡ boxes_apart (from r i) (to r i) (from r j) (to r j)
boxed_apart r t i j d e p q = rw (p, q)

-- of a table whose first n boxes are right
pub all_apart : (r : Ring) (t : List Extent) (n i j : ℕ) (d e : Extent) → AllBoxed r t n → i < n → j < n
    → extents_apart (get_or t i d) (get_or t j e) ≡ boxes_apart (from r i) (to r i) (from r j) (to r j)
all_apart r t n i j d e p h k = boxed_apart r t i j d e (p i d h) (p j e k)
