-- All pairs of edges that are not neighbours, row by row. Assumes nothing.
use mathlib.Core.Path.{◌≡◌}
use mathlib.Core.Bool.{true, false}
use mathlib.Core.Logic.{inl, inr, ⊎_elim}
use Prim.Native.Nat.{ℕ, ◌+◌, ◌≤◌, ◌<◌}
use native.Mathlib.Omega.{arith}
use Rattle.whole.proofs.Order.{ℕ_or}
use Rattle.rules.specs.Ring.{Ring, next, from, to, Neighbours}
use Rattle.rules.specs.Good.{Meet}
use Rattle.rules.proofs.Ring.{next_ways}
use Rattle.footprint.specs.Shape.{Ends, edges_share}
use Rattle.whole.proofs.Decide.{yes, no}
use Rattle.footprint.proofs.Shape.{shares_decides}

-- from i + 2 on and before the end: no neighbours
parted_pair : (n i j e : ℕ) → Ends n i e → i + 2 ≤ j → j < e → Neighbours n i j → ⊥
parted_pair n i j e d h k = ⊎_elim first second
  where
    below : j < n
    below = ⊎_elim (λ w. omega arith) (λ w. omega arith) d

    first : next n i ≡ j → ⊥
    first q = ⊎_elim (λ w. omega arith) (λ w. omega (arith, below)) (next_ways n i (omega (arith, below)))

    second : next n j ≡ i → ⊥
    second q = ⊎_elim (λ w. omega arith) (λ w. ⊎_elim (λ v. omega arith) (λ v. omega arith) d) (next_ways n j below)

-- and all others
pair_parted : (n i j e : ℕ) → Ends n i e → i < j → j < n → (Neighbours n i j → ⊥) → (i + 2 ≤ j) × (j < e)
pair_parted n i j e d h k f = (far, near)
  where
    far : i + 2 ≤ j
    far = ⊎_elim (λ (l : i + 2 ≤ j). l) (λ (l : j < i + 2). absurd (f (inl (⊎_elim (λ w. omega arith) (λ w. absurd (omega arith)) (next_ways n i (omega arith)))))) (ℕ_or (i + 2) j)

    near : j < e
    near = ⊎_elim (λ w. ⊎_elim (λ (l : e ≤ j). absurd (f (inr (⊎_elim (λ v. absurd (omega arith)) (λ v. omega arith) (next_ways n j k))))) (λ (l : j < e). l) (ℕ_or e j)) (λ w. omega arith) d

module _ (r : Ring) (i e : ℕ) (d : Ends r.size i e) where
  pub hit : (j : ℕ) → i + 2 ≤ j → j < e → edges_share r i j ≡ true → Meet r i j
  hit j h k t = record {
    order = omega arith;
    below = ⊎_elim (λ w. omega arith) (λ w. omega arith) d;
    parted = parted_pair r.size i j e d h k;
    share = yes _ _ (shares_decides (from r i) (to r i) (from r j) (to r j)) t;
  }

  pub missed : (j : ℕ) → (i + 2 ≤ j → j < e → edges_share r i j ≡ false) → Meet r i j → ⊥
  missed j f m =
      let p = pair_parted r.size i j e d m.order m.below m.parted in
      no _ _ (shares_decides (from r i) (to r i) (from r j) (to r j)) (f p.0 p.1) m.share
