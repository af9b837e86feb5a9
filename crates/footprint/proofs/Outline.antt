-- One pass over the corners: what was found of those passed, their reach, twice the area. Assumes nothing.
use Rattle.std.specs.Prelude.{Option}
use Rattle.std.specs.Bool.{then_some}
use Rattle.std.specs.Option.{option_or}
use mathlib.Core.Path.{◌≡◌, sym, ap, subst, ◌∙◌}
use mathlib.Core.Bool.{Bool, true, false}
use mathlib.Core.Logic.{⊎_elim}
use mathlib.Core.List.{List, [], ◌∷◌}
use Prim.Native.Nat.{ℕ, suc, ◌+◌, ◌*◌, ◌-◌, ◌≤◌, ◌<◌}
use native.Mathlib.Omega.{arith}
use native.Mathlib.Numerals.{add-one}
use lib.IntN.{ℤ, pos, nat_abs, ◌+ℤ◌, ◌-ℤ◌, ◌*ℤ◌}
use lib.ListN.{length, get_or}
use Rattle.whole.proofs.Order.{ℕ_or}
use Rattle.whole.proofs.Polynomial.{vars4, poly}
use mir.Syntax.{w64}
use mir.Val.{SFits}
use Rattle.whole.proofs.Range.{fits, at_most, abs_add}
use Rattle.whole.specs.Decide.{Decides}
use Rattle.whole.proofs.Decide.{yes, truth}
use Rattle.rules.specs.Reach.{Reach}
use Rattle.rules.specs.Ring.{Pt, Ring, ring, next, from, to}
use Rattle.rules.specs.Refusal.{Sought}
use Rattle.rules.specs.Good.{Same, area}
use Rattle.rules.proofs.Checks.{sought_more, sought_map}
use Rattle.rules.proofs.Reach.{between_stable}
use Rattle.rules.proofs.Ring.{next_ways, next_inner}
use Rattle.footprint.specs.Point.{pt}
use Rattle.footprint.specs.Shape.{HoldsRing, Corner, Stray, Reached, around, back, Bend, Draws, bends, wedge}
use Rattle.footprint.specs.declared.point.Point.{Point}
use Rattle.footprint.proofs.Steps.{reach_abs}
use Rattle.footprint.proofs.Shape.{bends_decides}
use Rattle.footprint.proofs.Back.{around_next, back_last, back_inner}

-- ---- reach
pub size_of : {l : List ℤ} {n : ℕ} → HoldsRing l n → n ≡ (ring l).size
size_of h = let e = h.whole in omega arith

-- an edge's far end, as the code has it
pub to_next : {l : List ℤ} {n : ℕ} → HoldsRing l n → (i k : ℕ) → k ≡ around n (i + 1) → k ≡ next (ring l).size i
to_next {n = n} h i k e = e ∙ (around_next n i ∙ ap (λ (m : ℕ). next m i) (size_of h))

pub corner_at : (l : List ℤ) (n m i : ℕ) → HoldsRing l n → Reached l m → 2 * i + 1 < m → i < n → Corner l i
corner_at l n m i h r k b = let e = h.whole in record { below = omega arith; x = r (2 * i) (omega arith) (omega arith); y = r (2 * i + 1) k (omega arith) }

-- where no number is out of reach, each corner is within it
pub corners_within : {l : List ℤ} {n : ℕ} → HoldsRing l n → ((j : ℕ) → j < length l → Stray l j → ⊥) → (j : ℕ) → j < n → Corner l j
corners_within {l = l} {n = n} h r j b = corner_at l n (2 * n) j h (λ k a c. between_stable _ _ _ (r k c)) (omega arith) b

-- a corner that was read is within reach
pub corner_read : {l : List ℤ} {n k : ℕ} → HoldsRing l n → k < n → (p : Point) → pt p ≡ (ring l).at k → Corner l k
corner_read h b p e = record { below = let w = h.whole in omega arith; x = subst (λ q. Reach q.x) e p.x_within; y = subst (λ q. Reach q.y) e p.y_within }

reached_more : (l : List ℤ) (n i : ℕ) → HoldsRing l n → i < n → Reached l (2 * i + 2) → Corner l (next n i) → Reached l (2 * (i + 1) + 2)
reached_more l n i h b r c j a k =
    ⊎_elim (λ (m : 2 * i + 2 ≤ j). ⊎_elim (λ w. new w.0 (rw w.1 at c)) (λ w. absurd (let e = h.whole in omega arith)) (next_ways n i b)) (λ (m : j < 2 * i + 2). r j m k)
    (ℕ_or (2 * i + 2) j)
  where
    new : suc i < n → Corner l (suc i) → Reach (get_or l j (pos 0))
    new w d =
        ⊎_elim (λ (m : 2 * suc i + 1 ≤ j). let e : 2 * suc i + 1 ≡ j = omega arith in rw e at d.y) (λ (m : j < 2 * suc i + 1). first d m) (ℕ_or (2 * suc i + 1) j)
      where
        first : Corner l (suc i) → j < 2 * suc i + 1 → Reach (get_or l j (pos 0))
        first d m = ⊎_elim (λ (q : 2 * suc i ≤ j). let e : 2 * suc i ≡ j = omega arith in rw e at d.x) (λ (q : j < 2 * suc i). r j (omega arith) k) (ℕ_or (2 * suc i) j)

pub reached_next : (l : List ℤ) (n i : ℕ) → i < n → Reached l (2 * i + 2) → Reached l (2 * next n i)
reached_next l n i b r j a = r j (⊎_elim (λ w. omega arith) (λ w. omega arith) (next_ways n i b))

-- ---- twice the area
wedge_small : (x y u v : ℤ) → nat_abs x ≤ 16384 → nat_abs y ≤ 16384 → nat_abs u ≤ 16384 → nat_abs v ≤ 16384 → nat_abs (x *ℤ v -ℤ y *ℤ u) ≤ 536870912
wedge_small = vars4 _ λ ρ h i j k. simp poly (at_most ρ (16384 ∷ 16384 ∷ 16384 ∷ 16384 ∷ []) _ (h, (i, (j, (k, tt)))) 536870912 tt)

corners_small : {l : List ℤ} {i k : ℕ} → Corner l i → Corner l k → nat_abs (wedge ((ring l).at i) ((ring l).at k)) ≤ 536870912
corners_small {l = l} {i = i} {k = k} a b =
    let p = (ring l).at i in
    let q = (ring l).at k in
    wedge_small p.x p.y q.x q.y (reach_abs p.x a.x) (reach_abs p.y a.y) (reach_abs q.x b.x) (reach_abs q.y b.y)

-- ---- the pass, i of n edges done
-- what the edges at corner i say of a fold, but for corner 0
abbrev pub Later : Ring → ℕ → Type 0
Later r j = (0 < j) × Bend r j

pub record Passed (l : List ℤ) (n i : ℕ) (e f : Option ℕ) (twice : ℤ) : Type 0 where
  pub upto : i ≤ n
  pub reach : Reached l (2 * i + 2)
  pub same : Sought (Same (ring l)) i e
  pub fold : Sought (Later (ring l)) i f
  pub area : twice ≡ area (ring l) i
  pub small : nat_abs twice ≤ 536870912 * i

-- the flag of a bend at a corner after the first
later_by : (r : Ring) (i : ℕ) (t : Bool) → i < r.size → Decides ((0 < i) × (bends (r.at (i - 1)) (r.at i) (to r i) ≡ true)) t → Decides (Later r i) t
later_by r i true h d =
    (d.0, rw (back_inner r.size i d.0) (yes _ _ (bends_decides (r.at (i - 1)) (r.at i) (to r i)) d.1))
later_by r i false h d = λ p. d (p.0, truth _ _ (bends_decides (r.at (i - 1)) (r.at i) (to r i)) (rw (back_inner r.size i p.0) at p.1))

-- edge i's part in the area
abbrev pub part : Ring → ℕ → ℤ
part r i = wedge (from r i) (to r i)

module _ (l : List ℤ) (n i : ℕ) (e f : Option ℕ) (twice : ℤ) (h : HoldsRing l n) (p : Passed l n i e f twice) (b : i < n) where
  pub corner_here : Corner l i
  corner_here = corner_at l n (2 * i + 2) i h p.reach (omega arith) b

  pub corner_before : Corner l (i - 1)
  corner_before = corner_at l n (2 * i + 2) (i - 1) h p.reach (omega arith) (omega arith)

  -- one edge more
  module _ (c : Corner l (next n i)) where
    corner_next : Corner l (next (ring l).size i)
    corner_next = subst (λ (m : ℕ). Corner l (next m i)) (size_of h) c

    pub sum_small : nat_abs (twice +ℤ part (ring l) i) ≤ 536870912 * (i + 1)
    sum_small =
        omega (arith, abs_add twice (part (ring l) i), p.small, corners_small corner_here corner_next)

    pub sum_fits : SFits w64 (twice +ℤ part (ring l) i)
    sum_fits = fits w64 _ (let m = h.corners.most in omega (arith, sum_small))

    pub passed_step : (s t : Bool) → Decides (Same (ring l) i) s → Decides ((0 < i) × (bends ((ring l).at (i - 1)) ((ring l).at i) (to (ring l) i) ≡ true)) t
        → Passed l n (i + 1) (option_or e (then_some s i)) (option_or f (then_some t i)) (twice +ℤ part (ring l) i)
    passed_step s t q d = record {
      upto = omega arith;
      reach = reached_more l n i h b p.reach c;
      same = sought_more _ i e s p.same q;
      fold = sought_more _ i f t p.fold (later_by (ring l) i t (rw (← (size_of h)) b) d);
      area = summed p.area;
      small = sum_small;
    }
      where
        summed : twice ≡ area (ring l) i → twice +ℤ part (ring l) i ≡ area (ring l) (i + 1)
        summed q = rw (add-one i, q)

-- ---- all edges done, and corner 0 looked at
module _ (l : List ℤ) (n : ℕ) (e f : Option ℕ) (twice : ℤ) (h : HoldsRing l n) (p : Passed l n n e f twice) where
  first_bend : Decides (Bend (ring l) 0) (bends ((ring l).at (n - 1)) ((ring l).at 0) ((ring l).at 1))
  first_bend =
      let m = h.corners.least in
      let q : next (ring l).size 0 ≡ 1 = next_inner (ring l).size 0 (let z = size_of h in omega arith) in
      let k : back (ring l).size 0 ≡ n - 1 = back_last (ring l).size ∙ ap (λ (m : ℕ). m - 1) (sym (size_of h)) in
      rw (q, k) (bends_decides ((ring l).at (n - 1)) ((ring l).at 0) ((ring l).at 1))

  -- a fold at corner 0 comes before those of the pass
  closed : (t : Bool) → Decides (Bend (ring l) 0) t → Sought (Bend (ring l)) n (option_or (then_some t 0) f)
  closed true d = record { below = let m = h.corners.least in omega arith; bad = d; before = λ j a. absurd (omega arith) }
  closed false d = sought_map _ _ n f (λ j a q. q.1) (λ j a q. ⊎_elim (λ (z : j ≤ 0). let k : j ≡ 0 = omega arith in absurd (d (subst (Bend (ring l)) k q))) (λ (z : 0 < j). (z, q)) (ℕ_or j 0)) p.fold

  pub drawn : (t : Bool) (u v w : Pt) → t ≡ bends u v w → u ≡ (ring l).at (n - 1) → v ≡ (ring l).at 0 → w ≡ (ring l).at 1
      → Draws l (record { same = e; fold = option_or (then_some t 0) f; area = twice })
  drawn t u v w q x y z = record {
    same = subst (λ (m : ℕ). Sought (Same (ring l)) m e) (size_of h) p.same;
    fold = subst (λ (m : ℕ). Sought (Bend (ring l)) m (option_or (then_some t 0) f)) (size_of h) (closed t (rw (q, x, y, z) first_bend));
    area = p.area ∙ ap (area (ring l)) (size_of h);
  }

  -- no number is out of reach
  pub all_reached : (j : ℕ) → j < length l → Stray l j → ⊥
  all_reached j b d = d (p.reach j (let z = h.whole in omega arith) b)
