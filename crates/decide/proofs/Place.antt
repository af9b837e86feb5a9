-- The test of a point on an edge, the sign and the box, decides `On`; so the computed place is the place. Assumes nothing.
use mathlib.Core.Path.{◌≡◌, refl, sym, subst, ◌∙◌}
use mathlib.Core.Logic.{inl, inr, ⊎_elim}
use mathlib.Core.Bool.{Bool, true, false, cond, ◌&&◌}
use Prim.Native.Nat.{ℕ, zero, suc, ◌≤◌, ◌<◌}
use native.Mathlib.Omega.{arith}
use lib.IntN.{ℤ, pos}
use lib.Signed.{◌≤ℤ◌, ◌<ℤ◌, le_z, <ℤ-≤ℤ_trans}
use Rattle.whole.proofs.Order.{le_lt_trans, lt_le, not_lt, clash, neg_not, pos_not, ℕ_or}
use Rattle.whole.proofs.Flag.{by_flag, false_true, decided, or_yes, or_left, or_right, and_yes, and_both, le_true, le_false, true_le}
use Rattle.rules.specs.Ring.{Pt, Ring, from, to, On}
use Rattle.rules.specs.Place.{OnRing, Where, on, inside, outside, Parity, Place, OnOrInside}
use Rattle.decide.specs.Side.{side_of}
use Rattle.decide.proofs.Segment.{no_line, Apart, right, left, right', left', below, above, before, behind}
use Rattle.decide.proofs.On.{on_or_off, off_not_on}
use Rattle.decide.specs.Crossing.{flag, parity}
use Rattle.decide.proofs.Parity.{bit, parity_place, place_parity, zero_one}
use Rattle.decide.specs.Touch.{least, most, ranged, is_on, on_some, place, contact, on_or_inside}

-- ---- the box
pub least_low : (p a b : ℤ) → p <ℤ least a b → (p <ℤ a) × (p <ℤ b)
least_low p a b = by_flag (λ z. p <ℤ z → (p <ℤ a) × (p <ℤ b)) (le_z a b) a b (λ e h. (h, <ℤ-≤ℤ_trans h (le_true a b e))) (λ e h. (<ℤ-≤ℤ_trans h (lt_le _ _ (le_false a b e)), h))

pub most_high : (p a b : ℤ) → most a b <ℤ p → (a <ℤ p) × (b <ℤ p)
most_high p a b = by_flag (λ z. z <ℤ p → (a <ℤ p) × (b <ℤ p)) (le_z a b) b a (λ e h. (le_lt_trans a b p (le_true a b e) h, h)) (λ e h. (h, le_lt_trans b a p (lt_le _ _ (le_false a b e)) h))

-- what both ends have, the least and the most have
pub least_of : (P : ℤ → Type 0) (a b : ℤ) → P a → P b → P (least a b)
least_of P a b h k = by_flag P (le_z a b) a b (λ e. h) (λ e. k)

pub most_of : (P : ℤ → Type 0) (a b : ℤ) → P a → P b → P (most a b)
most_of P a b h k = by_flag P (le_z a b) b a (λ e. k) (λ e. h)

-- on the line, and within the box
pub record Boxed (p a b : Pt) : Type 0 where
  pub right : side_of a b p ≤ℤ pos 0
  pub left : pos 0 ≤ℤ side_of a b p
  pub x_low : least a.x b.x ≤ℤ p.x
  pub x_high : p.x ≤ℤ most a.x b.x
  pub y_low : least a.y b.y ≤ℤ p.y
  pub y_high : p.y ≤ℤ most a.y b.y

pub on_boxed : (p a b : Pt) → On p a b → Boxed p a b
on_boxed p a b h = record {
  right = not_lt _ _ (λ q. off (left q q));
  left = not_lt _ _ (λ q. off (right q q));
  x_low = not_lt _ _ (λ q. let w = least_low p.x a.x b.x q in off (before w.0 w.1 w.0 w.1));
  x_high = not_lt _ _ (λ q. let w = most_high p.x a.x b.x q in off (behind w.0 w.1 w.0 w.1));
  y_low = not_lt _ _ (λ q. let w = least_low p.y a.y b.y q in off (below w.0 w.1 w.0 w.1));
  y_high = not_lt _ _ (λ q. let w = most_high p.y a.y b.y q in off (above w.0 w.1 w.0 w.1));
}
  where
    off : Apart a b p p → ⊥
    off q = off_not_on p a b q h

pub boxed_on : (p a b : Pt) → Boxed p a b → On p a b
boxed_on p a b h = ⊎_elim (λ q. q) (λ q. absurd (never q)) (on_or_off p a b)
  where
    never : Apart a b p p → ⊥
    never (right q _) = clash _ _ q h.left
    never (left q _) = clash _ _ q h.right
    never (right' q _) = neg_not _ (no_line p.x p.y a.x a.y) q
    never (left' q _) = pos_not _ (no_line p.x p.y a.x a.y) q
    never (below i j _ _) = clash _ _ (least_of (λ z. p.y <ℤ z) a.y b.y i j) h.y_low
    never (above i j _ _) = clash _ _ (most_of (λ z. z <ℤ p.y) a.y b.y i j) h.y_high
    never (before i j _ _) = clash _ _ (least_of (λ z. p.x <ℤ z) a.x b.x i j) h.x_low
    never (behind i j _ _) = clash _ _ (most_of (λ z. z <ℤ p.x) a.x b.x i j) h.x_high

-- ---- as a test
pub range_yes : (a z b : ℤ) → ranged a z b ≡ true → (a ≤ℤ z) × (z ≤ℤ b)
range_yes a z b t = let k = and_yes (le_z a z) (le_z z b) t in (le_true a z k.0, le_true z b k.1)

pub yes_range : (a z b : ℤ) → a ≤ℤ z → z ≤ℤ b → ranged a z b ≡ true
yes_range a z b h k = and_both _ _ (true_le a z h) (true_le z b k)

module _ (p a b : Pt) where
  abbrev line : Bool
  line = ranged (pos 0) (side_of a b p) (pos 0)

  abbrev wide : Bool
  wide = ranged (least a.x b.x) p.x (most a.x b.x)

  abbrev high : Bool
  high = ranged (least a.y b.y) p.y (most a.y b.y)

  pub on_yes : is_on p a b ≡ true → On p a b
  on_yes e =
      let i = and_yes line (wide && high) e in
      let k = and_yes wide high i.1 in
      let l = range_yes (pos 0) (side_of a b p) (pos 0) i.0 in
      let x = range_yes (least a.x b.x) p.x (most a.x b.x) k.0 in
      let y = range_yes (least a.y b.y) p.y (most a.y b.y) k.1 in
      boxed_on p a b (record { right = l.1; left = l.0; x_low = x.0; x_high = x.1; y_low = y.0; y_high = y.1 })

  pub on_no : is_on p a b ≡ false → On p a b → ⊥
  on_no e h =
      let q = on_boxed p a b h in
      false_true
      (sym e
      ∙ and_both line (wide && high) (yes_range (pos 0) (side_of a b p) (pos 0) q.left q.right)
      (and_both wide high (yes_range (least a.x b.x) p.x (most a.x b.x) q.x_low q.x_high) (yes_range (least a.y b.y) p.y (most a.y b.y) q.y_low q.y_high)))

-- ---- the place
some_on : (r : Ring) (p : Pt) (n : ℕ) → n ≤ r.size → on_some r p n ≡ true → OnRing r p
unfolding on_some
some_on r p zero h t = absurd (false_true t)
some_on r p (suc n) h t =
    ⊎_elim (λ q. some_on r p n (omega arith) q) (λ q. record { edge = n; below = h; on = on_yes p (from r n) (to r n) q })
    (or_yes (on_some r p n) (is_on p (from r n) (to r n)) t)

on_some_lem : (r : Ring) (p : Pt) (n k : ℕ) → k < n → On p (from r k) (to r k) → on_some r p n ≡ true
unfolding on_some
on_some_lem r p zero k l h = absurd (omega arith)
on_some_lem r p (suc n) k l h =
    ⊎_elim (λ (q : n ≤ k). or_right (on_some r p n) (is_on p (from r n) (to r n)) (let e : k ≡ n = omega arith in at (subst (λ (i : ℕ). On p (from r i) (to r i)) e h)))
    (λ (q : k < n). or_left (on_some r p n) (is_on p (from r n) (to r n)) (on_some_lem r p n k q h)) (ℕ_or n k)
  where
    at : On p (from r n) (to r n) → is_on p (from r n) (to r n) ≡ true
    at g = ⊎_elim (λ e. e) (λ e. absurd (on_no p (from r n) (to r n) e g)) (decided (is_on p (from r n) (to r n)))

pub place_right : (r : Ring) (p : Pt) → Place r p (place r p)
unfolding place
place_right r p = go (on_some r p r.size) refl (parity (flag r p) r.size) refl
  where
    off : on_some r p r.size ≡ false → OnRing r p → ⊥
    off e h = false_true (sym e ∙ on_some_lem r p r.size h.edge h.below h.on)

    go : (s : Bool) → on_some r p r.size ≡ s → (t : Bool) → parity (flag r p) r.size ≡ t → Place r p (cond s on (cond t inside outside))
    go true e t f = some_on r p r.size (omega arith) e
    go false e true f = subst (λ (t : Bool). Parity r p (bit t)) f (parity_place r p (off e))
    go false e false f = subst (λ (t : Bool). Parity r p (bit t)) f (parity_place r p (off e))

-- ---- on or inside
pub met_yes : (r : Ring) (p : Pt) → on_or_inside r p ≡ true → OnOrInside r p
met_yes r p = go (place r p) (place_right r p)
  where
    go : (w : Where) → Place r p w → contact w ≡ true → OnOrInside r p
    go on h e = inl h
    go inside h e = inr h
    go outside h e = absurd (false_true e)

pub met_no : (r : Ring) (p : Pt) → on_or_inside r p ≡ false → OnOrInside r p → ⊥
met_no r p = go (place r p) (place_right r p)
  where
    go : (w : Where) → Place r p w → contact w ≡ false → OnOrInside r p → ⊥
    go on h e m = false_true (sym e)
    go inside h e m = false_true (sym e)
    go outside h e m = ⊎_elim h.off (λ q. zero_one (place_parity r p 0 h) (place_parity r p 1 q)) m
