-- An edge is counted exactly when its crossing flag is set: the sign of one cross product, by where its ends lie. Assumes nothing.
use mathlib.Core.Path.{◌≡◌, refl, sym, ap, ◌∙◌}
use mathlib.Core.Bool.{Bool, true, false}
use native.Mathlib.Omega.{arith}
use lib.IntN.{ℤ, pos, ◌+ℤ◌, ◌-ℤ◌, ◌*ℤ◌}
use lib.Signed.{◌≤ℤ◌, ◌<ℤ◌, le_z}
use Rattle.whole.proofs.Difference.{all3, ring}
use Rattle.whole.proofs.Order.{turn_gt, nn_mul, np_mul, neg_mul, pos_mul, pos_neg_mul, le_lt_trans, lt_le, lt_sub, le_sub, sub_mono, sub_lt, not_le, clash}
use Rattle.whole.proofs.Flag.{lt_true, le_true, le_false, true_lt, true_le, false_le, false_true}
use Rattle.whole.proofs.Polynomial.{vars4, vars7, vars8, poly, by_ring}
use Rattle.rules.specs.Ring.{Pt}
use Rattle.rules.specs.Place.{Straddles, rightward, leftward, Above}
use Rattle.decide.specs.Side.{side_of, side}
use Rattle.decide.proofs.Segment.{mean_times, mean_at, gap_at, side_turned}
use Rattle.decide.specs.Crossing.{counts, crosses}
use Rattle.decide.proofs.On.{on_turn}

-- ---- counted is the crossing flag
open_side : (n m ax ay bx by px py : ℤ) → (n *ℤ m) *ℤ side ax ay bx by px py ≡ (bx -ℤ ax) *ℤ (n *ℤ (m *ℤ py) -ℤ n *ℤ (m *ℤ ay)) -ℤ (by -ℤ ay) *ℤ (n *ℤ (m *ℤ px) -ℤ n *ℤ (m *ℤ ax))
open_side = vars8 _ λ ρ. simp poly (by_ring _ _ _ tt)

slope : (n m i ax ay bx by : ℤ) → (by -ℤ ay) *ℤ (((n -ℤ i) *ℤ (m *ℤ ax) +ℤ i *ℤ (m *ℤ bx)) -ℤ n *ℤ (m *ℤ ax)) ≡ (bx -ℤ ax) *ℤ (((n -ℤ i) *ℤ (m *ℤ ay) +ℤ i *ℤ (m *ℤ by)) -ℤ n *ℤ (m *ℤ ay))
slope = vars7 _ λ ρ. simp poly (by_ring _ _ _ tt)

gathered : (b u v w : ℤ) → b *ℤ (u -ℤ v) -ℤ b *ℤ (w -ℤ v) ≡ b *ℤ (u -ℤ w)
gathered = vars4 _ λ ρ. simp poly (by_ring _ _ _ tt)

-- how far the point is below the edge, against its side
height : (p a b : Pt) (h : Above p a b) → (h.at.m *ℤ h.m) *ℤ side_of a b p ≡ (b.x -ℤ a.x) *ℤ (h.at.m *ℤ (h.m *ℤ p.y) -ℤ h.at.m *ℤ h.y)
height p a b h =
    open_side h.at.m h.m a.x a.y b.x b.y p.x p.y
    ∙ ap (λ z. (b.x -ℤ a.x) *ℤ (h.at.m *ℤ (h.m *ℤ p.y) -ℤ h.at.m *ℤ (h.m *ℤ a.y)) -ℤ (b.y -ℤ a.y) *ℤ (z -ℤ h.at.m *ℤ (h.m *ℤ a.x))) h.at.x
    ∙ ap (λ z. (b.x -ℤ a.x) *ℤ (h.at.m *ℤ (h.m *ℤ p.y) -ℤ h.at.m *ℤ (h.m *ℤ a.y)) -ℤ z) (slope h.at.m h.m h.at.i a.x a.y b.x b.y)
    ∙ ap (λ z. (b.x -ℤ a.x) *ℤ (h.at.m *ℤ (h.m *ℤ p.y) -ℤ h.at.m *ℤ (h.m *ℤ a.y)) -ℤ (b.x -ℤ a.x) *ℤ (z -ℤ h.at.m *ℤ (h.m *ℤ a.y))) (sym h.at.y)
    ∙ gathered (b.x -ℤ a.x) (h.at.m *ℤ (h.m *ℤ p.y)) (h.at.m *ℤ (h.m *ℤ a.y)) (h.at.m *ℤ h.y)

-- below by a positive factor
lower : (n u v : ℤ) → pos 0 <ℤ n → u <ℤ v → (n *ℤ u -ℤ n *ℤ v) <ℤ pos 0
lower n u v h k = go n u v (pos_mul n (v -ℤ u) h (lt_sub _ _ k))
  where
    go : (n u v : ℤ) → pos 0 <ℤ (n *ℤ (v -ℤ u)) → (n *ℤ u -ℤ n *ℤ v) <ℤ pos 0
    go = all3 _ λ a a' b b' c c'. simp ring (omega arith)

-- k s = e g, k positive, g negative: s has the sign against e
against : (k s e g : ℤ) → pos 0 <ℤ k → g <ℤ pos 0 → k *ℤ s ≡ e *ℤ g → pos 0 <ℤ e → s <ℤ pos 0
against k s e g hk hg q he = not_le s (pos 0) (λ hs. clash _ _ (pos_neg_mul e g he hg) (rw (← q) (nn_mul k s (lt_le _ _ hk) hs)))

against⁻ : (k s e g : ℤ) → pos 0 <ℤ k → g <ℤ pos 0 → k *ℤ s ≡ e *ℤ g → e <ℤ pos 0 → pos 0 <ℤ s
against⁻ k s e g hk hg q he = not_le (pos 0) s (λ hs. clash _ _ (neg_mul e g he hg) (rw (← q) (np_mul k s (lt_le _ _ hk) hs)))

wide : (a p b : ℤ) → a ≤ℤ p → p <ℤ b → pos 0 <ℤ (b -ℤ a)
wide a p b l r = lt_sub _ _ (le_lt_trans _ _ _ l r)

pub counted_yes : (p a b : Pt) → Straddles p a b → Above p a b → crosses a b p ≡ true
counted_yes p a b (rightward l r) h =
    rw (true_le a.x p.x l, false_le b.x p.x r)
    (true_lt (side_of a b p) (pos 0)
    (against (h.at.m *ℤ h.m) (side_of a b p) (b.x -ℤ a.x) _ (pos_mul _ _ h.at.some h.some)
    (lower h.at.m (h.m *ℤ p.y) h.y h.at.some h.above) (height p a b h) (wide a.x p.x b.x l r)))
counted_yes p a b (leftward l r) h =
    rw (false_le a.x p.x r, true_le b.x p.x l)
    (true_lt (pos 0) (side_of a b p)
    (against⁻ (h.at.m *ℤ h.m) (side_of a b p) (b.x -ℤ a.x) _ (pos_mul _ _ h.at.some h.some)
    (lower h.at.m (h.m *ℤ p.y) h.y h.at.some h.above) (height p a b h) (sub_lt _ _ (le_lt_trans _ _ _ l r))))

-- ---- and back: the point of the edge at the point's x
gone : (u v w : ℤ) → u -ℤ v ≡ w → w <ℤ pos 0 → u <ℤ v
gone = all3 _ λ a a' b b' c c'. simp ring (omega arith)

above_right : (p a b : Pt) → a.x ≤ℤ p.x → p.x <ℤ b.x → side_of a b p <ℤ pos 0 → Above p a b
above_right p a b l r s = record {
  m = b.x -ℤ a.x;
  y = ((b.x -ℤ a.x) -ℤ (p.x -ℤ a.x)) *ℤ a.y +ℤ (p.x -ℤ a.x) *ℤ b.y;
  some = wide a.x p.x b.x l r;
  at = record {
    m = b.x -ℤ a.x;
    i = p.x -ℤ a.x;
    some = wide a.x p.x b.x l r;
    low = le_sub _ _ l;
    high = sub_mono a.x p.x b.x (lt_le _ _ r);
    x = ap (λ z. (b.x -ℤ a.x) *ℤ z) (mean_at a.x b.x p.x) ∙ mean_times (b.x -ℤ a.x) (p.x -ℤ a.x) a.x b.x;
    y = mean_times (b.x -ℤ a.x) (p.x -ℤ a.x) a.y b.y;
  };
  above = gone _ _ _ (gap_at a.x a.y b.x b.y p.x p.y) s;
}

-- leftward is rightward from the other end
above_left : (p a b : Pt) → b.x ≤ℤ p.x → p.x <ℤ a.x → pos 0 <ℤ side_of a b p → Above p a b
above_left p a b l r s =
    let h = above_right p b a l r (rw (side_turned a b p) (turn_gt _ s)) in
    record { m = h.m; y = h.y; some = h.some; at = on_turn _ _ _ h.at; above = h.above }

pub yes_counted : (p a b : Pt) → crosses a b p ≡ true → Straddles p a b × Above p a b
yes_counted p a b = go (le_z a.x p.x) (le_z b.x p.x) refl refl
  where
    go : (s t : Bool) → le_z a.x p.x ≡ s → le_z b.x p.x ≡ t → counts s t (side_of a b p) ≡ true → Straddles p a b × Above p a b
    go true true e f z = absurd (false_true z)
    go true false e f z =
        let l = le_true a.x p.x e in
        let r = le_false b.x p.x f in
        (rightward l r, above_right p a b l r (lt_true (side_of a b p) (pos 0) z))
    go false true e f z =
        let l = le_true b.x p.x f in
        let r = le_false a.x p.x e in
        (leftward l r, above_left p a b l r (lt_true (pos 0) (side_of a b p) z))
    go false false e f z = absurd (false_true z)
