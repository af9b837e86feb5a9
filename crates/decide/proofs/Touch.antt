-- The clipped span of an edge holds exactly the moments at which the point is on it, so its begin is the first touch. Assumes nothing.
use mathlib.Core.Path.{◌≡◌, refl, sym, ap, ◌∙◌}
use mathlib.Core.Logic.{⊎_elim}
use mathlib.Core.Bool.{Bool, true, false, cond, ◌&&◌}
use native.Mathlib.Omega.{arith}
use lib.IntN.{ℤ, pos, neg_ℤ, ◌+ℤ◌, ◌-ℤ◌, ◌*ℤ◌, zero-*ℤ}
use lib.Signed.{◌≤ℤ◌, ◌<ℤ◌, le_z, lt_z}
use Rattle.whole.specs.Fraction.{Frac}
use Rattle.whole.proofs.Difference.{all3, ring}
use Rattle.whole.proofs.Order.{pn_mul, neg_not, pos_not, nn_mul, pos_mul, pos_neg_mul, nn_factor, mul_mono, cancel, lt_le}
use Rattle.whole.proofs.Flag.{same_flag, or_yes, and_yes, lt_true}
use Rattle.whole.proofs.Polynomial.{vars3, vars4, vars5, vars6, vars9, vars10, poly, num_val, by_ring}
use Rattle.rules.specs.Ring.{Pt, times, On}
use Rattle.rules.specs.Contact.{along}
use Rattle.decide.specs.Side.{side_of, side}
use Rattle.decide.proofs.Segment.{mix, mix⁺, Signs, minus, plus}
use Rattle.decide.specs.Span.{Span}
use Rattle.decide.specs.Touch.{least, most, swing, across, same_side, on_line, within, on_edge}
use Rattle.decide.proofs.Span.{Proper, Holds, Clips, clips, turned, both}
use Rattle.decide.proofs.Place.{Boxed, on_boxed, boxed_on}

-- the point at t, over its denominator
abbrev pub at : Pt → Pt → Frac → Pt
at p w t = record { x = along t p.x w.x; y = along t p.y w.y }

-- it is on the edge at t
abbrev pub OnAt : Pt → Pt → Pt → Pt → Frac → Type 0
OnAt p w a b t = On (at p w t) (times t.den a) (times t.den b)

-- ---- the six inequalities
line : (d n ax ay bx by px py wx wy : ℤ)
    → side (d *ℤ ax) (d *ℤ ay) (d *ℤ bx) (d *ℤ by) (d *ℤ px +ℤ n *ℤ wx) (d *ℤ py +ℤ n *ℤ wy) ≡
    (side ax ay bx by px py *ℤ d +ℤ ((bx -ℤ ax) *ℤ wy -ℤ (by -ℤ ay) *ℤ wx) *ℤ n) *ℤ d
line = vars10 _ λ ρ. simp poly (by_ring _ _ _ tt)

le_times : (d a b : ℤ) → pos 0 <ℤ d → le_z (d *ℤ a) (d *ℤ b) ≡ le_z a b
le_times d a b l = same_flag _ _ (λ h. (cancel a b d l (out d a b (record { le = h }))).le) (λ h. (into d a b (mul_mono a b d (record { le = h }) (lt_le _ _ l))).le)
  where
    out : (d a b : ℤ) → (d *ℤ a) ≤ℤ (d *ℤ b) → (a *ℤ d) ≤ℤ (b *ℤ d)
    out = all3 _ λ a a' b b' c c'. simp ring (omega arith)

    into : (d a b : ℤ) → (a *ℤ d) ≤ℤ (b *ℤ d) → (d *ℤ a) ≤ℤ (d *ℤ b)
    into = all3 _ λ a a' b b' c c'. simp ring (omega arith)

cond_times : (t : Bool) (d a b : ℤ) → cond t (d *ℤ a) (d *ℤ b) ≡ d *ℤ cond t a b
cond_times true d a b = refl
cond_times false d a b = refl

least_times : (d a b : ℤ) → pos 0 <ℤ d → least (d *ℤ a) (d *ℤ b) ≡ d *ℤ least a b
least_times d a b l = ap (λ t. cond t (d *ℤ a) (d *ℤ b)) (le_times d a b l) ∙ cond_times (le_z a b) d a b

most_times : (d a b : ℤ) → pos 0 <ℤ d → most (d *ℤ a) (d *ℤ b) ≡ d *ℤ most a b
most_times d a b l = ap (λ t. cond t (d *ℤ b) (d *ℤ a)) (le_times d a b l) ∙ cond_times (le_z a b) d b a

low_eq : (d n p w l : ℤ) → (p -ℤ l) *ℤ d +ℤ w *ℤ n ≡ (d *ℤ p +ℤ n *ℤ w) -ℤ d *ℤ l
low_eq = vars5 _ λ ρ. simp poly (by_ring _ _ _ tt)

high_eq : (d n p w m : ℤ) → (m -ℤ p) *ℤ d +ℤ neg_ℤ w *ℤ n ≡ d *ℤ m -ℤ (d *ℤ p +ℤ n *ℤ w)
high_eq = vars5 _ λ ρ. simp poly (by_ring _ _ _ tt)

pub diff_le : (x y z : ℤ) → x ≡ y -ℤ z → pos 0 ≤ℤ x → z ≤ℤ y
diff_le = all3 _ λ a a' b b' c c'. simp ring (omega arith)

pub le_diff : (x y z : ℤ) → x ≡ y -ℤ z → z ≤ℤ y → pos 0 ≤ℤ x
le_diff = all3 _ λ a a' b b' c c'. simp ring (omega arith)

-- the side times a positive factor
turn_side : (α β d n : ℤ) → neg_ℤ α *ℤ d +ℤ neg_ℤ β *ℤ n ≡ pos 0 -ℤ (α *ℤ d +ℤ β *ℤ n)
turn_side = vars4 _ λ ρ. simp (poly, num_val ρ) (by_ring _ _ _ tt)

np_factor : (z d : ℤ) → pos 0 <ℤ d → (z *ℤ d) ≤ℤ pos 0 → z ≤ℤ pos 0
np_factor z d l h = cancel z (pos 0) d l (rw (zero-*ℤ d) h)

-- ---- an edge
module _ (p w a b : Pt) where
  abbrev Six : Frac → Type 0
  Six t = ((Holds (side_of a b p) (swing a b w) t × Holds (neg_ℤ (side_of a b p)) (neg_ℤ (swing a b w)) t) ×
      (Holds (p.x -ℤ least a.x b.x) w.x t × Holds (most a.x b.x -ℤ p.x) (neg_ℤ w.x) t)) ×
      (Holds (p.y -ℤ least a.y b.y) w.y t × Holds (most a.y b.y -ℤ p.y) (neg_ℤ w.y) t)

  side_at : (t : Frac) → side_of (times t.den a) (times t.den b) (at p w t) ≡ (side_of a b p *ℤ t.den +ℤ swing a b w *ℤ t.num) *ℤ t.den
  side_at t = line t.den t.num a.x a.y b.x b.y p.x p.y w.x w.y

  six_boxed : (t : Frac) → Six t → Boxed (at p w t) (times t.den a) (times t.den b)
  six_boxed t h = record {
    right = rw (side_at t)
        (pn_mul (side_of a b p *ℤ t.den +ℤ swing a b w *ℤ t.num) t.den
        (diff_le _ (pos 0) (side_of a b p *ℤ t.den +ℤ swing a b w *ℤ t.num) (turn_side (side_of a b p) (swing a b w) t.den t.num) h.0.0.1)
        (lt_le _ _ t.some));
    left = rw (side_at t) (nn_mul (side_of a b p *ℤ t.den +ℤ swing a b w *ℤ t.num) t.den h.0.0.0 (lt_le _ _ t.some));
    x_low = rw (least_times t.den a.x b.x t.some) (diff_le _ _ _ (low_eq t.den t.num p.x w.x (least a.x b.x)) h.0.1.0);
    x_high = rw (most_times t.den a.x b.x t.some) (diff_le _ _ _ (high_eq t.den t.num p.x w.x (most a.x b.x)) h.0.1.1);
    y_low = rw (least_times t.den a.y b.y t.some) (diff_le _ _ _ (low_eq t.den t.num p.y w.y (least a.y b.y)) h.1.0);
    y_high = rw (most_times t.den a.y b.y t.some) (diff_le _ _ _ (high_eq t.den t.num p.y w.y (most a.y b.y)) h.1.1);
  }

  boxed_six : (t : Frac) → Boxed (at p w t) (times t.den a) (times t.den b) → Six t
  boxed_six t h = (
    (
      (
        nn_factor (side_of a b p *ℤ t.den +ℤ swing a b w *ℤ t.num) t.den t.some (rw (side_at t) at h.left),
        le_diff _ (pos 0) (side_of a b p *ℤ t.den +ℤ swing a b w *ℤ t.num) (turn_side (side_of a b p) (swing a b w) t.den t.num)
            (np_factor (side_of a b p *ℤ t.den +ℤ swing a b w *ℤ t.num) t.den t.some (rw (side_at t) at h.right)),
      ),
      (
        le_diff _ _ _ (low_eq t.den t.num p.x w.x (least a.x b.x)) (rw (least_times t.den a.x b.x t.some) at h.x_low),
        le_diff _ _ _ (high_eq t.den t.num p.x w.x (most a.x b.x)) (rw (most_times t.den a.x b.x t.some) at h.x_high),
      ),
    ),
    (
      le_diff _ _ _ (low_eq t.den t.num p.y w.y (least a.y b.y)) (rw (least_times t.den a.y b.y t.some) at h.y_low),
      le_diff _ _ _ (high_eq t.den t.num p.y w.y (most a.y b.y)) (rw (most_times t.den a.y b.y t.some) at h.y_high),
    ),
  )

  -- clipping by the edge keeps the moments on it
  pub edge_clips : (s : Span) → Proper s → Clips s (on_edge p w s a b) (OnAt p w a b)
  unfolding on_edge on_line within
  edge_clips s q =
      let c1 = clips s q (side_of a b p) (swing a b w) in
      let c2 = clips _ c1.proper (neg_ℤ (side_of a b p)) (neg_ℤ (swing a b w)) in
      let c3 = clips _ c2.proper (p.x -ℤ least a.x b.x) w.x in
      let c4 = clips _ c3.proper (most a.x b.x -ℤ p.x) (neg_ℤ w.x) in
      let c5 = clips _ c4.proper (p.y -ℤ least a.y b.y) w.y in
      let c6 = clips _ c5.proper (most a.y b.y -ℤ p.y) (neg_ℤ w.y) in
      turned (both (both (both c1 c2) (both c3 c4)) (both c5 c6)) (λ t h. boxed_on _ _ _ (six_boxed t h)) (λ t h. boxed_six t (on_boxed _ _ _ h))

-- ---- an edge on one side of the line of motion is never touched
pub same_yes : (u v : ℤ) → same_side u v ≡ true → Signs u v
same_yes u v e =
    ⊎_elim (λ f. let g = and_yes (lt_z u (pos 0)) (lt_z v (pos 0)) f in minus (lt_true _ _ g.0) (lt_true _ _ g.1))
    (λ f. let g = and_yes (lt_z (pos 0) u) (lt_z (pos 0) v) f in plus (lt_true _ _ g.0) (lt_true _ _ g.1))
    (or_yes (lt_z u (pos 0) && lt_z v (pos 0)) (lt_z (pos 0) u && lt_z (pos 0) v) e)

spread : (d m i u v a b f g : ℤ) → d *ℤ ((m -ℤ i) *ℤ (u *ℤ a -ℤ v *ℤ b) +ℤ i *ℤ (u *ℤ f -ℤ v *ℤ g)) ≡ u *ℤ (d *ℤ ((m -ℤ i) *ℤ a +ℤ i *ℤ f)) -ℤ v *ℤ (d *ℤ ((m -ℤ i) *ℤ b +ℤ i *ℤ g))
spread = vars9 _ λ ρ. simp poly (by_ring _ _ _ tt)

gather : (d m i a b p : ℤ) → d *ℤ ((m -ℤ i) *ℤ (a -ℤ p) +ℤ i *ℤ (b -ℤ p)) ≡ ((m -ℤ i) *ℤ (d *ℤ a) +ℤ i *ℤ (d *ℤ b)) -ℤ m *ℤ (d *ℤ p)
gather = vars6 _ λ ρ. simp poly (by_ring _ _ _ tt)

way : (d n m p w : ℤ) → m *ℤ (d *ℤ p +ℤ n *ℤ w) -ℤ m *ℤ (d *ℤ p) ≡ (m *ℤ n) *ℤ w
way = vars5 _ λ ρ. simp poly (by_ring _ _ _ tt)

along_itself : (m u v : ℤ) → u *ℤ (m *ℤ v) -ℤ v *ℤ (m *ℤ u) ≡ pos 0
along_itself = vars3 _ λ ρ. simp (poly, num_val ρ) (by_ring _ _ _ tt)

travelled : (d n m i a b p w : ℤ) → m *ℤ (d *ℤ p +ℤ n *ℤ w) ≡ (m -ℤ i) *ℤ (d *ℤ a) +ℤ i *ℤ (d *ℤ b) → d *ℤ ((m -ℤ i) *ℤ (a -ℤ p) +ℤ i *ℤ (b -ℤ p)) ≡ (m *ℤ n) *ℤ w
travelled d n m i a b p w e = gather d m i a b p ∙ ap (λ z. z -ℤ m *ℤ (d *ℤ p)) (sym e) ∙ way d n m p w

module _ (p w a b : Pt) where
  balance : (t : Frac) (h : OnAt p w a b t) → t.den *ℤ ((h.m -ℤ h.i) *ℤ across p w a +ℤ h.i *ℤ across p w b) ≡ pos 0
  balance t h =
      spread t.den h.m h.i w.x w.y (a.y -ℤ p.y) (a.x -ℤ p.x) (b.y -ℤ p.y) (b.x -ℤ p.x)
      ∙ ap (λ z. w.x *ℤ z -ℤ w.y *ℤ (t.den *ℤ ((h.m -ℤ h.i) *ℤ (a.x -ℤ p.x) +ℤ h.i *ℤ (b.x -ℤ p.x)))) (travelled t.den t.num h.m h.i a.y b.y p.y w.y h.y)
      ∙ ap (λ z. w.x *ℤ ((h.m *ℤ t.num) *ℤ w.y) -ℤ w.y *ℤ z) (travelled t.den t.num h.m h.i a.x b.x p.x w.x h.x)
      ∙ along_itself (h.m *ℤ t.num) w.x w.y

  pub beside : same_side (across p w a) (across p w b) ≡ true → (t : Frac) → OnAt p w a b t → ⊥
  beside e t h = go (same_yes _ _ e)
    where
      go : Signs (across p w a) (across p w b) → ⊥
      go (minus i k) = neg_not _ (balance t h) (pos_neg_mul t.den _ t.some (mix h.m h.i _ _ h.some h.low h.high i k))
      go (plus i k) = pos_not _ (balance t h) (pos_mul t.den _ t.some (mix⁺ h.m h.i _ _ h.some h.low h.high i k))
