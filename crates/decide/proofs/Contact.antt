-- Contact does not depend on how a moment is written. Assumes nothing.
use mathlib.Core.Path.{◌≡◌, sym, subst, ◌∙◌}
use mathlib.Core.HLevel.{is_prop→PathP}
use lib.Dec.{T_prop}
use lib.IntN.{ℤ, pos, ◌+ℤ◌, ◌*ℤ◌, *ℤ_comm}
use lib.Signed.{◌≤ℤ◌, ◌<ℤ◌, lt_z}
use Rattle.whole.specs.Fraction.{Frac, ◌≈◌, whole}
use Rattle.whole.proofs.Fraction.{scaled, trans}
use Rattle.whole.proofs.Order.{eq_le, mul_mono, cancel, lt_le}
use Rattle.whole.proofs.Polynomial.{vars5, poly, num_val, by_ring}
use Rattle.rules.specs.Reach.{Run, Piece}
use Rattle.rules.specs.Ring.{Ring}
use Rattle.rules.specs.Ring as corners
use Rattle.rules.specs.Place.{OnOrInside}
use Rattle.rules.specs.Contact.{Moment, point_at, ring_at, Contact}
use Rattle.decide.proofs.On.{move, origin}
use Rattle.decide.proofs.Share.{pt_eq}
use Rattle.decide.proofs.Parity.{moved, met_moved, met_unmoved}

-- ---- the same moment with c times the numbers
along_scaled : (c d n p v : ℤ) → c *ℤ (d *ℤ p +ℤ n *ℤ v) +ℤ pos 0 ≡ (c *ℤ d) *ℤ p +ℤ (c *ℤ n) *ℤ v
along_scaled = vars5 _ λ ρ. simp (poly, num_val ρ) (by_ring _ _ _ tt)

module _ (r : Run) (k : Piece) (c : ℤ) (l : pos 0 <ℤ c) (t : Frac) where
  point_scaled : move c origin (point_at r t) ≡ point_at r (scaled c l t)
  point_scaled = pt_eq _ _ (along_scaled c t.den t.num r.start.x r.speed.x) (along_scaled c t.den t.num r.start.y r.speed.y)

  ring_scaled : moved c origin l (ring_at k t) ≡ ring_at k (scaled c l t)
  ring_scaled = λ j. record {
    size = (ring_at k t).size;
    at = λ i. pt_eq (move c origin ((ring_at k t).at i)) ((ring_at k (scaled c l t)).at i)
        (along_scaled c t.den t.num ((corners.ring k.corners).at i).x k.speed.x)
        (along_scaled c t.den t.num ((corners.ring k.corners).at i).y k.speed.y) j;
  }

  met_scaled : OnOrInside (ring_at k t) (point_at r t) → OnOrInside (ring_at k (scaled c l t)) (point_at r (scaled c l t))
  met_scaled h =
      subst (λ (q : Ring). OnOrInside q (point_at r (scaled c l t))) ring_scaled
      (subst (OnOrInside (moved c origin l (ring_at k t))) point_scaled (met_moved c origin l (ring_at k t) (point_at r t) h))

  met_unscaled : OnOrInside (ring_at k (scaled c l t)) (point_at r (scaled c l t)) → OnOrInside (ring_at k t) (point_at r t)
  met_unscaled h =
      met_unmoved c origin l (ring_at k t) (point_at r t)
      (subst (OnOrInside (moved c origin l (ring_at k t))) (sym point_scaled) (subst (λ (q : Ring). OnOrInside q (point_at r (scaled c l t))) (sym ring_scaled) h))

turned : (c d n p v : ℤ) → (d *ℤ p +ℤ n *ℤ v) *ℤ c ≡ (c *ℤ d) *ℤ p +ℤ (c *ℤ n) *ℤ v
turned = vars5 _ λ ρ. simp poly (by_ring _ _ _ tt)

le_scaled : (c d n p v q w : ℤ) → pos 0 <ℤ c → (d *ℤ p +ℤ n *ℤ v) ≤ℤ (d *ℤ q +ℤ n *ℤ w) → ((c *ℤ d) *ℤ p +ℤ (c *ℤ n) *ℤ v) ≤ℤ ((c *ℤ d) *ℤ q +ℤ (c *ℤ n) *ℤ w)
le_scaled c d n p v q w l h = rw (← turned c d n p v, ← turned c d n q w) (mul_mono _ _ c h (lt_le _ _ l))

le_unscaled : (c d n p v q w : ℤ) → pos 0 <ℤ c → ((c *ℤ d) *ℤ p +ℤ (c *ℤ n) *ℤ v) ≤ℤ ((c *ℤ d) *ℤ q +ℤ (c *ℤ n) *ℤ w) → (d *ℤ p +ℤ n *ℤ v) ≤ℤ (d *ℤ q +ℤ n *ℤ w)
le_unscaled c d n p v q w l h = cancel _ _ c l (rw (turned c d n p v, turned c d n q w) h)

module _ (r : Run) (k : Piece) (c : ℤ) (l : pos 0 <ℤ c) (t : Frac) where
  pub contact_scaled : Contact r k t → Contact r k (scaled c l t)
  contact_scaled h = record {
    place = met_scaled r k c l t h.place;
    band = record { bottom = le_scaled c t.den t.num _ _ _ _ l h.band.bottom; top = le_scaled c t.den t.num _ _ _ _ l h.band.top };
  }

  pub contact_unscaled : Contact r k (scaled c l t) → Contact r k t
  contact_unscaled h = record {
    place = met_unscaled r k c l t h.place;
    band = record { bottom = le_unscaled c t.den t.num _ _ _ _ l h.band.bottom; top = le_unscaled c t.den t.num _ _ _ _ l h.band.top };
  }

-- ---- the same moment however it is written
lt_prop : (a b : ℤ) → IsProp (a <ℤ b)
lt_prop a b x y = λ i. record { lt = T_prop (lt_z a b) x.lt y.lt i }

frac_eq : (s t : Frac) → s.num ≡ t.num → s.den ≡ t.den → s ≡ t
frac_eq s t e f = λ i. record { num = e i; den = f i; some = is_prop→PathP (λ j. pos 0 <ℤ f j) (λ j. lt_prop (pos 0) (f j)) s.some t.some i }

-- equal fractions meet at the product of their denominators
common : (s t : Frac) → s ≈ t → scaled t.den t.some s ≡ scaled s.den s.some t
common s t e = frac_eq _ _ (*ℤ_comm t.den s.num ∙ e ∙ *ℤ_comm t.num s.den) (*ℤ_comm t.den s.den)

pub same_contact : (r : Run) (k : Piece) (s t : Frac) → s ≈ t → Contact r k s → Contact r k t
same_contact r k s t e h = contact_unscaled r k s.den s.some t (subst (λ (u : Frac). Contact r k u) (common s t e) (contact_scaled r k t.den t.some s h))

pub same_moment : (r : Run) (s t : Frac) → s ≈ t → Moment r s → Moment r t
same_moment r s t e h = record { from = trans (whole (pos 0)) s t h.from (eq_le _ _ e); to = trans t s (whole (pos r.ticks)) (eq_le _ _ (sym e)) h.to }
