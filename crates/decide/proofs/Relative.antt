-- Relative motion: the footprint stands, the point runs at the difference of the velocities. Assumes nothing.
use mathlib.Core.Path.{◌≡◌, sym, subst}
use lib.IntN.{ℤ, pos, ◌+ℤ◌, ◌-ℤ◌, ◌*ℤ◌}
use lib.Signed.{◌<ℤ◌}
use Rattle.whole.specs.Fraction.{Frac}
use Rattle.whole.proofs.Polynomial.{vars4, vars5, poly, num_val, by_ring}
use Rattle.rules.specs.Reach.{Run, Piece}
use Rattle.rules.specs.Ring.{Pt, Ring, ring, times}
use Rattle.rules.specs.Place.{OnOrInside}
use Rattle.rules.specs.Contact.{point_at, ring_at}
use Rattle.decide.proofs.On.{move}
use Rattle.decide.proofs.Share.{pt_eq}
use Rattle.decide.proofs.Parity.{moved, met_moved, met_unmoved}
use Rattle.decide.specs.Touch.{point_of, motion, over}
use Rattle.decide.proofs.Touch.{at}

drift : Piece → Frac → Pt
drift k t = record { x = t.num *ℤ k.speed.x; y = t.num *ℤ k.speed.y }

run_drift : (d n p v u : ℤ) → pos 1 *ℤ (d *ℤ p +ℤ n *ℤ (v -ℤ u)) +ℤ n *ℤ u ≡ d *ℤ p +ℤ n *ℤ v
run_drift = vars5 _ λ ρ. simp (poly, num_val ρ) (by_ring _ _ _ tt)

corner_drift : (d n c u : ℤ) → pos 1 *ℤ (d *ℤ c) +ℤ n *ℤ u ≡ d *ℤ c +ℤ n *ℤ u
corner_drift = vars4 _ λ ρ. simp (poly, num_val ρ) (by_ring _ _ _ tt)

one : pos 0 <ℤ pos 1
one = record { lt = tt }

module _ (r : Run) (k : Piece) (t : Frac) where
  point_relative : move (pos 1) (drift k t) (at (point_of r) (motion r k) t) ≡ point_at r t
  unfolding drift
  point_relative = pt_eq _ _ (run_drift t.den t.num r.start.x r.speed.x k.speed.x) (run_drift t.den t.num r.start.y r.speed.y k.speed.y)

  ring_relative : moved (pos 1) (drift k t) one (over t.den (ring k.corners)) ≡ ring_at k t
  unfolding drift
  ring_relative = λ j. record {
    size = (ring_at k t).size;
    at = λ i. pt_eq (move (pos 1) (drift k t) (times t.den ((ring k.corners).at i))) ((ring_at k t).at i)
        (corner_drift t.den t.num ((ring k.corners).at i).x k.speed.x)
        (corner_drift t.den t.num ((ring k.corners).at i).y k.speed.y) j;
  }

  abbrev still : Ring
  still = over t.den (ring k.corners)

  pub met_relative : OnOrInside still (at (point_of r) (motion r k) t) → OnOrInside (ring_at k t) (point_at r t)
  met_relative h =
      subst (λ (q : Ring). OnOrInside q (point_at r t)) ring_relative
      (subst (OnOrInside (moved (pos 1) (drift k t) one still)) point_relative (met_moved (pos 1) (drift k t) one still (at (point_of r) (motion r k) t) h))

  pub relative_met : OnOrInside (ring_at k t) (point_at r t) → OnOrInside still (at (point_of r) (motion r k) t)
  relative_met h =
      met_unmoved (pos 1) (drift k t) one still (at (point_of r) (motion r k) t)
      (subst (OnOrInside (moved (pos 1) (drift k t) one still)) (sym point_relative) (subst (λ (q : Ring). OnOrInside q (point_at r t)) (sym ring_relative) h))
