-- Between two moments the parity stays, or some edge is touched on the way. Assumes nothing.
use mathlib.Core.Path.{◌≡◌, sym, ap, subst, ◌∙◌}
use mathlib.Core.Logic.{◌⊎◌, inl, inr, ⊎_elim}
use Prim.Native.Nat.{ℕ, zero, suc, ◌≤◌, ◌<◌}
use native.Mathlib.Omega.{arith}
use lib.IntN.{ℤ, pos, ◌+ℤ◌, ◌-ℤ◌, ◌*ℤ◌}
use Rattle.whole.specs.Fraction.{Frac, ◌≼◌}
use Rattle.whole.proofs.Order.{nn_mul, pos_mul, lt_le, le_sub, ℕ_or}
use Rattle.whole.proofs.Polynomial.{vars3, vars6, vars8, poly, num_val, by_ring}
use Rattle.rules.specs.Ring.{Pt, times, Ring, from, to}
use Rattle.decide.proofs.Segment.{Apart, Common, decide}
use Rattle.decide.proofs.On.{move, origin}
use Rattle.decide.proofs.Share.{pt_eq}
use Rattle.decide.specs.Crossing.{flag, parity}
use Rattle.decide.proofs.Crossing.{same_parity}
use Rattle.decide.proofs.Parity.{moved, same_flags}
use Rattle.decide.specs.Touch.{over}
use Rattle.decide.proofs.Touch.{at, OnAt, diff_le}
use Rattle.decide.proofs.First.{OnFirst}

-- ---- a point common to an edge and the way from one moment to the next is a touch between them
position : (n j d e m k p w : ℤ) → (n *ℤ (d *ℤ e)) *ℤ p +ℤ ((n -ℤ j) *ℤ (e *ℤ m) +ℤ j *ℤ (d *ℤ k)) *ℤ w ≡ (n -ℤ j) *ℤ (e *ℤ (d *ℤ p +ℤ m *ℤ w) +ℤ pos 0) +ℤ j *ℤ (d *ℤ (e *ℤ p +ℤ k *ℤ w) +ℤ pos 0)
position = vars8 _ λ ρ. simp (poly, num_val ρ) (by_ring _ _ _ tt)

widened : (n i d e a b : ℤ) → n *ℤ ((n -ℤ i) *ℤ (e *ℤ (d *ℤ a) +ℤ pos 0) +ℤ i *ℤ (e *ℤ (d *ℤ b) +ℤ pos 0)) ≡ (n -ℤ i) *ℤ ((n *ℤ (d *ℤ e)) *ℤ a) +ℤ i *ℤ ((n *ℤ (d *ℤ e)) *ℤ b)
widened = vars6 _ λ ρ. simp (poly, num_val ρ) (by_ring _ _ _ tt)

later : (n j d e m k : ℤ) → ((n -ℤ j) *ℤ (e *ℤ m) +ℤ j *ℤ (d *ℤ k)) *ℤ d -ℤ m *ℤ (n *ℤ (d *ℤ e)) ≡ (j *ℤ d) *ℤ (k *ℤ d -ℤ m *ℤ e)
later = vars6 _ λ ρ. simp poly (by_ring _ _ _ tt)

earlier : (n j d e m k : ℤ) → k *ℤ (n *ℤ (d *ℤ e)) -ℤ ((n -ℤ j) *ℤ (e *ℤ m) +ℤ j *ℤ (d *ℤ k)) *ℤ e ≡ ((n -ℤ j) *ℤ e) *ℤ (k *ℤ d -ℤ m *ℤ e)
earlier = vars6 _ λ ρ. simp poly (by_ring _ _ _ tt)

module _ (p w : Pt) (s t : Frac) (l : s ≼ t) where
  -- the two positions over one denominator
  abbrev start : Pt
  start = move t.den origin (at p w s)

  abbrev stop : Pt
  stop = move s.den origin (at p w t)

  abbrev Touched : Pt → Pt → Type 0
  Touched a b = (u : Frac) × (s ≼ u) × (u ≼ t) × OnAt p w a b u

  touched : (a b : Pt) → Common (move t.den origin (times s.den a)) (move t.den origin (times s.den b)) start stop → Touched a b
  touched a b h = (
    u,
    diff_le _ _ _ (sym (later h.n h.j s.den t.den s.num t.num)) (nn_mul _ _ (nn_mul _ _ h.j_low (lt_le _ _ s.some)) (le_sub _ _ l)),
    diff_le _ _ _ (sym (earlier h.n h.j s.den t.den s.num t.num)) (nn_mul _ _ (nn_mul _ _ (le_sub _ _ h.j_high) (lt_le _ _ t.some)) (le_sub _ _ l)),
    record {
      m = h.n;
      i = h.i;
      some = h.some;
      low = h.i_low;
      high = h.i_high;
      x = ap (λ z. h.n *ℤ z) (position h.n h.j s.den t.den s.num t.num p.x w.x ∙ sym h.x) ∙ widened h.n h.i s.den t.den a.x b.x;
      y = ap (λ z. h.n *ℤ z) (position h.n h.j s.den t.den s.num t.num p.y w.y ∙ sym h.y) ∙ widened h.n h.i s.den t.den a.y b.y;
    },
  )
    where
      u : Frac
      u = record { num = (h.n -ℤ h.j) *ℤ (t.den *ℤ s.num) +ℤ h.j *ℤ (s.den *ℤ t.num); den = h.n *ℤ (s.den *ℤ t.den); some = pos_mul _ _ h.some (pos_mul _ _ s.some t.some) }

  -- ---- all edges
  module _ (r : Ring) where
    abbrev wide : Ring
    wide = moved t.den origin t.some (over s.den r)

    look : (n : ℕ) → n ≤ r.size → ((k : ℕ) → k < n → Apart (from wide k) (to wide k) start stop) ⊎ ((u : Frac) × (s ≼ u) × (u ≼ t) × OnFirst r p w r.size u)
    look zero h = inl (λ k q. absurd (omega arith))
    look (suc n) h =
        ⊎_elim
        (λ f. ⊎_elim
        (λ q. inl
        (λ k g. ⊎_elim (λ (e : n ≤ k). let z : n ≡ k = omega arith in subst (λ (i : ℕ). Apart (from wide i) (to wide i) start stop) z q)
        (λ (e : k < n). f k e) (ℕ_or n k))) (λ c. let x = touched (from r n) (to r n) c in inr (x.0, x.1, x.2, (n, h, x.3)))
        (decide (from wide n) (to wide n) start stop))
        inr
        (look n (omega arith))

    swapped : (d e c : ℤ) → e *ℤ (d *ℤ c) +ℤ pos 0 ≡ d *ℤ (e *ℤ c) +ℤ pos 0
    swapped = vars3 _ λ ρ. simp (poly, num_val ρ) (by_ring _ _ _ tt)

    same_ring : wide ≡ moved s.den origin s.some (over t.den r)
    same_ring = λ j. record {
      size = r.size;
      at = λ i. pt_eq (move t.den origin (times s.den (r.at i))) (move s.den origin (times t.den (r.at i)))
          (swapped s.den t.den (r.at i).x) (swapped s.den t.den (r.at i).y) j;
    }

    pub parity_or_touch : (parity (flag (over s.den r) (at p w s)) r.size ≡ parity (flag (over t.den r) (at p w t)) r.size) ⊎ ((u : Frac) × (s ≼ u) × (u ≼ t) × OnFirst r p w r.size u)
    parity_or_touch =
        ⊎_elim
        (λ f. inl
        (sym (same_flags t.den origin t.some (over s.den r) (at p w s))
        ∙ same_parity wide start stop f
        ∙ ap (λ (q : Ring). parity (flag q stop) r.size) same_ring
        ∙ same_flags s.den origin s.some (over t.den r) (at p w t)))
        inr
        (look r.size (omega arith))
