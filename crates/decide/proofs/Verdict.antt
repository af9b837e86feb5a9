-- The computed code is the verdict: what clear and a mark promise. Assumes nothing.
use mathlib.Core.Path.{◌≡◌, refl, sym, ap, subst, ◌∙◌}
use mathlib.Core.Logic.{inl, inr, ⊎_elim}
use mathlib.Core.Bool.{Bool, true, false, cond}
use Prim.Native.Nat.{ℕ, ◌*◌}
use native.Mathlib.Omega.{arith}
use lib.Dec.{le→leb}
use lib.IntN.{ℤ, pos, neg_ℤ, ◌+ℤ◌, ◌-ℤ◌, ◌*ℤ◌}
use Rattle.whole.specs.Fraction.{Frac, ◌≼◌, mark, whole, Floor}
use Rattle.whole.proofs.Fraction.{trans, apart}
use Rattle.whole.proofs.Order.{eq_le}
use Rattle.whole.proofs.Polynomial.{vars6, poly, by_ring}
use Rattle.rules.specs.Reach.{Run, Piece, Ticks}
use Rattle.rules.specs.Ring.{Ring, ring}
use Rattle.rules.specs.Place.{OnRing, Parity, OnOrInside}
use Rattle.rules.specs.Contact.{Moment, height_at, InBand, Contact}
use Rattle.rules.specs.Verdict.{Mark, Verdict, NONE, answer}
use Rattle.decide.specs.Crossing.{flag, parity}
use Rattle.decide.proofs.Parity.{bit, parity_place, place_parity}
use Rattle.rules.proofs.Verdict.{mark_answers}
use Rattle.decide.specs.Span.{Span, ticks, some, first}
use Rattle.decide.specs.Touch.{touches, point_of, motion, band_span, start_point, over, on_or_inside, first_mark, code}
use Rattle.decide.proofs.Span.{Proper, In, begin, Clips, clips, turned, both, begins, no_moment, first_mark_lem, between}
use Rattle.decide.proofs.Touch.{at, diff_le, le_diff}
use Rattle.decide.proofs.Place.{met_yes, met_no}
use Rattle.decide.proofs.First.{FirstAt, never, when, Early, below_none, OnFirst, first_touches}
use Rattle.decide.proofs.Motion.{parity_or_touch}
use Rattle.decide.proofs.Relative.{met_relative, relative_met}

-- ---- the band
bottom_eq : (d n b u z v : ℤ) → (z -ℤ b) *ℤ d +ℤ (v -ℤ u) *ℤ n ≡ (d *ℤ z +ℤ n *ℤ v) -ℤ (d *ℤ b +ℤ n *ℤ u)
bottom_eq = vars6 _ λ ρ. simp poly (by_ring _ _ _ tt)

top_eq : (d n b u z v : ℤ) → (b -ℤ z) *ℤ d +ℤ neg_ℤ (v -ℤ u) *ℤ n ≡ (d *ℤ b +ℤ n *ℤ u) -ℤ (d *ℤ z +ℤ n *ℤ v)
top_eq = vars6 _ λ ρ. simp poly (by_ring _ _ _ tt)

module _ (r : Run) (k : Piece) where
  ticks_proper : Proper (ticks (pos r.ticks))
  ticks_proper = record { low = record { lt = tt }; high = record { lt = tt }; from = record { le = tt } }

  abbrev Banded : Frac → Type 0
  Banded t = InBand (height_at r t) k t

  band_clips : Clips (ticks (pos r.ticks)) (band_span r k) Banded
  unfolding band_span
  band_clips =
      let c = clips _ ticks_proper (r.start.z -ℤ k.bottom) (r.speed.z -ℤ k.speed.z) in
      turned (both c (clips _ c.proper (k.top -ℤ r.start.z) (neg_ℤ (r.speed.z -ℤ k.speed.z))))
      (λ t h. record {
        bottom = diff_le _ _ _ (bottom_eq t.den t.num k.bottom k.speed.z r.start.z r.speed.z) h.0;
        top = diff_le _ _ _ (top_eq t.den t.num k.top k.speed.z r.start.z r.speed.z) h.1;
      })
      (λ t h. (
        le_diff _ _ _ (bottom_eq t.den t.num k.bottom k.speed.z r.start.z r.speed.z) h.bottom,
        le_diff _ _ _ (top_eq t.den t.num k.top k.speed.z r.start.z r.speed.z) h.top,
      ))

  abbrev span : Span
  span = band_span r k

  abbrev proper : Proper span
  proper = band_clips.proper

  -- the span is when the run lasts and is within the band
  in_span : (t : Frac) → Moment r t → Banded t → In span t
  in_span t m b = band_clips.keeps t (record { after = m.from; until = m.to }) b

  moment : (t : Frac) → In span t → Moment r t
  moment t i = let j = (band_clips.gives t i).0 in record { from = j.after; to = j.until }

  in_band : (t : Frac) → In span t → Banded t
  in_band t i = (band_clips.gives t i).1

  early : Ticks r.ticks → Early span
  early h t i = trans t (whole (pos r.ticks)) (whole (pos 4096)) (moment t i).to (record { le = le→leb (r.ticks * 1) (4096 * 1) (omega arith) })

  -- ---- contact is on or inside within the span
  abbrev corners : Ring
  corners = ring k.corners

  abbrev Here : Frac → Type 0
  Here t = OnOrInside (over t.den corners) (at (point_of r) (motion r k) t)

  abbrev Touched : Frac → Type 0
  Touched = OnFirst corners (point_of r) (motion r k) corners.size

  touching : (t : Frac) → In span t → Here t → Contact r k t
  touching t i h = record { place = met_relative r k t h; band = in_band t i }

  -- ---- a contact at the begin, or a touch, or none
  -- a contact within the mark's 1/256, and none before it
  marked : (c : ℕ) (u : Frac) → In span u → Contact r k u → Floor (pos c) u → ((t : Frac) → In span t → Contact r k t → mark (pos c) ≼ t) → Mark r k c
  marked c u i h m f = record {
    when = u;
    moment = moment u i;
    within = m;
    contact = h;
    before = λ t q l g. apart t (mark (pos c)) l (f t (in_span t q g.band) g);
  }

  -- neither on nor inside at the begin: every contact comes at or after a touch
  touch_before : (s : Frac) → In span s → ((t : Frac) → In span t → s ≼ t) → (Here s → ⊥) → (t : Frac) → In span t → Contact r k t → (u : Frac) × In span u × (u ≼ t) × Touched u
  touch_before s i f h t j c = ⊎_elim touched crossed (relative_met r k t c.place)
    where
      touched : OnRing (over t.den corners) (at (point_of r) (motion r k) t) → (u : Frac) × In span u × (u ≼ t) × Touched u
      touched p = (t, j, eq_le _ _ refl, (p.edge, p.below, p.on))

      -- the same parity at the begin would be inside
      inside_then : Parity (over t.den corners) (at (point_of r) (motion r k) t) 1
          → parity (flag (over s.den corners) (at (point_of r) (motion r k) s)) corners.size ≡ parity
          (flag (over t.den corners) (at (point_of r) (motion r k) t)) corners.size → Here s
      inside_then p e = inr (subst (Parity (over s.den corners) (at (point_of r) (motion r k) s)) (ap bit e ∙ sym (place_parity _ _ 1 p)) (parity_place _ _ (λ o. h (inl o))))

      crossed : Parity (over t.den corners) (at (point_of r) (motion r k) t) 1 → (u : Frac) × In span u × (u ≼ t) × Touched u
      crossed p = ⊎_elim (λ e. absurd (h (inside_then p e))) (λ x. (x.0, between span proper s x.0 t i j x.1 x.2, x.2, x.3)) (parity_or_touch (point_of r) (motion r k) s t (f t j) corners)

  later : (c : ℕ) (s : Frac) → In span s → ((t : Frac) → In span t → s ≼ t) → (Here s → ⊥) → FirstAt span Touched c → Verdict r k (answer c)
  later c s i f h (never e g) = subst (λ (n : ℕ). Verdict r k (answer n)) (sym e) (λ t m q. let x = touch_before s i f h t (in_span t m q.band) q in g x.0 x.1 x.3)
  later c s i f h (when u j q m g b) =
      mark_answers r k c b
      (marked c u j (touching u j (inl (record { edge = q.0; below = q.1; on = q.2 }))) m
      (λ t l z. let x = touch_before s i f h t l z in trans (mark (pos c)) x.0 t (g x.0 x.1 x.3) x.2))

  abbrev met : Bool
  met = on_or_inside (over span.low_d corners) (start_point (point_of r) (motion r k) span)

  pub verdict_right : Ticks r.ticks → Verdict r k (answer (code r k))
  unfolding code first_mark
  verdict_right ok = go (some span) refl
    where
      lo : Frac
      lo = begin span proper

      here : In span lo → Here lo → Verdict r k (answer (first span))
      here i h =
          let m = first_mark_lem span proper in
          mark_answers r k (first span) (below_none (first span) lo m (early ok lo i))
          (marked (first span) lo i (touching lo i h) m (λ t j c. trans (mark (pos (first span))) lo t m.low j.after))

      from : (b : Bool) → met ≡ b → In span lo → Verdict r k (answer (cond b (first span) (touches corners (point_of r) (motion r k) span corners.size)))
      from true e i = here i (met_yes _ _ e)
      from false e i = later (touches corners (point_of r) (motion r k) span corners.size) lo i (λ t j. j.after) (met_no _ _ e)
          (first_touches corners (point_of r) (motion r k) span proper (early ok) corners.size)

      go : (b : Bool) → some span ≡ b → Verdict r k (answer (cond b (cond met (first span) (touches corners (point_of r) (motion r k) span corners.size)) NONE))
      go true e = from met refl (begins span proper e)
      go false e = λ t m c. no_moment span proper e t (in_span t m c.band)
