-- `spot::place_at` computes the place: each turn's edge has the corners it should, an edge that has the point on it ends the pass, and the parity decides at its end. Assumes nothing.
use mathlib.Core.Path.{◌≡◌, sym, ap, ◌∙◌}
use mathlib.Core.Bool.{Bool}
use Prim.Native.Nat.{ℕ, ◌<◌}
use native.Mathlib.Numerals.{add-one}
use mir.Facts.{to_z-of_z}
use Rattle.rules.specs.Ring.{Pt, Ring, ring, times, from, to}
use Rattle.rules.proofs.Ring.{next_inner}
use Rattle.decide.specs.Touch.{is_on, over}
use Rattle.decide.specs.Crossing.{crosses}
use Rattle.piece.specs.Seen.{pt_of}
use Rattle.piece.proofs.Steps.{word, close_after}
use Rattle.piece.proofs.Scan.{scan_none, scan_step, scan_done, on_place, in_place, out_place, differ}
use Rattle.piece.proofs.spot.place_at.Goals as goal
use Rattle.piece.proofs.spot.place_at.Goals.{After-is_on}

same : (f : Pt → Pt → Bool) (a b p q : Pt) → a ≡ p → b ≡ q → f a b ≡ f p q
same f a b p q e g = rw (e, g)

-- the edge of a turn
module _ (c : After-is_on) where
  abbrev R : Ring
  R = over (word c.args.d) (ring c.args.l.list.now)

  abbrev p : Pt
  p = pt_of c.args.p

  abbrev i : ℕ
  i = c.loop-i.i

  below : i < R.size
  below = rw c.count-i-end.ensures at c.loop-i-test.true

  first : pt_of c.loop-i.a ≡ from R i
  first = c.loop-i.invariant.here below

  second : pt_of c.times-b.result ≡ to R i
  second = c.times-b.ensures ∙ ap (times (word c.args.d)) c.after.ensures

  on : c.is_on.result ≡ is_on p (from R i) (to R i)
  on = c.is_on.ensures ∙ same (is_on p) _ _ _ _ first second

  counted : (t : Bool) → t ≡ crosses (pt_of c.loop-i.a) (pt_of c.times-b.result) p → t ≡ crosses (from R i) (to R i) p
  counted t e = e ∙ same (λ (a b : Pt). crosses a b p) _ _ _ _ first second

pub loop-i-init : goal.loop-i-init
loop-i-init c = record { scan = scan_none _ _ _; here = λ h. c.times-a.ensures ∙ ap (times (word c.args.d)) c.at.ensures }

pub times-b-requires : goal.times-b-requires
times-b-requires c =
    (rw (to_z-of_z c.ranges.d) c.requires, close_after c.args.l.list.now c.args.l.held _ c.loop-i.i (rw c.count-i-end.ensures at c.loop-i-test.true) c.after.ensures)

pub returns-then-is_on : goal.returns-then-is_on
returns-then-is_on c =
    let k = (goal.at.returns-then-is_on c).After-is_on in
    rw (← (to_z-of_z c.ranges.d)) (on_place (R k) (p k) (i k) (below k) (sym (on k) ∙ c.if-is_on.true))

pub loop-i-preserved : goal.loop-i-preserved
loop-i-preserved c =
    let k = (goal.at.loop-i-preserved c).After-is_on in
    record {
      scan = rw (differ c.loop-i.odd c.is_counted-odd.result, counted k _ c.is_counted-odd.ensures) (scan_step _ _ _ _ _ (below k) c.loop-i.invariant.scan (sym (on k) ∙ c.if-is_on.false));
      here = λ h. rw (add-one c.loop-i.i) (second k ∙ ap (λ (j : ℕ). (R k).at j) (next_inner _ _ (rw (add-one c.loop-i.i) at h)));
    }

pub returns-then-odd : goal.returns-then-odd
returns-then-odd c =
    let n = rw c.count-i-end.ensures at c.loop-i-test.false in
    rw (← (to_z-of_z c.ranges.d)) (in_place _ _ (rw c.if-odd.true at (scan_done _ _ _ _ _ n c.loop-i.invariant.scan)))

pub returns-else-odd : goal.returns-else-odd
returns-else-odd c =
    let n = rw c.count-i-end.ensures at c.loop-i-test.false in
    rw (← (to_z-of_z c.ranges.d)) (out_place _ _ (rw c.if-odd.false at (scan_done _ _ _ _ _ n c.loop-i.invariant.scan)))
