-- `checks::settle` finds what the checks say: same, fold, meeting and area, each where those before it found nothing. Assumes nothing.
use Rattle.std.specs.Prelude.{Option, Some, None}
use Rattle.std.proofs.Common.{◌≡◌, List, ℕ, ℤ, pos, w64, subst, arith}
use Rattle.whole.proofs.Flag.{le_true, le_false}
use Rattle.whole.proofs.Range.{field}
use Rattle.rules.specs.Ring.{ring}
use Rattle.rules.specs.Refusal.{Sought}
use Rattle.rules.specs.Good.{Same}
use Rattle.footprint.specs.Shape.{Bend, Draws}
use Rattle.footprint.specs.declared.checks.Drawing.{Drawing}
use Rattle.footprint.proofs.Finds.{found_same, found_fold, found_meet, found_clockwise, found_good}
use Rattle.footprint.proofs.Outline.{corners_within}
use Rattle.footprint.proofs.checks.settle.Goals as goal

-- what a drawing says, where its answer is known
module _ (l : List ℤ) (d : Drawing) (p : Draws l d) (o : Option ℕ) where
  same : d.same ≡ o → Sought (Same (ring l)) (ring l).size o
  same e = subst (Sought (Same (ring l)) (ring l).size) e p.same

  fold : d.fold ≡ o → Sought (Bend (ring l)) (ring l).size o
  fold e = subst (Sought (Bend (ring l)) (ring l).size) e p.fold

pub returns-in-Some : goal.returns-in-Some
returns-in-Some c = let p = c.requires in found_same _ p.0.0 c.in-Some.i (same _ _ p.1 (Some c.in-Some.i) c.in-Some.is)

pub returns-in-Some-fold : goal.returns-in-Some-fold
returns-in-Some-fold c =
    let p = c.requires in
    found_fold _ p.0.0 (same _ _ p.1 None c.in_default.is) c.in-Some-fold.i (fold _ _ p.1 (Some c.in-Some-fold.i) c.in-Some-fold.is)

pub first_meet-requires : goal.first_meet-requires
first_meet-requires c = corners_within c.args.corners.holds c.requires.0.0

pub returns-in-Some-first_meet : goal.returns-in-Some-first_meet
returns-in-Some-first_meet c =
    let p = c.requires in
    let m = c.in-Some-first_meet in
    found_meet _ p.0.0 (same _ _ p.1 None c.in_default.is) (fold _ _ p.1 None c.in_default-fold.is) m.i m.j m.ensures

pub returns-then-drawing-le0 : goal.returns-then-drawing-le0
returns-then-drawing-le0 c =
    let p = c.requires in
    let a = c.args.drawing.area in
    let less = le_true a (pos 0) (rw (field w64 a (omega arith)) at c.if-drawing-le0.true) in
    found_clockwise _ p.0.0 (same _ _ p.1 None c.in_default.is) (fold _ _ p.1 None c.in_default-fold.is) c.in_default-first_meet.ensures (rw p.1.area at less)

pub returns : goal.returns
returns c =
    let p = c.requires in
    let a = c.args.drawing.area in
    let more = le_false a (pos 0) (rw (field w64 a (omega arith)) at c.if-drawing-le0.false) in
    found_good _ p.0.0 (same _ _ p.1 None c.in_default.is) (fold _ _ p.1 None c.in_default-fold.is) c.in_default-first_meet.ensures (rw p.1.area at more)
