-- `Motion::touch` is touch: both ends on one side, a moment on the edge, or none, case by case. Assumes nothing.
use mathlib.Core.Path.{◌≡◌, sym, ap, ◌∙◌}
use mir.Facts.{to_z-of_z}
use Rattle.decide.specs.Span as decide
use Rattle.decide.specs.Touch.{across, same_side}
use Rattle.piece.specs.Seen.{pt_of, span_of}
use Rattle.piece.proofs.Moving.{small_of, mark_below}
use Rattle.piece.proofs.Touch.{touch_aside, touch_some, touch_none}
use Rattle.piece.proofs.motion.Motion.touch.Goals as goal
use Rattle.piece.proofs.motion.Motion.touch.Goals.{After-same_side}

-- the test of the two sides
aside : (c : After-same_side) → c.same_side.result ≡ same_side
    (across (pt_of c.args.self.start) (pt_of c.args.self.speed) (pt_of c.args.e.from))
    (across (pt_of c.args.self.start) (pt_of c.args.self.speed) (pt_of c.args.e.to))
aside c = rw (to_z-of_z c.ranges.c, to_z-of_z c.ranges.d, c.requires.0, c.requires.1) at c.same_side.ensures

pub returns-then-same_side : goal.returns-then-same_side
returns-then-same_side c = touch_aside _ _ (span_of c.args.s) _ _ (sym (aside (goal.at.returns-then-same_side c).After-same_side) ∙ c.if-same_side.true)

pub returns-then-some : goal.returns-then-some
returns-then-some c =
    let t = c.on_edge-t.result in
    let e = sym c.some.ensures ∙ c.if-some.true in (
      touch_some _ _ _ _ _ (sym (aside (goal.at.returns-then-some c).After-same_side) ∙ c.if-same_side.false) (sym (ap decide.some c.on_edge-t.ensures) ∙ e)
          ∙ sym (c.first.ensures ∙ ap decide.first c.on_edge-t.ensures),
      rw c.first.ensures (mark_below (span_of t) (small_of t) e),
    )

pub returns-else-some : goal.returns-else-some
returns-else-some c =
    touch_none _ _ _ _ _ (sym (aside (goal.at.returns-else-some c).After-same_side) ∙ c.if-same_side.false)
    (sym (ap decide.some c.on_edge-t.ensures) ∙ (sym c.some.ensures ∙ c.if-some.false))
