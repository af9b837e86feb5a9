-- `Motion::first_mark` is first_mark: no moment, a contact as the span begins, or the first touch of an edge. Assumes nothing.
use mathlib.Core.Path.{sym, ap, subst, ◌∙◌}
use Rattle.rules.specs.Ring.{ring}
use Rattle.decide.specs.Touch.{contact}
use Rattle.piece.specs.Seen.{pt_of, span_of}
use Rattle.piece.specs.Tells.{Marks}
use Rattle.piece.proofs.Moving.{small_of, mark_below}
use Rattle.piece.proofs.Touch.{first_mark_none, first_mark_here, first_mark_later}
use Rattle.piece.proofs.motion.Motion.first_mark.Goals as goal

pub returns-then-not-some : goal.returns-then-not-some
returns-then-not-some c = first_mark_none _ _ _ _ (sym c.some.ensures ∙ c.if-not-some.true)

pub returns-then-is_contact : goal.returns-then-is_contact
returns-then-is_contact c =
    let s = c.args.s in
    let e = sym c.some.ensures ∙ c.if-not-some.false in (
      first_mark_here _ _ _ _ e (sym (c.is_contact.ensures ∙ ap contact c.begins.ensures) ∙ c.if-is_contact.true) ∙ sym c.first.ensures,
      rw c.first.ensures (mark_below (span_of s) (small_of s) e),
    )

pub returns-else-is_contact : goal.returns-else-is_contact
returns-else-is_contact c =
    let e = sym c.some.ensures ∙ c.if-not-some.false in
    let m = c.args.self in
    subst (Marks c.touches.result)
    (sym (first_mark_later (ring c.args.l.list.now) (pt_of m.start) (pt_of m.speed) (span_of c.args.s) e (sym (c.is_contact.ensures ∙ ap contact c.begins.ensures) ∙ c.if-is_contact.false)))
    c.touches.ensures
