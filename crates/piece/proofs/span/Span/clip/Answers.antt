-- `Span::clip` is clip: a positive slope raises, a negative one lowers, and with none the base decides. Assumes nothing.
use mathlib.Core.Path.{◌∙◌}
use native.Mathlib.Omega.{arith}
use mir.Facts.{to_z-of_z}
use Rattle.piece.specs.Seen.{span_of}
use Rattle.piece.proofs.Moving.{turned, clip_up, clip_down}
use Rattle.piece.proofs.span.Span.clip.Goals as goal

pub returns-then-b-gt0 : goal.returns-then-b-gt0
returns-then-b-gt0 c =
    let a = c.args in
    rw (to_z-of_z c.ranges.a, to_z-of_z c.ranges.b, turned a.a c.requires.base) at c.raise.ensures
    ∙ clip_up (span_of a.self) a.a a.b (rw (to_z-of_z c.ranges.b) at c.if-b-gt0.true)

pub returns-then-b-lt0 : goal.returns-then-b-lt0
returns-then-b-lt0 c =
    let a = c.args in
    rw (to_z-of_z c.ranges.a, to_z-of_z c.ranges.b, turned a.b (omega (arith, c.requires.slope))) at c.lower.ensures
    ∙ clip_down (span_of a.self) a.a a.b (rw (to_z-of_z c.ranges.b) at c.if-b-gt0.false) (rw (to_z-of_z c.ranges.b) at c.if-b-lt0.true)
