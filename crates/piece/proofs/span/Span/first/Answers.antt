-- `Span::first` is first: the mark is not negative and fits its word, so that the cast keeps it. Assumes nothing.
use mathlib.Core.Path.{◌≡◌}
use native.Mathlib.Omega.{arith}
use lib.IntN.{pos, ◌*ℤ◌}
use lib.Signed.{quot_z}
use mir.Syntax.{w64}
use Rattle.whole.proofs.Range.{read}
use Rattle.piece.specs.Seen.{span_of}
use Rattle.piece.proofs.Steps.{word}
use Rattle.piece.proofs.Moving.{small_of, mark_sign, mark_most}
use Rattle.piece.proofs.span.Span.first.Goals as goal

pub overflow_cast-result : goal.overflow_cast-result
overflow_cast-result c =
    let s = span_of c.args.self in
    let k = small_of c.args.self in
    let m = mark_most s k c.requires in
    let e : word c.mark.result ≡ quot_z (pos 256 *ℤ s.low_n) s.low_d = read w64 c.mark.type_inv c.mark.ensures in
    rw e (mark_sign s k c.requires, record { fits = omega (arith, m) })
