-- `Span::lower` keeps a span within the longest run. Assumes nothing.
use mathlib.Core.Path.{sym, ◌∙◌}
use Rattle.whole.proofs.Flag.{lt_true}
use Rattle.piece.proofs.Moving.{sooner_end}
use Rattle.piece.proofs.span.Span.lower.Goals as goal

pub invariant_of-result : goal.invariant_of-result
invariant_of-result c =
    let s = c.args.self in
    let t = c.args.t in
    record { begin = s.begin; end = sooner_end t.n t.d s.high.n s.high.d t.sized.some s.high.sized.some s.end (lt_true _ _ (sym c.is_before.ensures ∙ c.if-is_before.true)) }
