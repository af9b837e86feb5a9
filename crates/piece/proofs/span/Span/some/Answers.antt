-- `Span::some` is some: both products fit, so that the words compare as the numbers do. Assumes nothing.
use Rattle.piece.proofs.Moving.{cross_fits, cross_back}
use Rattle.piece.proofs.span.Span.some.Goals as goal

pub overflow_mul-result : goal.overflow_mul-result
overflow_mul-result c = let s = c.args.self.low in let t = c.args.self.high in cross_fits s.n s.d t.n t.d s.sized t.sized

pub overflow_mul-result-2 : goal.overflow_mul-result-2
overflow_mul-result-2 c = let s = c.args.self.low in let t = c.args.self.high in cross_fits t.n t.d s.n s.d t.sized s.sized

pub returns : goal.returns
returns c =
    let s = c.args.self.low in
    let t = c.args.self.high in
    rw (cross_back s.n s.d t.n t.d s.sized t.sized, cross_back t.n t.d s.n s.d t.sized s.sized)
