-- `Moment::is_before` compares the two products, which fit. Assumes nothing.
use Rattle.piece.proofs.Moving.{cross_fits, cross_back}
use Rattle.piece.proofs.span.Moment.is_before.Goals as goal

pub overflow_mul-result : goal.overflow_mul-result
overflow_mul-result c = let s = c.args.self in let t = c.args.t in cross_fits s.n s.d t.n t.d s.sized t.sized

pub overflow_mul-result-2 : goal.overflow_mul-result-2
overflow_mul-result-2 c = let s = c.args.self in let t = c.args.t in cross_fits t.n t.d s.n s.d t.sized s.sized

pub returns : goal.returns
returns c =
    let s = c.args.self in
    let t = c.args.t in
    rw (cross_back s.n s.d t.n t.d s.sized t.sized, cross_back t.n t.d s.n s.d t.sized s.sized)
