-- `book::work` meets its contract: a verdict is kept as it is coded. Assumes nothing.
use Rattle.std.proofs.Common.{sym, subst, arith}
use Rattle.book.specs.Steps.{run_in, piece_in}
use Rattle.piece.proofs.Tells.{TellsCode, tells_code}
use Rattle.book.proofs.work.Goals as goal

pub returns : goal.returns
returns c =
    let r = run_in c.args.query in let k = piece_in c.args.query in
    let g = subst (TellsCode r k) (sym c.in_ok-code.ensures) (tells_code r k c.verdict.result c.verdict.ensures) in
    record { passes = g.passes; small = omega (arith, g.most); verdict = g.verdict; kept = c.keep.ensures }
