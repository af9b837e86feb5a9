-- `verdict` meets its contract: of a run and a piece that pass, the mark is the verdict. Assumes nothing.
use mathlib.Core.Path.{sym, subst}
use native.Mathlib.Omega.{arith}
use Rattle.rules.specs.Good.{run_checks, piece_checks}
use Rattle.rules.specs.Verdict.{Verdict, verdict_checks}
use Rattle.rules.proofs.Checks.{passes_append}
use Rattle.rules.proofs.Reach.{run_known, piece_known}
use Rattle.decide.proofs.Verdict.{verdict_right}
use Rattle.good.specs.Numbers.{run_of, piece_of}
use Rattle.piece.proofs.Tells.{marks_answer}
use Rattle.piece.proofs.verdict.Goals as goal

pub mark-requires : goal.mark-requires
mark-requires c = (run_known _ c.in_ok-check_run.ensures, piece_known _ c.in_ok-check_piece.ensures)

pub returns : goal.returns
unfolding verdict_checks
returns c =
    let r = run_of c.args.run in
    let k = piece_of c.args.slab c.args.corners.now in
    let h = c.in_ok-check_run.ensures in
    let g = c.in_ok-check_piece.ensures in (
      passes_append (run_checks r) (piece_checks k) h g,
      subst (Verdict r k) (sym (marks_answer _ _ c.mark.ensures)) (verdict_right r k (run_known _ h 6 (omega arith))),
    )
