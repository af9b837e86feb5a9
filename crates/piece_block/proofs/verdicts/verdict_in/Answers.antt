-- `piece_block::verdicts::verdict_in` meets its contract: the block's length, then the run, and then the rest of the block, whose piece is judged. Assumes nothing.
use mathlib.Core.Path.{subst, sym}
use Rattle.good.specs.Numbers.{run_of}
use Rattle.piece_block.specs.Verdicts.{VerdictInSays}
use Rattle.piece_block.proofs.PieceLaws.{said_piece, piece_in}
use Rattle.piece_block.proofs.VerdictLaws.{length_refused, late_refused, block_says}
use Rattle.piece_block.proofs.verdicts.verdict_in.Goals as goal

pub returns-then-block-ne-SIZE : goal.returns-then-block-ne-SIZE
returns-then-block-ne-SIZE c = length_refused (run_of c.args.run) c.args.block.now c.if-block-ne-SIZE.true

pub returns-in-Ok : goal.returns-in-Ok
returns-in-Ok c =
    let l = c.args.block.now in let k = c.piece_at-piece in let p = c.in-Ok.ensures in
    block_says (run_of c.args.run) l p (said_piece k.result) (piece_in l k.result c.type_inv.block p k.ensures) c.verdict.result c.verdict.ensures

pub returns-in-Err : goal.returns-in-Err
returns-in-Err c =
    let r = run_of c.args.run in let l = c.args.block.now in
    subst (VerdictInSays r l) (sym c.and.ensures) (late_refused r l c.if-block-ne-SIZE.false c.in-Err.x c.check_run.result c.check_run.ensures c.in-Err.ensures)
