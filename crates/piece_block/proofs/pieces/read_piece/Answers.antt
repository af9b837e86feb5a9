-- `piece_block::pieces::read_piece` meets its contract: the block holds the piece that was read. Assumes nothing.
use Rattle.std.proofs.lemmas.Result.{err_from_is_err_and}
use Rattle.piece_block.proofs.PieceLaws.{inside_fault, said_piece, piece_in, piece_holds}
use Rattle.piece_block.proofs.pieces.read_piece.Goals as goal

pub returns-in_err-check_piece : goal.returns-in_err-check_piece
returns-in_err-check_piece c =
    let e = err_from_is_err_and c.from_residual-in_err-check_piece.result c.from_residual-in_err-check_piece.ensures.1 in
    let l = c.args.block.now in let k = c.piece_at-piece in let p = c.in_ok-check_kind.ensures in
    rw (e.1, e.2) (inside_fault l (said_piece k.result) _ p (piece_in l k.result c.type_inv.block p k.ensures) c.in_err-check_piece.ensures)

pub returns : goal.returns
returns c =
    let l = c.args.block.now in let k = c.piece_at-piece in let p = c.in_ok-check_kind.ensures in
    record {
      piece = said_piece k.result;
      good = c.in_ok-check_piece.ensures;
      same = (piece_in l k.result c.type_inv.block p k.ensures).same;
      holds = piece_holds l k.result c.type_inv.block p k.ensures;
    }
