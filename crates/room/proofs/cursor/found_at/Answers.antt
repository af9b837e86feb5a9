-- `room::cursor::found_at` meets its contract: the head, then the piece of a place below the count. Assumes nothing.
use Rattle.std.proofs.Common.{List, ℕ, suc, refl, subst, arith}
use Rattle.std.proofs.lemmas.Result.{err_from_is_err_and}
use Rattle.piece_block.specs.Reading.{PieceSays}
use Rattle.seal.specs.Seal.{block_at}
use Rattle.room.proofs.Steps.{block_fault}
use Rattle.room.proofs.cursor.found_at.Goals as goal

pub returns-in_err-piece : goal.returns-in_err-piece
returns-in_err-piece c =
    let image = c.args.image.now in let place = c.args.place in let n = c.in_ok-count.ensures in let told = c.in_err-piece.ensures in
    let says = subst (λ (l : List ℕ). PieceSays l c.read_piece.result) c.block_of.ensures c.read_piece.ensures in
    let p = err_from_is_err_and c.from_residual-in_err-piece.result c.from_residual-in_err-piece.ensures.1 in
    rw (p.1, p.2) (record {
      fault = block_fault image place (record { head = n.passes; below = omega (arith, n.pieces) }) _ told.1 (subst (PieceSays (block_at image (suc place))) told.0 says);
      next = refl;
    })
