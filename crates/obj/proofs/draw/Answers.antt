-- `obj::draw` meets its contract: the refusal of the piece, then that of the list, and else the list with the corners put. Assumes nothing.
use Rattle.std.proofs.Common.{refl}
use Rattle.std.proofs.lemmas.Result.{err_from_is_err_and}
use Rattle.rules.specs.Good.{piece_checks}
use Rattle.rules.proofs.Checks.{fault_left, fault_right, passes_append}
use Rattle.good.specs.Numbers.{piece_of}
use Rattle.obj.proofs.draw.Goals as goal

pub returns-in_err-check_piece : goal.returns-in_err-check_piece
returns-in_err-check_piece c =
    let p = err_from_is_err_and c.from_residual.result c.from_residual.ensures.1 in
    rw (p.1, p.2) (fault_left (piece_checks (piece_of c.args.slab c.args.corners.now)) _ _ c.in_err-check_piece.ensures, refl)

pub returns-in_err-put : goal.returns-in_err-put
returns-in_err-put c =
    let p = err_from_is_err_and c.from_residual-in_err-put.result c.from_residual-in_err-put.ensures.1 in
    let w = c.in_err-put.ensures in
    rw (p.1, p.2) (fault_right (piece_checks (piece_of c.args.slab c.args.corners.now)) _ _ c.in_ok-check_piece.ensures w.0, w.1)

pub returns : goal.returns
returns c =
    let w = c.in_ok-put.ensures in
    (passes_append (piece_checks (piece_of c.args.slab c.args.corners.now)) _ c.in_ok-check_piece.ensures w.0, refl, w.1)
