-- `baker_check_piece` meets its contract: the piece that was made is the piece of the numbers, so what is found of the one is found of the other. Assumes nothing.
use Rattle.std.proofs.Common.{rules, ◌∙◌}
use Rattle.rules.specs.Reach.{Piece}
use Rattle.rules.specs.Good.{piece_checks}
use Rattle.refusal.specs.Said.{Finds}
use Rattle.coding.specs.Coded.{checked_code}
use Rattle.baker.proofs.Back.{coded_back}
use Rattle.baker.proofs.numbers.baker_check_piece.Goals as goal

pub returns : goal.returns
returns c =
    coded_back (λ (k : Piece). Finds (piece_checks k)) checked_code c.check_piece.result
    (c.slab_of-slab.ensures c.args.corners.now ∙ search rules) c.check_piece.ensures c.code.ensures
