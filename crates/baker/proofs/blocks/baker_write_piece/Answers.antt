-- `baker_write_piece` meets its contract: the piece that was made is the piece of the numbers, so the block of the one is that of the other. Assumes nothing.
use Rattle.std.proofs.Common.{rules, ◌∙◌}
use Rattle.rules.specs.Reach.{Piece}
use Rattle.piece_block.specs.Reading.{WritePieceSays}
use Rattle.coding.specs.Coded.{checked_code}
use Rattle.baker.proofs.Back.{coded_back}
use Rattle.baker.proofs.blocks.baker_write_piece.Goals as goal

pub returns : goal.returns
returns c =
    coded_back (λ (k : Piece). WritePieceSays k c.args.block.now c.write_piece.new.block) checked_code c.write_piece.result
    (c.slab_of-slab.ensures c.args.corners.now ∙ search rules) c.write_piece.ensures c.code.ensures
