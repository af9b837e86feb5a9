-- `baker_read_piece` meets its contract: a refusal is coded and changes nothing, and a piece that was read has few enough corners to be put. Assumes nothing.
use Rattle.baker.proofs.Listed.{read_few}
use Rattle.baker.proofs.blocks.baker_read_piece.Goals as goal

pub put_piece-requires : goal.put_piece-requires
put_piece-requires c = read_few c.args.block.now c.in-Ok.piece c.in-Ok.ensures
