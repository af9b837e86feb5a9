-- `block::header::write_header` meets its contract: the length and the count, then six bytes as the first part of a block whose second is empty. Assumes nothing.
use Rattle.std.proofs.Common.{refl, arith}
use Rattle.seal.proofs.PartLaws.{front_writes}
use Rattle.block.specs.Layout.{header_front, header_block}
use Rattle.block.specs.Reading.{header_asked}
use Rattle.block.proofs.header.write_header.Goals as goal

pub returns : goal.returns
unfolding header_asked header_block
returns c =
    let a = c.args in let n = c.if-block-ne-SIZE.false in let w = c.write_parts in
    front_writes (header_front a.pieces) 6 (omega arith) (omega arith) (header_asked a.block.now a.pieces) (header_front a.pieces) a.block.now w.new.block w.result refl
    n (n, (c.if-pieces-gt-MOST.false, tt)) w.ensures
