-- `baker_room_piece` meets its contract: a piece that was found has few enough corners to be put. Assumes nothing.
use Rattle.std.proofs.Common.{suc, Option, Ok, subst}
use Rattle.seal.specs.Seal.{block_at}
use Rattle.piece_block.specs.declared.PieceRead.{PieceRead}
use Rattle.room.specs.Step.{StepFinds}
use Rattle.baker.proofs.Listed.{read_few}
use Rattle.baker.proofs.rooms.baker_room_piece.Goals as goal

pub put_piece-requires : goal.put_piece-requires
put_piece-requires c =
    let finds = StepFinds c.args.image.now c.args.place c.piece_at.result in
    let some = rw c.in-Ok-Some.is at c.in-Ok-Some.field-0-is in
    let found = subst (λ (p : Option PieceRead). finds (Ok p)) some (subst finds c.in-Ok-Some.is c.piece_at.ensures) in
    read_few (block_at c.args.image.now (suc c.args.place)) c.in-Ok-Some.piece found.good
