-- `room::image::block_of` meets its contract: piece i stands in block i + 1. Assumes nothing.
use Rattle.std.proofs.Common.{arith}
use Rattle.room.proofs.Images.{part_is, has_long}
use Rattle.room.proofs.image.block_of.Goals as goal

pub slice_bounds-result-end : goal.slice_bounds-result-end
slice_bounds-result-end c = let h = has_long _ _ c.requires in omega arith

pub returns : goal.returns
returns c = part_is c.args.image.now c.args.i
