-- `piece_block::scan::slab_at` meets its contract: the numbers stand in a part of the block. Assumes nothing.
use Rattle.std.proofs.Common.{ℕ, ◌+◌, ◌*◌, ◌<◌, arith, get_or, take, drop, replicate}
use lib.IntN.{pos}
use mir.Syntax.{w32}
use mir.Val.{to_z, of_z}
use Rattle.pair.proofs.Caller.{pairs_read}
use Rattle.seal.proofs.Replaced.{part_length}
use Rattle.block.specs.Scan.{NumberAt}
use Rattle.block.proofs.Laid.{part_local}
use Rattle.piece_block.proofs.scan.slab_at.Goals as goal

pub returns : goal.returns
returns c =
    let l = c.args.block.now in let zs = c.read_pairs.new.numbers in
    let read = (pairs_read (take 10 (drop 2 l)) (replicate 5 (pos 0)) zs c.read_pairs.result c.read_pairs.ensures (part_length l 2 10 (omega arith))).1 in
    let at : (j : ℕ) → 2 * j + 1 < 10 → NumberAt l (0 + j) (to_z w32 (of_z w32 (get_or zs j (pos 0)))) = part_local l 0 10 zs read in
    record { bottom = at 0 (omega arith); top = at 1 (omega arith); vx = at 2 (omega arith); vy = at 3 (omega arith); vz = at 4 (omega arith) }
