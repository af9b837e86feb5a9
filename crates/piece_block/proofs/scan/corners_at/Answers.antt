-- `piece_block::scan::corners_at` meets its contract: the numbers that were read stand first, and zeros stay after them. Assumes nothing.
use Rattle.std.proofs.Common.{◌≡◌, ◌∙◌, ◌+◌, ◌*◌, ◌-◌, arith, take, drop}
use lib.Seq.{length-take-le}
use Rattle.pair.proofs.Caller.{pairs_read}
use Rattle.seal.proofs.Replaced.{part_length}
use Rattle.piece_block.proofs.CornerLaws.{zeros, corners_read}
use Rattle.piece_block.proofs.scan.corners_at.Goals as goal

pub returns : goal.returns
returns c =
    let l = c.args.block.now in let n = c.args.n in let zs = c.read_pairs.new.numbers in
    let m = 12 + 2 * n - 12 in let e : m ≡ 2 * n = omega arith in
    let long = part_length l 12 m (omega arith) ∙ e in let few = length-take-le n zeros (omega arith) in
    corners_read l n m c.requires (omega arith) e zs
    (pairs_read (take m (drop 12 l)) (take n zeros) zs c.read_pairs.result c.read_pairs.ensures (omega (arith, long, few))).1
