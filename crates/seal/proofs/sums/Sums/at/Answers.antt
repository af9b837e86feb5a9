-- `seal::sums::Sums::at` meets its contract: both sums over the bytes passed, each at most what so many bytes can come to. Assumes nothing.
use Rattle.std.proofs.Common.{◌+◌, arith}
use Rattle.seal.specs.Seal.{byte}
use Rattle.seal.proofs.Bytes.{upto_none, upto_more}
use Rattle.seal.proofs.Pairs.{byte_weight_most}
use Rattle.seal.proofs.sums.Sums.at.Goals as goal

pub loop-i-init : goal.loop-i-init
loop-i-init c = (upto_none _ _ _, upto_none _ _ _)

pub loop-i-preserved : goal.loop-i-preserved
loop-i-preserved c =
    let v = c.loop-i in let g = c.type_inv.bytes v.i in
    (upto_more _ _ _ _ _ (omega arith) (omega (arith, g)) v.invariant.0, upto_more _ _ _ _ _ (omega arith) (byte_weight_most (c.args.at + v.i) (byte c.args.bytes.now v.i) g) v.invariant.1)
