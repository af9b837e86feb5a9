-- `seal::sums::Sums::of` meets its contract: both sums over the pairs of bytes passed are the block's. Assumes nothing.
use Rattle.std.proofs.Common.{rules, ◌+◌, arith}
use mir.Syntax.{w8}
use mir.Val.{Fits}
use Rattle.seal.specs.Seal.{byte}
use Rattle.seal.proofs.Bytes.{upto_none, upto_more, upto_all}
use Rattle.seal.proofs.Pairs.{weight_most, ended}
use Rattle.seal.proofs.sums.Sums.of.Goals as goal

pub loop-i-init : goal.loop-i-init
loop-i-init c = (upto_none _ _ _, upto_none _ _ _)

pub loop-i-preserved : goal.loop-i-preserved
loop-i-preserved c =
    let l = c.args.block.now in let v = c.loop-i in let a : Fits w8 (byte l v.i) = search rules in let b : Fits w8 (byte l (255 + v.i)) = search rules in
    (upto_more _ _ _ _ _ (omega arith) (omega (arith, a, b)) v.invariant.0, upto_more _ _ _ _ _ (omega arith) (weight_most v.i (byte l v.i) (byte l (255 + v.i)) a b) v.invariant.1)

pub returns : goal.returns
returns c = let v = c.loop-i in ended _ _ _ (upto_all _ _ _ _ _ (omega arith) v.invariant.0).is (upto_all _ _ _ _ _ (omega arith) v.invariant.1).is
