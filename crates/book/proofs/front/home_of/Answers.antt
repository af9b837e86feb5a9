-- `book::front::home_of` meets its contract: the sum passes one byte more in each step. Assumes nothing.
use Rattle.std.proofs.Common.{◌∙◌, ◌+◌, arith}
use lib.ListN.{drop}
use lib.Seq.{get_or-take, get_or-drop}
use Rattle.seal.proofs.Bytes.{upto_none, upto_more}
use Rattle.book.proofs.front.home_of.Goals as goal

pub loop-byte-init : goal.loop-byte-init
loop-byte-init c = upto_none _ _ _

pub loop-byte-preserved : goal.loop-byte-preserved
loop-byte-preserved c =
    let v = c.loop-byte in let front = c.args.front.now in
    rw (c.from-total.ensures ∙ get_or-take 281 (drop 2 front) v.byte-index 0 (omega arith) ∙ get_or-drop 2 front v.byte-index 0)
    (upto_more _ _ _ _ _ (omega arith) (omega (arith, c.fits-front (2 + v.byte-index))) v.invariant)
