-- One turn of `extent::fill` boxes one edge more. Assumes nothing.
use mathlib.Core.Path.{ap, ◌∙◌}
use lib.ListN.{length-set}
use native.Mathlib.Omega.{arith}
use Rattle.rules.specs.Ring.{ring}
use Rattle.footprint.specs.Point.{pt}
use Rattle.footprint.proofs.Table.{boxed_more}
use Rattle.footprint.proofs.extent.fill.Goals as goal

pub loop-i-preserved : goal.loop-i-preserved
loop-i-preserved c =
    let r = ring c.args.corners.list.now in
    let m = c.args.corners.holds.corners.most in
    let v = c.loop-i.invariant in
    let e = c.at-in-loop-i.ensures ∙ ap r.at c.after.ensures.next in
    record {
      boxed = boxed_more r c.loop-i.t c.loop-i.i c.extent_of.result (pt c.at.result) (pt c.at-in-loop-i.result) (omega arith) v.boxed c.extent_of.ensures c.at.ensures e;
      size = length-set _ _ _ ∙ v.size;
    }
