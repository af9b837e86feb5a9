-- `extent::fill` makes the table: the boxes of the edges passed stand. Assumes nothing.
use Rattle.std.proofs.Common.{◌≡◌, length}
use Rattle.rules.specs.Ring.{ring}
use Rattle.footprint.specs.Table.{AllBoxed}
use Rattle.footprint.proofs.extent.fill.Given as goal

abbrev pub invariant-loop-i : goal.invariant-loop-i
invariant-loop-i l = record { boxed : AllBoxed (ring l.corners.list.now) l.t l.i; size : length l.t ≡ 64 }
