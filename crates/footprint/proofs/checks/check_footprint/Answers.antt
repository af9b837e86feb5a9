-- `checks::check_footprint` finds what the checks say: the count is the first of them, and `check_shape` finds the others. Assumes nothing.
use Rattle.std.proofs.Common.{inl, refl}
use Rattle.rules.specs.Good.{sized_check, footprint_checks}
use Rattle.footprint.proofs.Finds.{footprint_finds}
use Rattle.footprint.proofs.checks.check_footprint.Goals as goal

pub returns-then-not-sized : goal.returns-then-not-sized
unfolding footprint_checks sized_check
returns-then-not-sized c = inl (c.if-not-sized.ensures, refl)

pub returns : goal.returns
returns c = footprint_finds c.args.l.now c.check_shape.result c.if-not-sized.ensures c.check_shape.ensures
