-- `pair::write::write_pairs` meets its contract: the length, the numbers; then all their bytes. Assumes nothing.
use Rattle.std.proofs.Common.{refl}
use mathlib.Core.Logic.{inl, inr}
use Rattle.rules.proofs.Checks.{each_fails}
use Rattle.pair.specs.Pair.{pairs_asked}
use Rattle.pair.proofs.write.write_pairs.Goals as goal

pub returns-then-bytes-numbers : goal.returns-then-bytes-numbers
unfolding pairs_asked
returns-then-bytes-numbers c = (inl (c.if-bytes-numbers.true, refl), refl)

pub returns-in-Some : goal.returns-in-Some
unfolding pairs_asked
returns-in-Some c = (inr (c.if-bytes-numbers.false, inl (each_fails _ c.in-Some.ensures)), refl)

pub returns : goal.returns
unfolding pairs_asked
returns c = ((c.if-bytes-numbers.false, (c.in_default.ensures, tt)), c.lay.ensures)
