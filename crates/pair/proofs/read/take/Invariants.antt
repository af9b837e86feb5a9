-- The invariant of `pair::read::take`'s loop: the numbers passed are those of their two bytes. Assumes nothing.
use Rattle.pair.proofs.Laid.{Read}
use Rattle.pair.proofs.read.take.Given as goal

abbrev pub invariant-loop-j : goal.invariant-loop-j
invariant-loop-j l = Read l.bytes l.j l.numbers
