-- The invariant of `pair::write::lay`'s loop: the bytes of the numbers passed, and then what was there. Assumes nothing.
use Rattle.std.proofs.Common.{◌≡◌, ◌++◌, ◌*◌, take, drop}
use Rattle.pair.specs.Pair.{words}
use Rattle.pair.proofs.write.lay.Given as goal

abbrev pub invariant-loop-j : goal.invariant-loop-j
invariant-loop-j l = l.bytes ≡ words (take l.j l.numbers) ++ drop (2 * l.j) l.initial.bytes
