-- The invariant of `seal::sums::Sums::of`'s loop: both sums over the pairs of bytes passed, each at most what so many can come to. Assumes nothing.
use Rattle.std.proofs.Common.{◌-◌, ◌*◌}
use Rattle.seal.proofs.Bytes.{Upto}
use Rattle.seal.proofs.Pairs.{both}
use Rattle.seal.proofs.sums.Sums.of.Given as goal

abbrev pub invariant-loop-i : goal.invariant-loop-i
invariant-loop-i l = Upto (λ j. both l.block j) 510 255 l.i l.plain × Upto (λ j. (255 - j) * both l.block j) 130050 255 l.i l.weighed
