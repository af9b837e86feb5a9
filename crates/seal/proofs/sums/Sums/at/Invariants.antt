-- The invariant of `seal::sums::Sums::at`'s loop: both sums over the bytes passed, each at most what so many bytes can come to. Assumes nothing.
use Rattle.std.proofs.Common.{length, ◌-◌, ◌+◌, ◌*◌}
use Rattle.seal.specs.Seal.{body_size, byte}
use Rattle.seal.proofs.Bytes.{Upto}
use Rattle.seal.proofs.sums.Sums.at.Given as goal

abbrev pub invariant-loop-i : goal.invariant-loop-i
invariant-loop-i l = Upto (λ j. byte l.bytes j) 255 (length l.bytes) l.i l.plain × Upto (λ j. (body_size - (l.at + j)) * byte l.bytes j) 130050 (length l.bytes) l.i l.weighed
