-- The invariant of `book::front::home_of`'s loop: the sum of the bytes passed, at most what so many bytes can come to. Assumes nothing.
use Rattle.std.proofs.Common.{◌+◌}
use Rattle.seal.specs.Seal.{byte}
use Rattle.seal.proofs.Bytes.{Upto}
use Rattle.book.specs.Entry.{key_length}
use Rattle.book.proofs.front.home_of.Given as goal

abbrev pub invariant-loop-byte : goal.invariant-loop-byte
invariant-loop-byte l = Upto (λ j. byte l.front (2 + j)) 255 key_length l.byte-index l.total
