-- `seal::fill::clear` returns the list with zeros in the place of its last bytes. Assumes nothing.
use Rattle.std.proofs.Common.{refl, arith}
use Rattle.seal.proofs.Cleared.{cleared_is, refilled}
use Rattle.seal.proofs.fill.clear.Goals as goal

pub returns-then-from-bytes : goal.returns-then-from-bytes
returns-then-from-bytes c = let a = c.args in refilled a.from a.bytes.now c.fill.new.self (omega arith) (c.fill.ensures.after (λ y h. h))

pub returns-else-from-bytes : goal.returns-else-from-bytes
returns-else-from-bytes c = let a = c.args in cleared_is a.from a.bytes.now a.bytes.now refl (λ i h. refl) (λ i g h. absurd (omega arith))
