-- `pair::read::take` meets its contract: the loop went to the end, so all the numbers are those of their bytes. Assumes nothing.
use Rattle.std.proofs.Common.{◌≡◌, ◌*◌, arith, length}
use Rattle.pair.proofs.Laid.{all_read}
use Rattle.pair.proofs.read.take.Goals as goal

pub returns : goal.returns
returns c =
    let v = c.loop-j in let l = c.args.bytes.now in
    let long : length l ≡ 2 * length v.numbers = omega (arith, v.auto.numbers, c.requires) in
    all_read l v.numbers long (λ i. omega (arith, c.type_inv.bytes i)) (λ j h. v.invariant j (omega arith))
