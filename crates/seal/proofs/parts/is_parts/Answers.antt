-- `seal::parts::is_parts` decides: the lengths, the first 510 bytes, and the check; together they are the block. Assumes nothing.
use Rattle.std.proofs.Common.{◌≡◌, ap, ◌∙◌, arith, length}
use Rattle.seal.specs.Seal.{block_size}
use Rattle.seal.specs.Parts.{PartsIn}
use Rattle.seal.proofs.Bytes.{block_length, sealed_by}
use Rattle.seal.proofs.PartLaws.{both_few, made_by, made_alike}
use Rattle.seal.proofs.parts.is_parts.Goals as goal

pub returns-in_default : goal.returns-in_default
returns-in_default c p = let a = c.args in c.in_default.ensures.cases (ap length p.same ∙ block_length _ (both_few a.first.now a.last.now a.at p.fit))

pub returns-then-hold : goal.returns-then-hold
returns-then-hold c =
    let p = c.in-Ok.parts in let e = c.in-Ok.ensures in let b = c.in-Some.block.now in
    let same : b ≡ c.args.block.now = grind arith in let long : length b ≡ block_size = grind arith in
    let d = made_by p.first.now p.last.now p.at (record { begin = p.begin; end = p.end }) b long c.if-hold.ensures _ (sealed_by _ b _ _ _ _ c.told.ensures c.sums.ensures) in
    rw c.eq.ensures (rw (e.0, e.1, e.2, same) at d)

pub returns-else-hold : goal.returns-else-hold
returns-else-hold c =
    let p = c.in-Ok.parts in let e = c.in-Ok.ensures in let b = c.in-Some.block.now in let same : b ≡ c.args.block.now = grind arith in
    let d : PartsIn p.first.now p.last.now p.at b → ⊥ = λ q. c.if-hold.ensures (made_alike p.first.now p.last.now p.at q.fit b q.same) in
    rw c.if-hold.false (rw (e.0, e.1, e.2, same) at d)
