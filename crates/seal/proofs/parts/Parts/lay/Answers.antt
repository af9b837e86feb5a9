-- `seal::parts::Parts::lay` meets its contract: zeros throughout, then the first part over them, then the other in its place. Assumes nothing.
use Rattle.std.proofs.Common.{arith}
use Rattle.seal.proofs.PartLaws.{parts_alike}
use Rattle.seal.proofs.parts.Parts.lay.Goals as goal

pub returns : goal.returns
returns c =
    let a = c.args.self in
    parts_alike a.first.now a.last.now a.at (record { begin = a.begin; end = a.end }) _ c.requires c.fill.new.self c.copy_from_slice.new.self c.copy_from_slice-2.new.self _
    (c.fill.ensures.after (λ y h. h)) c.copy_from_slice.ensures.after c.copy_from_slice-2.ensures.after (omega arith)
