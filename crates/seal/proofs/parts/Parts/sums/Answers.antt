-- `seal::parts::Parts::sums` meets its contract: the sums of the parts are the block's. Assumes nothing.
use Rattle.std.proofs.Common.{sym}
use Rattle.seal.specs.Parts.{PartsFit}
use Rattle.seal.proofs.PartLaws.{plain_parts, weighed_parts}
use Rattle.seal.proofs.parts.Parts.sums.Goals as goal

pub returns : goal.returns
returns c =
    let a = c.args.self in let p = c.at-head in let q = c.at-tail in
    let f : PartsFit a.first.now a.last.now a.at = record { begin = a.begin; end = a.end } in (
      sym (plain_parts a.first.now a.last.now a.at f p.result.plain p.result.weighed q.result.plain q.result.weighed p.ensures q.ensures),
      sym (weighed_parts a.first.now a.last.now a.at f p.result.plain p.result.weighed q.result.plain q.result.weighed p.ensures q.ensures),
    )
