-- `seal::parts::Parts::hold` decides: each part stands in its place, with zeros after it. Assumes nothing.
use Rattle.std.proofs.Common.{arith}
use Rattle.whole.proofs.Decide.{yes, no, decide_by}
use Rattle.seal.specs.Parts.{PartsFit}
use Rattle.seal.proofs.PartLaws.{held_first, held_last, held}
use Rattle.seal.proofs.parts.Parts.hold.Goals as goal

pub returns-then-padded : goal.returns-then-padded
returns-then-padded c =
    let a = c.args.self in let b = c.args.block.now in let w = c.padded-then-padded in
    let f : PartsFit a.first.now a.last.now a.at = record { begin = a.begin; end = a.end } in
    decide_by _ w.result (λ e. held a.first.now a.last.now a.at f b (omega arith) c.if-padded.ensures (yes _ w.result w.ensures e))
    (λ e g. no _ w.result w.ensures e (held_last a.first.now a.last.now a.at f b (omega arith) g))

pub returns-else-padded : goal.returns-else-padded
returns-else-padded c =
    let a = c.args.self in
    rw c.if-padded.false (λ g. c.if-padded.ensures (held_first a.first.now a.last.now a.at (record { begin = a.begin; end = a.end }) c.args.block.now (omega arith) g))
