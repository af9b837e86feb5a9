-- `room::pass::code_of` meets its contract: piece i stands in block i + 1, and its verdict is coded. Assumes nothing.
use Rattle.std.proofs.Common.{List, ℕ, sym, subst}
use Rattle.good.specs.Numbers.{run_of}
use Rattle.piece_block.specs.Verdicts.{VerdictInSays}
use Rattle.room.specs.Codes.{CodeFound}
use Rattle.room.proofs.Coding.{code_found}
use Rattle.room.proofs.pass.code_of.Goals as goal

pub returns : goal.returns
returns c =
    let r = run_of c.args.run in let image = c.args.image.now in let i = c.args.i in let v = c.verdict_in.result in
    let told = subst (λ (l : List ℕ). VerdictInSays r l v) c.block_of.ensures c.verdict_in.ensures in
    subst (CodeFound r image i) (sym c.coded.ensures) (code_found r image i c.requires.0 c.requires.1 v told)
