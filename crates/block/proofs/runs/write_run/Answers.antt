-- `block::runs::write_run` meets its contract: two bytes, and then the run's. Assumes nothing.
use Rattle.std.proofs.Common.{ap, ◌∙◌, List, ℕ, ◌∷◌, arith, length}
use mathlib.Core.List.{append-nil}
use Rattle.good.specs.Numbers.{run_of}
use Rattle.seal.proofs.PartLaws.{front_writes}
use Rattle.block.specs.Layout.{run_kind, run_body, run_block}
use Rattle.block.specs.Reading.{run_asked, run_body_asked}
use Rattle.block.proofs.Bodies.{run_body_length}
use Rattle.block.proofs.runs.write_run.Goals as goal

pub returns : goal.returns
unfolding run_asked run_body_asked run_block
returns c =
    let a = c.args in let r = run_of a.run in let n = c.if-block-ne-SIZE.false in let w = c.write_parts in let p = c.in_ok-write_run_body.ensures in
    let e = append-nil c.write_run_body.new.bytes ∙ p.1 in let h = ap length e ∙ run_body_length r in
    front_writes _ 16 (omega (arith, h)) (omega arith) (run_asked a.block.now r) (run_kind ∷ 0 ∷ run_body r) a.block.now w.new.block w.result
    (ap (λ (l : List ℕ). run_kind ∷ 0 ∷ l) e) n (n, p.0.1) w.ensures
