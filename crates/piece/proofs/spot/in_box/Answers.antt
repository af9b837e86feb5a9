-- `spot::in_box` is the box's test: its width, and in it its height. Assumes nothing.
use mathlib.Core.Path.{◌≡◌}
use mir.Syntax.{w64}
use Rattle.whole.proofs.Range.{read}
use Rattle.decide.specs.Touch.{least, most, ranged}
use Rattle.piece.proofs.Steps.{in_range}
use Rattle.piece.proofs.spot.in_box.Goals as goal
use Rattle.piece.proofs.spot.in_box.Goals.{After-ranged}

-- what the first test says
wide : (c : After-ranged) → c.ranged.result ≡ ranged (least c.args.a.x c.args.b.x) c.args.p.x (most c.args.a.x c.args.b.x)
wide c =
    let a = c.args in
    in_range a.a.x a.b.x a.p.x a.a.far.x a.b.far.x a.p.far.x c.least.result c.most.result (read w64 c.least.type_inv c.least.ensures) (read w64 c.most.type_inv c.most.ensures) c.ranged.ensures

pub returns-then-ranged : goal.returns-then-ranged
returns-then-ranged c =
    let a = c.args in
    rw (← (wide (goal.at.returns-then-ranged c).After-ranged), c.if-ranged.true)
    (in_range a.a.y a.b.y a.p.y a.a.far.y a.b.far.y a.p.far.y c.least-then-ranged.result c.most-then-ranged.result
    (read w64 c.least-then-ranged.type_inv c.least-then-ranged.ensures) (read w64 c.most-then-ranged.type_inv c.most-then-ranged.ensures) c.ranged-then-ranged.ensures)

pub returns-else-ranged : goal.returns-else-ranged
returns-else-ranged c = rw (← (wide (goal.at.returns-else-ranged c).After-ranged), c.if-ranged.false)
