-- `ring::boxes_apart` is boxes_apart: parted in x, or else in y, of numbers read back. Assumes nothing.
use mathlib.Core.Path.{◌≡◌, sym, ◌∙◌}
use Rattle.footprint.specs.Shape.{parted}
use Rattle.footprint.proofs.Shape.{or_then, or_else}
use Rattle.footprint.proofs.Steps.{reread}
use Rattle.footprint.proofs.ring.boxes_apart.Goals as goal
use Rattle.footprint.proofs.ring.boxes_apart.Goals.{After-parted}

in_x : (c : After-parted) → c.parted.result ≡ parted c.args.a.x c.args.b.x c.args.c.x c.args.d.x
in_x c = rw (reread c.args.a.x_within, reread c.args.b.x_within, reread c.args.c.x_within, reread c.args.d.x_within) at c.parted.ensures

pub returns-then-parted : goal.returns-then-parted
returns-then-parted c = let e = in_x (goal.at.returns-then-parted c).After-parted in e ∙ or_then _ _ (sym e ∙ c.if-parted.true)

pub returns-else-parted : goal.returns-else-parted
returns-else-parted c =
    let e = in_x (goal.at.returns-else-parted c).After-parted in
    let p = c.args in
    let in_y = rw (reread p.a.y_within, reread p.b.y_within, reread p.c.y_within, reread p.d.y_within) at c.parted-else-parted.ensures in
    in_y ∙ or_else _ _ (sym e ∙ c.if-parted.false)
