-- `ring::parted` is parted: the least and the most of each pair, read back, and the definition's two tests of them. Assumes nothing.
use mathlib.Core.Path.{◌≡◌, sym, ◌∙◌}
use lib.Signed.{lt_z}
use mir.Facts.{to_z-of_z}
use mir.Syntax.{w64}
use mir.Val.{to_z, of_z}
use Rattle.decide.specs.Touch.{least, most}
use Rattle.whole.proofs.Range.{read}
use Rattle.footprint.proofs.Shape.{or_then, or_else}
use Rattle.footprint.proofs.ring.parted.Goals as goal
use Rattle.footprint.proofs.ring.parted.Goals.{After-least}

-- the first test
under : (c : After-least) → lt_z (to_z w64 (of_z w64 c.most.result)) (to_z w64 (of_z w64 c.least.result)) ≡ lt_z (most c.args.c c.args.d) (least c.args.a c.args.b)
under c = rw (read w64 c.most.type_inv c.most.ensures, read w64 c.least.type_inv c.least.ensures, to_z-of_z c.ranges.a, to_z-of_z c.ranges.b, to_z-of_z c.ranges.c, to_z-of_z c.ranges.d)

pub returns-then-most-least : goal.returns-then-most-least
returns-then-most-least c = let e = under (goal.at.returns-then-most-least c).After-least in e ∙ or_then _ _ (sym e ∙ c.if-most-least.true)

pub returns-else-most-least : goal.returns-else-most-least
returns-else-most-least c =
    let e = under (goal.at.returns-else-most-least c).After-least in
    let high = read w64 c.most-else-most-least.type_inv c.most-else-most-least.ensures in
    let low = read w64 c.least-else-most-least.type_inv c.least-else-most-least.ensures in
    rw (high, low, to_z-of_z c.ranges.a, to_z-of_z c.ranges.b, to_z-of_z c.ranges.c, to_z-of_z c.ranges.d) (or_else _ _ (sym e ∙ c.if-most-least.false))
