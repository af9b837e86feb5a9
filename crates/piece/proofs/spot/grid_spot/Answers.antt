-- `spot::grid_spot` is the place: `place_at` over 1, of a point and a footprint that pass. Assumes nothing.
use mathlib.Core.Path.{◌≡◌, ap, ◌∙◌}
use mir.Facts.{to_z-of_z}
use mir.Syntax.{w64}
use Rattle.whole.proofs.Range.{read}
use Rattle.rules.specs.Ring.{Ring, ring}
use Rattle.decide.specs.Touch.{place}
use Rattle.decide.proofs.Place.{place_right}
use Rattle.good.specs.Numbers.{pt}
use Rattle.piece.proofs.Known.{point_known, footprint_known}
use Rattle.piece.proofs.Scan.{over_one}
use Rattle.piece.proofs.Steps.{word, close_far}
use Rattle.piece.proofs.spot.grid_spot.Goals as goal
use Rattle.piece.proofs.spot.grid_spot.Goals.{After-wide-2}

the_x : (c : After-wide-2) → word c.wide.result ≡ c.args.x
the_x c = read w64 c.wide.type_inv (c.wide.ensures ∙ to_z-of_z c.ranges.x)

the_y : (c : After-wide-2) → word c.wide-2.result ≡ c.args.y
the_y c = read w64 c.wide-2.type_inv (c.wide-2.ensures ∙ to_z-of_z c.ranges.y)

pub new-requires : goal.new-requires
new-requires c = footprint_known (pt c.args.x c.args.y) c.args.corners.now c.requires

pub invariant_of-p : goal.invariant_of-p
invariant_of-p c =
    let k = (goal.at.invariant_of-p c).After-wide-2 in
    record { far = rw (the_x k, the_y k) (close_far (pt c.args.x c.args.y) (point_known _ c.args.corners.now c.requires)) }

pub returns : goal.returns
returns c =
    let k = (goal.at.returns c).After-wide-2 in
    let l = c.args.corners.now in
    let p = pt c.args.x c.args.y in
    let e = rw (c.new.ensures, the_x k, the_y k) at c.place_at.ensures in
    rw (e ∙ ap (λ (r : Ring). place r p) (over_one (ring l))) (place_right (ring l) p)
