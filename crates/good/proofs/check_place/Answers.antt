-- `check_place` meets its contract: both tests, read back, say whether their numbers are taken, and else it is what the footprint's checks find. Assumes nothing.
use mathlib.Core.List.{[], ◌∷◌}
use Rattle.std.proofs.lemmas.Result.{err_from_is_err_and}
use Rattle.rules.specs.Reach.{Reach}
use Rattle.rules.specs.Place.{PointNumber, place_checks}
use Rattle.good.specs.Numbers.{pt}
use Rattle.good.proofs.Finds.{reread, Tested, tests_pass, tests_fault, place_finds}
use Rattle.good.proofs.check_place.Goals as goal
use Rattle.good.proofs.check_place.Goals.{After-check_numbers}

tested : (c : After-check_numbers) → Tested (PointNumber (pt c.args.x c.args.y)) (c.reaches.result ∷ c.reaches-2.result ∷ [])
tested c = record { says = (reread Reach c.args.x c.reaches.result c.ranges.x.sfits c.reaches.ensures, (reread Reach c.args.y c.reaches-2.result c.ranges.y.sfits c.reaches-2.ensures, tt)) }

pub returns-in_err-check_numbers : goal.returns-in_err-check_numbers
unfolding place_checks
returns-in_err-check_numbers c =
    let p = err_from_is_err_and c.from_residual.result c.from_residual.ensures.1 in
    let d = tested (goal.at.returns-in_err-check_numbers c).After-check_numbers in
    rw (p.1, p.2) (tests_fault d _ _ c.in_err-check_numbers.ensures)

pub returns : goal.returns
returns c =
    let d = tested (goal.at.returns c).After-check_numbers in
    place_finds (pt c.args.x c.args.y) c.args.l.now c.check_footprint.result (tests_pass d c.in_ok-check_numbers.ensures) c.check_footprint.ensures
