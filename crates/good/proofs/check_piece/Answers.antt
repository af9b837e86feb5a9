-- `check_piece` meets its contract: the corners' count, the five tests, read back, of the band's numbers, and the footprint, each checked where those before it passed. Assumes nothing.
use native.Mathlib.Omega.{arith}
use mathlib.Core.List.{[], ◌∷◌}
use mathlib.Core.Logic.{inl, inr}
use mathlib.Core.Path.{refl}
use mir.Syntax.{w32}
use Rattle.std.proofs.lemmas.Result.{err_from_is_err_and}
use Rattle.whole.proofs.Range.{field}
use Rattle.rules.specs.Reach.{Reach, Speed}
use Rattle.rules.specs.Good.{BandNumber, sized_check, band_check, piece_checks}
use Rattle.footprint.proofs.Finds.{footprint_shape}
use Rattle.good.specs.Numbers.{piece_of}
use Rattle.good.proofs.Finds.{reread, Tested, tests_pass, tests_fault, piece_finds}
use Rattle.good.proofs.check_piece.Goals as goal
use Rattle.good.proofs.check_piece.Goals.{After-check_numbers}

tested : (c : After-check_numbers)
    → Tested (BandNumber (piece_of c.args.slab c.args.corners.now)) (c.reaches.result ∷ c.is_top.result ∷ c.is_speed.result ∷ c.is_speed-2.result ∷ c.is_speed-3.result ∷ [])
tested c =
    let b = c.args.slab in
    let low = reread Reach b.bottom c.reaches.result (omega arith) c.reaches.ensures in
    let top = rw (field w32 b.bottom (omega arith), field w32 b.top (omega arith)) at c.is_top.ensures in
    let vx = reread Speed b.vx c.is_speed.result (omega arith) c.is_speed.ensures in
    let vy = reread Speed b.vy c.is_speed-2.result (omega arith) c.is_speed-2.ensures in
    let vz = reread Speed b.vz c.is_speed-3.result (omega arith) c.is_speed-3.ensures in
    record { says = (low, (top, (vx, (vy, (vz, tt))))) }

pub returns-then-not-sized : goal.returns-then-not-sized
unfolding piece_checks sized_check
returns-then-not-sized c = inl (c.if-not-sized.ensures, refl)

pub returns-in_err-check_numbers : goal.returns-in_err-check_numbers
unfolding piece_checks sized_check band_check
returns-in_err-check_numbers c =
    let p = err_from_is_err_and c.from_residual.result c.from_residual.ensures.1 in
    let d = tested (goal.at.returns-in_err-check_numbers c).After-check_numbers in
    rw (p.1, p.2) (inr (c.if-not-sized.ensures, tests_fault d _ _ c.in_err-check_numbers.ensures))

pub returns : goal.returns
returns c =
    let k = piece_of c.args.slab c.args.corners.now in
    let d = tested (goal.at.returns c).After-check_numbers in
    let size = c.if-not-sized.ensures in
    piece_finds k c.check_footprint.result size (tests_pass d c.in_ok-check_numbers.ensures) (footprint_shape k.corners c.check_footprint.result size c.check_footprint.ensures)
