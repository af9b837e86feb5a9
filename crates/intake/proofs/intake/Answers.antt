-- `intake::intake` meets its contract: count and list are looked at, then every corner, and only then is the list written. Assumes nothing.
use Rattle.std.proofs.Common.{◌*◌, ◌≤◌, refl, arith, length, take}
use Rattle.std.proofs.lemmas.Result.{err_from_is_err_and}
use Rattle.whole.specs.Front.{fronted}
use Rattle.rules.specs.Reach.{Corners}
use Rattle.rules.proofs.Checks.{definite_demand}
use Rattle.refusal.proofs.Unique.{written}
use Rattle.intake.specs.Footprint.{put_checks}
use Rattle.intake.proofs.Footprint.{beyond_count, too_short, fault_in, all_good, put_fits, put_later}
use Rattle.intake.proofs.intake.Goals as goal
use Rattle.intake.proofs.intake.Goals.{then-count-lt3-via-then-count-lt3, then-count-lt3-via-else-count-lt3+then-count-gt64}

pub returns-then-count-lt3 : goal.returns-then-count-lt3
returns-then-count-lt3 c =
    let few : Corners c.args.count → ⊥ =
    λ h. elim c.then-count-lt3.branch [ then-count-lt3-via-then-count-lt3 w ↦ omega arith | then-count-lt3-via-else-count-lt3+then-count-gt64 w ↦ omega arith ] in
    record { finds = beyond_count _ _ _ few; list = refl }

pub returns-then-list-count : goal.returns-then-list-count
returns-then-list-count c = record { finds = too_short _ _ _ (record { least = omega arith; most = omega arith }) (λ h. omega arith); list = refl }

-- a corner that is not taken
pub returns-in_err-numbers : goal.returns-in_err-numbers
returns-in_err-numbers c =
    let p = err_from_is_err_and c.from_residual.result c.from_residual.ensures.1 in
    rw (p.1, p.2) record {
      finds = fault_in _ _ _ (record { least = omega arith; most = omega arith }) (omega arith) _ c.in_err-numbers.ensures;
      list = refl;
    }

-- all corners are good
pub returns : goal.returns
returns c =
    let cs = c.args.corners in
    let l = c.in_ok-numbers.numbers in
    let before = c.args.list.now in
    let n : Corners c.args.count = record { least = omega arith; most = omega arith } in
    let room : 2 * c.args.count ≤ length before = omega arith in
    let h = c.in_ok-numbers.ensures in
    let front = take (2 * c.args.count) l in
    let fits = put_fits cs c.args.count l before h.1 n.most room in
    let w = written (put_checks front before) (definite_demand _ _, tt) (fronted front before) before _ c.put.result c.put.ensures (fits, tt) in
    rw (w.0, w.1) record {
      finds = all_good cs c.args.count (length before) n room l h.0;
      list = put_later cs c.args.count l before h.1 n.most room h.0;
    }
