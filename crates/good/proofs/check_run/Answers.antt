-- `check_run` meets its contract: each of the seven tests, read back, says whether its number is taken. Assumes nothing.
use native.Mathlib.Omega.{arith}
use mathlib.Core.List.{[], ◌∷◌}
use Rattle.rules.specs.Reach.{Reach, Speed}
use Rattle.rules.specs.Good.{RunNumber, run_checks}
use Rattle.good.specs.Numbers.{run_of}
use Rattle.good.proofs.Finds.{reread, Tested, tests_find}
use Rattle.good.proofs.check_run.Goals as goal
use Rattle.good.proofs.check_run.Goals.{After-check_numbers}

tested : (c : After-check_numbers)
    → Tested (RunNumber (run_of c.args.run)) (c.reaches.result ∷ c.reaches-2.result ∷ c.reaches-3.result ∷ c.is_speed.result ∷ c.is_speed-2.result ∷ c.is_speed-3.result ∷ c.is_length.result ∷ [])
tested c =
    let r = c.args.run in
    let x = reread Reach r.x c.reaches.result (omega arith) c.reaches.ensures in
    let y = reread Reach r.y c.reaches-2.result (omega arith) c.reaches-2.ensures in
    let z = reread Reach r.z c.reaches-3.result (omega arith) c.reaches-3.ensures in
    let vx = reread Speed r.vx c.is_speed.result (omega arith) c.is_speed.ensures in
    let vy = reread Speed r.vy c.is_speed-2.result (omega arith) c.is_speed-2.ensures in
    let vz = reread Speed r.vz c.is_speed-3.result (omega arith) c.is_speed-3.ensures in
    record { says = (x, (y, (z, (vx, (vy, (vz, (c.is_length.ensures, tt))))))) }

pub returns : goal.returns
unfolding run_checks
returns c = tests_find (tested c) _ c.check_numbers.ensures
