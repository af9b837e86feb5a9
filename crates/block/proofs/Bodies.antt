-- How long the body of a run is. Assumes nothing.
use mathlib.Core.Path.{◌≡◌, refl}
use lib.ListN.{length}
use Rattle.rules.specs.Reach.{Run}
use Rattle.block.specs.Layout.{run_body_size, run_body}

pub run_body_length : (r : Run) → length (run_body r) ≡ run_body_size
unfolding run_body
run_body_length r = refl
