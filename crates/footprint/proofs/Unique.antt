-- At most one answer meets the promise of each public call. Assumes nothing.
use mathlib.Core.Path.{◌≡◌, sym, ◌∙◌}
use mathlib.Core.Bool.{Bool}
use mathlib.Core.List.{List}
use lib.IntN.{ℤ}
use Rattle.whole.specs.Decide.{Decides}
use Rattle.whole.proofs.Decide.{decides_one}
use Rattle.rules.specs.Reach.{Reach}
use Rattle.rules.specs.Good.{Sized, footprint_checks}
use Rattle.rules.proofs.Good.{definite_footprint}
use Rattle.refusal.specs.Said.{Checked, Finds}
use Rattle.refusal.proofs.Unique.{finds_one}

pub check_footprint_one : (l : List ℤ) (r s : Checked) → Finds (footprint_checks l) r → Finds (footprint_checks l) s → r ≡ s
check_footprint_one l = finds_one (footprint_checks l) (definite_footprint l)

pub sized_one : (l : List ℤ) (r s : Bool) → Decides (Sized l) r → Decides (Sized l) s → r ≡ s
sized_one l = decides_one (Sized l)

pub reaches_one : (z : ℤ) (r s : Bool) → Decides (Reach z) r → Decides (Reach z) s → r ≡ s
reaches_one z = decides_one (Reach z)

-- of `least`, `less`, `most`, `ranged`, `same_side`, `wide` and `around`, whose promise is what the answer equals
pub equal_one : {A : Type 0} (answer r s : A) → r ≡ answer → s ≡ answer → r ≡ s
equal_one answer r s e f = e ∙ sym f
