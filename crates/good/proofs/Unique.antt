-- At most one answer meets the promise of each public call: what a list of definite checks finds is one answer. Assumes nothing.
use mathlib.Core.Path.{◌≡◌}
use mathlib.Core.List.{List}
use lib.IntN.{ℤ}
use Rattle.rules.specs.Good.{run_checks, piece_checks}
use Rattle.rules.specs.Place.{place_checks}
use Rattle.rules.proofs.Good.{definite_run, definite_piece, definite_place}
use Rattle.refusal.specs.Said.{Finds}
use Rattle.refusal.specs.Said.{Checked}
use Rattle.refusal.proofs.Unique.{finds_one}
use Rattle.good.specs.declared.Run.{Run}
use Rattle.good.specs.declared.Slab.{Slab}
use Rattle.good.specs.Numbers.{run_of, piece_of, pt}

pub check_run_one : (run : Run) (r s : Checked) → Finds (run_checks (run_of run)) r → Finds (run_checks (run_of run)) s → r ≡ s
check_run_one run = finds_one (run_checks (run_of run)) (definite_run (run_of run))

pub check_piece_one : (slab : Slab) (l : List ℤ) (r s : Checked) → Finds (piece_checks (piece_of slab l)) r → Finds (piece_checks (piece_of slab l)) s → r ≡ s
check_piece_one slab l = finds_one (piece_checks (piece_of slab l)) (definite_piece (piece_of slab l))

pub check_place_one : (x y : ℤ) (l : List ℤ) (r s : Checked) → Finds (place_checks (pt x y) l) r → Finds (place_checks (pt x y) l) s → r ≡ s
check_place_one x y l = finds_one (place_checks (pt x y) l) (definite_place (pt x y) l)
