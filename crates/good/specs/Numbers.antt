-- The run, the piece and the point that the numbers of a call say, and the check of numbers by their tests. Assumes nothing.
use Rattle.std.specs.Prelude.{◌≡◌, Bool, true, false, List, [], ◌∷◌, ◌+◌, ◌*◌, ℤ, length, get_or}
use Rattle.rules.specs.Reach as rules
use Rattle.rules.specs.Reach.{Piece, Speed, run, piece}
use Rattle.rules.specs.Ring.{Pt}
use Rattle.rules.specs.Refusal.{Check, each, refuse}
use Rattle.good.specs.declared.Run.{Run}
use Rattle.good.specs.declared.Slab.{Slab}

abbrev pub run_of : Run → rules.Run
run_of r = run r.x r.y r.z r.vx r.vy r.vz r.ticks

abbrev pub piece_of : Slab → List ℤ → Piece
piece_of b l = piece b.bottom b.top b.vx b.vy b.vz l

abbrev pub pt : ℤ → ℤ → Pt
pt x y = record { x = x; y = y }

-- no test of numbers fails, by rising offset from 2
abbrev pub tests_checks : List Bool → List Check
tests_checks tests = each (λ j. get_or tests j true ≡ false) (length tests) (λ i. refuse 4 (2 + 2 * i) 0) ∷ []
