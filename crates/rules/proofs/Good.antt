-- The checks of runs, footprints and pieces are definite: each input has at most one first fault. Assumes nothing.
use mathlib.Core.Path.{◌≡◌, sym, ◌∙◌}
use mathlib.Core.List.{List}
use Prim.Native.Nat.{ℕ}
use lib.IntN.{ℤ}
use Rattle.rules.specs.Reach.{Run, Piece}
use Rattle.rules.specs.Ring.{Pt, Ring, ring}
use Rattle.rules.specs.Refusal.{refuse}
use Rattle.rules.specs.Good.{FirstMeet, run_checks, sized_check, band_check, shape_checks, footprint_checks, piece_checks}
use Rattle.rules.specs.Place.{place_checks}
use Rattle.rules.specs.Verdict.{verdict_checks}
use Rattle.rules.proofs.Checks.{only, AllDefinite, definite_demand, definite_each, definite_append}

first_meet : (r : Ring) (i j h k : ℕ) → FirstMeet r i j → FirstMeet r h k → refuse 8 i j ≡ refuse 8 h k
first_meet r i j h k f g =
    let e = only i h (λ l. g.before i j l f.meet) (λ l. f.before h k l g.meet) in
    same i j h k e (only j k (λ l. g.then j l (rw e at f.meet)) (λ l. f.then k l (rw (← e) at g.meet)))
  where
    same : (i j h k : ℕ) → i ≡ h → j ≡ k → refuse 8 i j ≡ refuse 8 h k
    same i j h k e f = rw (e, f)

pub definite_shape : (l : List ℤ) → AllDefinite (shape_checks l)
unfolding shape_checks
definite_shape l = (
  definite_each _ _ _,
  (
    definite_each _ _ _,
    (
      definite_each _ _ _,
      (
        record {
          never = λ s h f. h f.0 f.1 f.2.meet;
          one = λ s t f g. f.3 ∙ first_meet (ring l) f.0 f.1 g.0 g.1 f.2 g.2 ∙ sym g.3;
        },
        (definite_demand _ _, tt),
      ),
    ),
  ),
)

pub definite_run : (r : Run) → AllDefinite (run_checks r)
unfolding run_checks
definite_run r = (definite_each _ _ _, tt)

pub definite_footprint : (l : List ℤ) → AllDefinite (footprint_checks l)
unfolding footprint_checks sized_check
definite_footprint l = (definite_demand _ _, definite_shape l)

pub definite_piece : (k : Piece) → AllDefinite (piece_checks k)
unfolding piece_checks sized_check band_check
definite_piece k = (definite_demand _ _, (definite_each _ _ _, definite_shape k.corners))

pub definite_place : (p : Pt) (l : List ℤ) → AllDefinite (place_checks p l)
unfolding place_checks
definite_place p l = (definite_each _ _ _, definite_footprint l)

pub definite_verdict : (r : Run) (k : Piece) → AllDefinite (verdict_checks r k)
unfolding verdict_checks
definite_verdict r k = definite_append (run_checks r) (piece_checks k) (definite_run r) (definite_piece k)
