-- What is known of a point and a footprint that pass. Assumes nothing.
use mathlib.Core.List.{List}
use native.Mathlib.Omega.{arith}
use lib.IntN.{ℤ}
use lib.ListN.{length}
use Rattle.rules.specs.Ring.{Pt, ring}
use Rattle.rules.specs.Refusal.{Passes}
use Rattle.rules.specs.Good.{sized_check, footprint_checks}
use Rattle.rules.specs.Place.{place_checks}
use Rattle.rules.proofs.Reach.{between_stable, shape_reach}
use Rattle.footprint.specs.Shape.{HoldsRing}
use Rattle.footprint.proofs.Outline.{corner_at}
use Rattle.footprint.proofs.Steps.{reach_abs}
use Rattle.piece.specs.Sizes.{Close, Held}

pub point_known : (p : Pt) (l : List ℤ) → Passes (place_checks p l) → Close p
unfolding place_checks
point_known p l h = record {
  x = reach_abs p.x (between_stable _ _ _ (h.0 0 (omega arith)));
  y = reach_abs p.y (between_stable _ _ _ (h.0 1 (omega arith)));
}

pub footprint_known : (p : Pt) (l : List ℤ) → Passes (place_checks p l) → Held l
unfolding place_checks footprint_checks sized_check
footprint_known p l h = record {
  holds = held;
  corners = λ j b. corner_at l (ring l).size (length l) j held (λ k a c. shape_reach l h.1.1 k c) (let e = held.whole in omega arith) b;
}
  where
    held : HoldsRing l (ring l).size
    held = let s = h.1.0 in record { corners = s.corners; whole = let e = s.even in omega arith }
