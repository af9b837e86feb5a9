-- At most one answer meets the promise of each public call. Assumes nothing.
use mathlib.Core.Path.{◌≡◌, refl, sym, ap, ◌∙◌}
use mathlib.Core.List.{List}
use lib.IntN.{ℤ}
use Rattle.rules.specs.Ring.{Pt, ring}
use Rattle.rules.specs.Place.{Where, on, inside, outside, Place, place_checks}
use Rattle.rules.proofs.Good.{definite_place}
use Rattle.decide.proofs.Parity.{one_place}
use Rattle.refusal.proofs.Unique.{told_same}
use Rattle.footprint.proofs.Unique.{equal_one}
use Rattle.piece.specs.declared.spot.Spot.{Spot}
use Rattle.piece.specs.declared.spot.Spot.TheVariants.{On, Inside, Outside}
use Rattle.piece.specs.Place.{Placed, where_of, Lies}
use Rattle.piece.specs.Tells.{Verdict, Coded, coded_of}

-- a place as the enum has it
spot_of : Where → Spot
spot_of on = On
spot_of inside = Inside
spot_of outside = Outside

same : (s : Spot) → spot_of (where_of s) ≡ s
unfolding spot_of
same On = refl
same Inside = refl
same Outside = refl

pub place_one : (p : Pt) (l : List ℤ) (r s : Placed) → Lies p l r → Lies p l s → r ≡ s
place_one p l =
    told_same (place_checks p l) (definite_place p l) (λ s. Place (ring l) p (where_of s))
    (λ s t h k. sym (same s) ∙ ap spot_of (one_place (ring l) p _ _ h k) ∙ same t)

pub coded_one : (v : Verdict) (r s : Coded) → r ≡ coded_of v → s ≡ coded_of v → r ≡ s
coded_one v = equal_one (coded_of v)
