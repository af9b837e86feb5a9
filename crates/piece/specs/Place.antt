-- Where a point lies, in the enum's words. Assumes nothing.
use Rattle.std.specs.Prelude.{List, Result, ℤ}
use Rattle.rules.specs.Ring.{Pt, ring}
use Rattle.rules.specs.Place.{Where, on, inside, outside, Place, place_checks}
use Rattle.refusal.specs.declared.Refusal.{Refusal}
use Rattle.refusal.specs.Said.{Told}
use Rattle.piece.specs.declared.spot.Spot.{Spot}
use Rattle.piece.specs.declared.spot.Spot.TheVariants as spot

abbrev pub where_of : Spot → Where
where_of spot.On = on
where_of spot.Inside = inside
where_of spot.Outside = outside

-- where a point lies, or the refusal
abbrev pub Placed : Type 0
Placed = Result Spot Refusal

-- a good footprint and one of three places, or the refusal
abbrev pub Lies : Pt → List ℤ → Placed → Type 0
Lies p l r = Told (place_checks p l) (λ s. Place (ring l) p (where_of s)) r
