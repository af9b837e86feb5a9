-- "Footprint, place and contact", the first paragraph: which runs, footprints and pieces are good, and the refusal of each that is not. Assumes nothing.
use Rattle.std.specs.Prelude.{◌≡◌, List, [], ◌∷◌, ℕ, zero, suc, ◌+◌, ◌*◌, ◌%◌, ◌<◌, ℤ, pos, ◌+ℤ◌, ◌-ℤ◌, ◌*ℤ◌, ◌≤ℤ◌, ◌<ℤ◌, length, get_or}
use Rattle.rules.specs.Reach.{Reach, Speed, Ticks, Corners, Run, Piece}
use Rattle.rules.specs.Ring.{Pt, times, Ring, ring, next, from, to, Neighbours, On, Share}
use Rattle.rules.specs.Refusal.{Check, demand, each, refuse}

-- count and even list length
pub record Sized (l : List ℤ) : Type 0 where
  pub even : length l % 2 ≡ 0
  pub corners : Corners (ring l).size

-- a corner equals the next one around the ring
abbrev pub Same : Ring → ℕ → Type 0
Same r i = from r i ≡ to r i

-- the edges a b and b c share a rational point, p over m, besides b
pub record Fold (a b c : Pt) : Type 0 where
  pub m : ℤ
  pub p : Pt
  pub some : pos 0 <ℤ m
  pub first : On p (times m a) (times m b)
  pub second : On p (times m b) (times m c)
  pub besides : p ≡ times m b → ⊥

-- the two edges at corner i fold
abbrev pub Folds : Ring → ℕ → Type 0
Folds r i = (h : ℕ) × (h < r.size) × (next r.size h ≡ i) × Fold (from r h) (r.at i) (to r i)

-- two edges that are not neighbours share a point
pub record Meet (r : Ring) (i j : ℕ) : Type 0 where
  pub order : i < j
  pub below : j < r.size
  pub parted : Neighbours r.size i j → ⊥
  pub share : Share (from r i) (to r i) (from r j) (to r j)

-- the first pair: least i, then least j
pub record FirstMeet (r : Ring) (i j : ℕ) : Type 0 where
  pub meet : Meet r i j
  pub before : (h k : ℕ) → h < i → Meet r h k → ⊥
  pub then : (k : ℕ) → k < j → Meet r i k → ⊥

-- twice the signed area of the first n edges with the origin
abbrev pub area : Ring → ℕ → ℤ
area r zero = pos 0
area r (suc n) = area r n +ℤ ((from r n).x *ℤ (to r n).y -ℤ (from r n).y *ℤ (to r n).x)

abbrev pub Counterclockwise : Ring → Type 0
Counterclockwise r = pos 0 <ℤ area r r.size

-- the numbers of a run by rising offset: position 2, 4, 6, velocity 8, 10, 12, T 14
abbrev pub RunNumber : Run → ℕ → Type 0
RunNumber r zero = Reach r.start.x
RunNumber r (suc zero) = Reach r.start.y
RunNumber r (suc (suc zero)) = Reach r.start.z
RunNumber r (suc (suc (suc zero))) = Speed r.speed.x
RunNumber r (suc (suc (suc (suc zero)))) = Speed r.speed.y
RunNumber r (suc (suc (suc (suc (suc zero))))) = Speed r.speed.z
RunNumber r (suc (suc (suc (suc (suc (suc n)))))) = Ticks r.ticks

-- the numbers of a piece before its corners: bottom 2, top 4, velocity 6, 8, 10
abbrev pub BandNumber : Piece → ℕ → Type 0
BandNumber k zero = Reach k.bottom
BandNumber k (suc zero) = Reach k.top × (k.bottom ≤ℤ k.top)
BandNumber k (suc (suc zero)) = Speed k.speed.x
BandNumber k (suc (suc (suc zero))) = Speed k.speed.y
BandNumber k (suc (suc (suc (suc n)))) = Speed k.speed.z

-- every number of a run is within its reach
abbrev pub RunKnown : Run → Type 0
RunKnown r = (j : ℕ) → j < 7 → RunNumber r j

-- every number of a piece is within its reach, and its list is sized
pub record PieceKnown (k : Piece) : Type 0 where
  pub sized : Sized k.corners
  pub band : (j : ℕ) → j < 5 → BandNumber k j
  pub corners : (j : ℕ) → j < length k.corners → Reach (get_or k.corners j (pos 0))

-- ---- the checks, in their order
unfoldable pub run_checks : Run → List Check
run_checks r = each (λ j. RunNumber r j → ⊥) 7 (λ i. refuse 4 (2 + 2 * i) 0) ∷ []

unfoldable pub sized_check : List ℤ → Check
sized_check l = demand (Sized l) (refuse 5 0 0)

unfoldable pub band_check : Piece → Check
band_check k = each (λ j. BandNumber k j → ⊥) 5 (λ i. refuse 4 (2 + 2 * i) 0)

-- the numbers of the corners, at offset 12 and up
abbrev pub corners_check : List ℤ → Check
corners_check l = each (λ j. Reach (get_or l j (pos 0)) → ⊥) (length l) (λ i. refuse 4 (12 + 2 * i) 0)

-- the ring of corners within reach
abbrev pub ring_checks : List ℤ → List Check
ring_checks l =
    each (Same (ring l)) (ring l).size (λ i. refuse 6 i 0)
    ∷ each (Folds (ring l)) (ring l).size (λ i. refuse 7 i 0)
    ∷ record { passes = (i j : ℕ) → Meet (ring l) i j → ⊥; fails = λ s. (i : ℕ) × (j : ℕ) × FirstMeet (ring l) i j × (s ≡ refuse 8 i j) }
    ∷ demand (Counterclockwise (ring l)) (refuse 9 0 0)
    ∷ []

-- reach, then ring
unfoldable pub shape_checks : List ℤ → List Check
shape_checks l = corners_check l ∷ ring_checks l

-- a footprint alone, and a piece
unfoldable pub footprint_checks : List ℤ → List Check
footprint_checks l = sized_check l ∷ shape_checks l

unfoldable pub piece_checks : Piece → List Check
piece_checks k = sized_check k.corners ∷ band_check k ∷ shape_checks k.corners
