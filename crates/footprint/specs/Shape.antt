-- What the checks of a footprint compute, and what their functions ask and answer. Assumes nothing.
use Rattle.std.specs.Prelude.{◌≡◌, Bool, not, cond, ◌&&◌, ◌||◌, List, [], ◌∷◌, Option, Some, None, Result, Ok, Err, ◌⊎◌, ℕ, ◌+◌, ◌*◌, ◌-◌, ◌<◌, eqb, ℤ, pos, ◌-ℤ◌, ◌*ℤ◌, length, get_or}
use Rattle.std.specs.Int.Signed.{lt_z}
use Rattle.rules.specs.Reach.{Reach, Corners}
use Rattle.rules.specs.Ring.{Pt, Ring, ring, from, to, On}
use Rattle.rules.specs.Refusal.{Fault, Sought}
use Rattle.rules.specs.Good.{Same, FirstMeet, Meet, area, corners_check}
use Rattle.decide.specs.Side.{side_of}
use Rattle.decide.specs.Touch.{least, most, ranged, same_side}
use Rattle.refusal.specs.Said.{said}
use Rattle.refusal.specs.declared.Refusal.{Refusal}
use Rattle.footprint.specs.Point.{pt}
use Rattle.footprint.specs.Table.{AllBoxed}
use Rattle.footprint.specs.declared.point.Point.{Point}
use Rattle.footprint.specs.declared.extent.Extent.{Extent}
use Rattle.footprint.specs.declared.checks.Drawing.{Drawing}

-- the list holds n corners, as many as a footprint has
pub record HoldsRing (l : List ℤ) (n : ℕ) : Type 0 where
  pub corners : Corners n
  pub whole : length l ≡ 2 * n

-- corner i stands in the list, within reach
pub record Corner (l : List ℤ) (i : ℕ) : Type 0 where
  pub below : i < (ring l).size
  pub x : Reach ((ring l).at i).x
  pub y : Reach ((ring l).at i).y

-- number k on the way round a ring of n: n is 0 again
abbrev pub around : ℕ → ℕ → ℕ
around n k = cond (eqb k n) 0 k

-- ---- reach
-- of the first m numbers, those of the list are within reach
abbrev pub Reached : List ℤ → ℕ → Type 0
Reached l m = (j : ℕ) → j < m → j < length l → Reach (get_or l j (pos 0))

-- number j; or, where those before it are within reach, the fault
abbrev pub NumberSays : List ℤ → ℕ → Result ℤ Refusal → Type 0
NumberSays l j (Ok z) = (z ≡ get_or l j (pos 0)) × Reach z
NumberSays l j (Err x) = Reached l j → Fault (corners_check l ∷ []) (said x)

-- corner k likewise
abbrev pub CornerSays : List ℤ → ℕ → Result Point Refusal → Type 0
CornerSays l k (Ok p) = pt p ≡ (ring l).at k
CornerSays l k (Err x) = Reached l (2 * k) → Fault (corners_check l ∷ []) (said x)

-- ---- tests
abbrev pub equal : Pt → Pt → Bool
equal a b = ranged a.x b.x a.x && ranged a.y b.y a.y

-- two ranges have no number in common
abbrev pub parted : ℤ → ℤ → ℤ → ℤ → Bool
parted a b c d = lt_z (most c d) (least a b) || lt_z (most a b) (least c d)

-- the boxes of two edges have no point in common
abbrev pub boxes_apart : Pt → Pt → Pt → Pt → Bool
boxes_apart a b c d = parted a.x b.x c.x d.x || parted a.y b.y c.y d.y

-- one edge lies strictly on one side of the other's line
abbrev pub aside : Pt → Pt → Pt → Pt → Bool
aside a b c d = same_side (side_of a b c) (side_of a b d)

-- two edges share a point
abbrev pub shares : Pt → Pt → Pt → Pt → Bool
shares a b c d = not (boxes_apart a b c d || (aside a b c d || aside c d a b))

-- of two edges a b and b c, an outer end lies on the other edge
abbrev pub bends : Pt → Pt → Pt → Bool
bends a b c = not (aside a b c c) && (not (boxes_apart b c a a) || not (boxes_apart a b c c))

-- ---- one pass over the corners
-- an edge's part in twice the area
abbrev pub wedge : Pt → Pt → ℤ
wedge a b = a.x *ℤ b.y -ℤ a.y *ℤ b.x

-- number j of the list is out of reach
abbrev pub Stray : List ℤ → ℕ → Type 0
Stray l j = Reach (get_or l j (pos 0)) → ⊥

-- the number before i around a ring of n
unfoldable pub back : ℕ → ℕ → ℕ
back n i = cond (eqb i 0) (n - 1) (i - 1)

-- at corner i an outer end of its two edges lies on the other edge
abbrev pub Bend : Ring → ℕ → Type 0
Bend r i = On (r.at (back r.size i)) (r.at i) (to r i) ⊎ On (to r i) (r.at (back r.size i)) (r.at i)

-- what the pass finds where every number is within reach
pub record Draws (l : List ℤ) (d : Drawing) : Type 0 where
  pub same : Sought (Same (ring l)) (ring l).size d.same
  pub fold : Sought (Bend (ring l)) (ring l).size d.fold
  pub area : d.area ≡ area (ring l) (ring l).size

-- ---- all pairs of edges
-- the edges after edge i that are not its neighbours end before e: edge 0 has the last for a neighbour
abbrev pub Ends : ℕ → ℕ → ℕ → Type 0
Ends n i e = ((i ≡ 0) × (e + 1 ≡ n)) ⊎ ((0 < i) × (e ≡ n))

-- n corners within reach, and a table of their edges' boxes
pub record Tabled (l : List ℤ) (t : List Extent) (n : ℕ) : Type 0 where
  pub corners : (j : ℕ) → j < n → Corner l j
  pub boxed : AllBoxed (ring l) t n

-- the edges i and j share a point
abbrev pub edges_share : Ring → ℕ → ℕ → Bool
edges_share r i j = shares (from r i) (to r i) (from r j) (to r j)

-- the two that meet first
abbrev pub FirstPair : Ring → Option (ℕ × ℕ) → Type 0
FirstPair r None = (i j : ℕ) → Meet r i j → ⊥
FirstPair r (Some p) = FirstMeet r p.0 p.1
