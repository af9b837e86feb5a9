-- Request 1: the footprint of a file, its refusals in their order, and what the call answers. Assumes nothing.
use Rattle.std.specs.Prelude.{◌≡◌, true, List, [], ◌∷◌, ◌++◌, map, ℕ, zero, suc, ◌*◌, ◌≤◌, ℤ, length, get_or, Result, Ok, Err}
use Rattle.whole.specs.Fraction.{◌≈◌}
use Rattle.whole.specs.Front.{fronted}
use Rattle.rules.specs.Reach.{Piece}
use Rattle.rules.specs.Refusal.{Check, Passes, Fault, demand, refuse, in_turn}
use Rattle.rules.specs.Good.{piece_checks}
use Rattle.refusal.specs.declared.Refusal.{Refusal}
use Rattle.refusal.specs.Said.{said}
use Rattle.grid.specs.Number.{grid, Within}
use Rattle.line.specs.Text.{lines}
use Rattle.line.specs.Number.{Decimal, naught, value, gridded}
use Rattle.line.specs.Line.{Point, Line, passed, other, vertex, face, line_of, names, all_named}

-- line i of a file, from 0
abbrev pub line_at : List ℕ → ℕ → Line
line_at file i = line_of (get_or (lines file) i [])

-- the vertices of the first n lines, in their order
abbrev pub more : Line → List Point → List Point
more (vertex p) vs = vs ++ (p ∷ [])
more (face ns) vs = vs
more passed vs = vs
more other vs = vs

unfoldable pub above : List ℕ → ℕ → List Point
above file zero = []
above file (suc n) = more (line_at file n) (above file n)

-- the points that indices name
abbrev pub nowhere : Point
nowhere = record { x = naught; y = naught }

abbrev pub points : List Point → List ℤ → List Point
points vs ns = map (λ n. get_or vs (names (length vs) n) nowhere) ns

-- the face of the first n lines, the last where there are more, by its corners
pub data LastFace : Type 0 where
  none : LastFace
  drawn : List Point → LastFace

abbrev pub faced : List Point → LastFace → Line → LastFace
faced vs f (face ns) = drawn (points vs ns)
faced vs f (vertex p) = f
faced vs f passed = f
faced vs f other = f

unfoldable pub face_in : List ℕ → ℕ → LastFace
face_in file zero = none
face_in file (suc n) = faced (above file n) (face_in file n) (line_at file n)

-- ---- the checks, in their order
-- a second face: the line is one, and one stands above it
pub record Second (file : List ℕ) (i : ℕ) : Type 0 where
  pub indices : List ℤ
  pub line : line_at file i ≡ face indices
  pub corners : List Point
  pub above : face_in file i ≡ drawn corners

abbrev pub AllNamed : List ℕ → ℕ → Type 0
AllNamed file i = (ns : List ℤ) → line_at file i ≡ face ns → all_named (length (above file i)) ns ≡ true

-- of line i, whose number is one more
unfoldable pub line_checks : List ℕ → ℕ → List Check
line_checks file i =
    demand (line_at file i ≡ other → ⊥) (refuse 14 (suc i) 0)
    ∷ demand (Second file i → ⊥) (refuse 16 (suc i) 0)
    ∷ demand (AllNamed file i) (refuse 15 (suc i) 0)
    ∷ []

-- line by line, the first n
abbrev pub lines_checks : List ℕ → ℕ → List Check
lines_checks file n = in_turn (line_checks file) n

-- a number is within the intake's reach, and on its grid
unfoldable pub decimal_checks : Decimal → ℕ → ℕ → List Check
decimal_checks d a b = demand (Within (value d)) (refuse 12 a b) ∷ demand ((k : ℤ) × (grid k ≈ value d)) (refuse 13 a b) ∷ []

-- corner by corner, x before y
abbrev pub point_checks : List Point → ℕ → List Check
point_checks ps a = let p = get_or ps a nowhere in decimal_checks p.x a 0 ++ decimal_checks p.y a 1

abbrev pub points_checks : List Point → ℕ → List Check
points_checks ps n = in_turn (point_checks ps) n

-- a number for each x and y of points, x, y, x, y ..
unfoldable pub flat : (Decimal → ℤ) → List Point → List ℤ
flat f [] = []
flat f (p ∷ ps) = f p.x ∷ (f p.y ∷ flat f ps)

-- the corners as points of the grid
abbrev pub corners : List Point → List ℤ
corners ps = flat gridded ps

-- of the corners, as a piece with the band and velocity given, into a list of some length
unfoldable pub corners_checks : (List ℤ → Piece) → ℕ → List Point → List Check
corners_checks k size ps = points_checks ps (length ps) ++ (piece_checks (k (corners ps)) ++ (demand (2 * length ps ≤ size) (refuse 10 0 0) ∷ []))

-- of the face, which there must be
abbrev pub face_checks : (List ℤ → Piece) → ℕ → LastFace → List Check
face_checks k size none = demand ⊥ (refuse 16 0 0) ∷ []
face_checks k size (drawn ps) = corners_checks k size ps

unfoldable pub obj_checks : List ℕ → (List ℤ → Piece) → ℕ → List Check
obj_checks file k size =
    demand (length file ≤ 65536) (refuse 1 0 0)
    ∷ (lines_checks file (length (lines file)) ++ face_checks k size (face_in file (length (lines file))))

-- ---- the answer: the corner count and the corners in the list, or the first fault and the list as it was
pub record Drawn (file : List ℕ) (k : List ℤ → Piece) (before after : List ℤ) (n : ℕ) : Type 0 where
  pub passes : Passes (obj_checks file k (length before))
  pub points : List Point
  pub face : face_in file (length (lines file)) ≡ drawn points
  pub count : n ≡ length points
  pub list : after ≡ fronted (corners points) before

-- the corner count, or the refusal
abbrev pub Outline : Type 0
Outline = Result ℕ Refusal

abbrev pub ObjSays : List ℕ → (List ℤ → Piece) → List ℤ → List ℤ → Outline → Type 0
ObjSays file k before after (Ok n) = Drawn file k before after n
ObjSays file k before after (Err x) = Fault (obj_checks file k (length before)) (said x) × (after ≡ before)
