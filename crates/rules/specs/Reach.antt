-- "Numbers and their reach": which numbers are taken. Assumes nothing.
use Rattle.std.specs.Prelude.{ℕ, ◌≤◌, List, ℤ, pos, negsuc, ◌≤ℤ◌}

-- low ≤ z ≤ high
pub record Between (low high z : ℤ) : Type 0 where
  pub above : low ≤ℤ z
  pub below : z ≤ℤ high

-- positions, corners and heights: -16,384 to 16,384
abbrev pub Reach : ℤ → Type 0
Reach z = Between (negsuc 16383) (pos 16384) z

-- velocities: -255 to 255
abbrev pub Speed : ℤ → Type 0
Speed z = Between (negsuc 254) (pos 255) z

-- the length of a run: at most 4,096 ticks
abbrev pub Ticks : ℕ → Type 0
Ticks t = t ≤ 4096

-- the corners of a footprint: 3 to 64
pub record Corners (n : ℕ) : Type 0 where
  pub least : 3 ≤ n
  pub most : n ≤ 64

-- the pieces of a room: at most 126
abbrev pub Pieces : ℕ → Type 0
Pieces n = n ≤ 126

-- a place or a velocity in space
pub record Vec : Type 0 where
  pub x : ℤ
  pub y : ℤ
  pub z : ℤ

-- a point that runs: its position, its velocity and its length in ticks
pub record Run : Type 0 where
  pub start : Vec
  pub speed : Vec
  pub ticks : ℕ

-- a footprint with a height band and one velocity; the corners are x, y, x, y ..
pub record Piece : Type 0 where
  pub bottom : ℤ
  pub top : ℤ
  pub speed : Vec
  pub corners : List ℤ

-- the run and the piece that numbers say
abbrev pub run : ℤ → ℤ → ℤ → ℤ → ℤ → ℤ → ℕ → Run
run x y z vx vy vz t = record { start = record { x = x; y = y; z = z }; speed = record { x = vx; y = vy; z = vz }; ticks = t }

abbrev pub piece : ℤ → ℤ → ℤ → ℤ → ℤ → List ℤ → Piece
piece b t vx vy vz l = record { bottom = b; top = t; speed = record { x = vx; y = vy; z = vz }; corners = l }
