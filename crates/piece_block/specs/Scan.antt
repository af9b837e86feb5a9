-- The numbers of a piece that stand in a block. Assumes nothing.
use Rattle.std.specs.Prelude.{◌≡◌, List, ℕ, ◌+◌, ◌*◌, ◌≤◌, ◌<◌, ℤ, pos, length, get_or}
use Rattle.good.specs.declared.Slab.{Slab}
use Rattle.seal.specs.Seal.{byte}
use Rattle.block.specs.Scan.{NumberAt}
use Rattle.piece_block.specs.declared.PieceRead.{PieceRead}

pub record SlabAt (l : List ℕ) (b : Slab) : Type 0 where
  pub bottom : NumberAt l 0 b.bottom
  pub top : NumberAt l 1 b.top
  pub vx : NumberAt l 2 b.vx
  pub vy : NumberAt l 3 b.vy
  pub vz : NumberAt l 4 b.vz

-- n numbers of corners, with zeros after them
pub record CornersAt (l : List ℕ) (n : ℕ) (a : List ℤ) : Type 0 where
  pub all : length a ≡ 128
  pub each : (j : ℕ) → j < n → NumberAt l (5 + j) (get_or a j (pos 0))
  pub rest : (j : ℕ) → n ≤ j → get_or a j (pos 0) ≡ pos 0

-- the piece whose corners byte 1 counts
pub record PieceAt (l : List ℕ) (r : PieceRead) : Type 0 where
  pub slab : SlabAt l r.slab
  pub corners : CornersAt l (2 * r.count) r.corners
  pub count : r.count ≡ byte l 1
