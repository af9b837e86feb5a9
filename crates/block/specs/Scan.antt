-- The numbers that stand in a block, and those of a run. Assumes nothing.
use Rattle.std.specs.Prelude.{◌≡◌, List, ℕ, ◌+◌, ◌*◌, ℤ}
use Rattle.good.specs.declared.Run.{Run}
use Rattle.seal.specs.Seal.{byte}
use Rattle.pair.specs.Pair.{Spelt}

-- number j of a block stands at byte 2 + 2·j
abbrev pub NumberAt : List ℕ → ℕ → ℤ → Type 0
NumberAt l j z = Spelt (byte l (2 + 2 * j)) (byte l (3 + 2 * j)) z

pub record RunAt (l : List ℕ) (r : Run) : Type 0 where
  pub x : NumberAt l 0 r.x
  pub y : NumberAt l 1 r.y
  pub z : NumberAt l 2 r.z
  pub vx : NumberAt l 3 r.vx
  pub vy : NumberAt l 4 r.vy
  pub vz : NumberAt l 5 r.vz
  pub ticks : r.ticks ≡ byte l 14 + 256 * byte l 15
