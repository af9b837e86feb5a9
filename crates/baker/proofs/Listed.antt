-- A piece that was read has few enough corners to be put into a lent list. Assumes nothing.
use mathlib.Core.List.{List}
use Prim.Native.Nat.{ℕ, ◌≤◌}
use native.Mathlib.Omega.{arith}
use Rattle.piece_block.specs.declared.PieceRead.{PieceRead}
use Rattle.piece_block.specs.Reading.{PieceGood}
use Rattle.piece_block.proofs.PieceLaws.{held_few}

pub read_few : (l : List ℕ) (r : PieceRead) → PieceGood l r → r.count ≤ 64
read_few l r f = omega (arith, held_few l r f)
