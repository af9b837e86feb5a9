-- A block of zeros, whose check is right, is refused for its first byte. Assumes nothing.
use mathlib.Core.Path.{refl}
use mathlib.Core.Logic.{inl}
use mathlib.Core.List.{[], ◌∷◌, ◌++◌}
use Rattle.rules.specs.Refusal.{refuse, Fault}
use Rattle.rules.specs.Good.{piece_checks}
use Rattle.rules.proofs.Checks.{fault_left, fault_right}
use Rattle.seal.specs.Seal.{block_checks}
use Rattle.seal.proofs.Zero.{zeros, zero_not, zero_sealed}
use Rattle.block.specs.Reading.{inside, piece_bytes}
use Rattle.piece_block.specs.Reading.{PieceIn, piece_block_checks}

pub zero_piece : Fault (piece_block_checks zeros) (refuse 3 0 0)
unfolding piece_block_checks piece_bytes
zero_piece =
    fault_left (block_checks zeros ++ piece_bytes zeros) (inside (PieceIn zeros) piece_checks ∷ []) (refuse 3 0 0)
    (fault_right (block_checks zeros) (piece_bytes zeros) (refuse 3 0 0) zero_sealed (inl (zero_not 0, refl)))
