-- The checks of piece blocks are definite: each list of bytes has at most one first fault. Assumes nothing.
use mathlib.Core.List.{List, ◌∷◌}
use Prim.Native.Nat.{ℕ}
use Rattle.rules.specs.Reach.{Run, Piece}
use Rattle.rules.specs.Good.{run_checks, piece_checks}
use Rattle.rules.proofs.Checks.{AllDefinite, definite_demand, definite_each, definite_append}
use Rattle.rules.proofs.Good.{definite_run, definite_piece}
use Rattle.seal.specs.Seal.{length_check}
use Rattle.block.specs.Reading.{piece_bytes}
use Rattle.block.specs.declared.kind.Kind.TheVariants as kind
use Rattle.block.proofs.OneFault.{definite_bytes, definite_held}
use Rattle.piece_block.specs.Reading.{PieceIn, piece_block_checks, piece_body_asked, piece_asked}
use Rattle.piece_block.specs.Verdicts.{verdict_in_checks}
use Rattle.piece_block.proofs.PieceLaws.{piece_one}

-- ---- reading
pub definite_piece_block : (l : List ℕ) → AllDefinite (piece_block_checks l)
unfolding piece_block_checks
definite_piece_block l = definite_held l (piece_bytes l) (PieceIn l) piece_checks (definite_bytes kind.Piece l) (piece_one l) definite_piece

pub definite_verdict_in : (r : Run) (l : List ℕ) → AllDefinite (verdict_in_checks r l)
unfolding verdict_in_checks
definite_verdict_in r l = definite_append (length_check l ∷ run_checks r) (piece_block_checks l) (definite_demand _ _, definite_run r) (definite_piece_block l)

-- ---- writing
pub definite_piece_body_asked : (bytes : List ℕ) (k : Piece) → AllDefinite (piece_body_asked bytes k)
unfolding piece_body_asked
definite_piece_body_asked bytes k = (definite_demand _ _, (definite_demand _ _, (definite_each _ _ _, tt)))

pub definite_piece_asked : (l : List ℕ) (k : Piece) → AllDefinite (piece_asked l k)
unfolding piece_asked
definite_piece_asked l k = (definite_demand _ _, definite_piece k)
