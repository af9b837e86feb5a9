-- The checks of blocks are definite: each list of bytes has at most one first fault. Assumes nothing.
use mathlib.Core.List.{List, [], ◌∷◌}
use Prim.Native.Nat.{ℕ}
use Rattle.rules.proofs.Checks.{AllDefinite, definite_demand, definite_each}
use Rattle.seal.specs.Seal.{length_check, block_checks, unnamed_check}
use Rattle.seal.specs.Parts.{parts_asked}

pub definite_block : (l : List ℕ) → AllDefinite (block_checks l)
unfolding block_checks
definite_block l = (definite_demand _ _, (definite_demand _ _, tt))

pub definite_unnamed : (l : List ℕ) (from : ℕ) → AllDefinite (length_check l ∷ unnamed_check l from ∷ [])
definite_unnamed l from = (definite_demand _ _, (definite_each _ _ _, tt))

pub definite_parts_asked : (l first last : List ℕ) (at : ℕ) → AllDefinite (parts_asked l first last at)
unfolding parts_asked
definite_parts_asked l first last at = (definite_demand _ _, (definite_demand _ _, tt))
