-- A block of two parts: what is written, and when a block is that. `Writes` has one outcome by refusal/proofs/Unique `writes_one`. Assumes nothing.
use Rattle.std.specs.Prelude.{◌≡◌, List, [], ◌∷◌, ◌++◌, ℕ, ◌+◌, ◌≤◌, length}
use Rattle.rules.specs.Refusal.{refuse, Check, demand}
use Rattle.refusal.specs.Said.{Writes, Checked}
use Rattle.seal.specs.Seal.{body_size, filled, block_of, length_check}

-- first bytes and others from byte `at` on, within 510
pub record PartsFit (first last : List ℕ) (at : ℕ) : Type 0 where
  pub begin : length first ≤ at
  pub end : at + length last ≤ body_size

abbrev pub fit_check : List ℕ → List ℕ → ℕ → Check
fit_check first last at = demand (PartsFit first last at) (refuse 1 0 0)

unfoldable pub parts_asked : List ℕ → List ℕ → List ℕ → ℕ → List Check
parts_asked l first last at = length_check l ∷ fit_check first last at ∷ []

-- and the block that is made of them
abbrev pub parts_block : List ℕ → List ℕ → ℕ → List ℕ
parts_block first last at = block_of (filled at first ++ last)

abbrev pub WritePartsSays : List ℕ → List ℕ → ℕ → List ℕ → List ℕ → Checked → Type 0
WritePartsSays first last at before after r = Writes (parts_asked before first last at) (parts_block first last at) before after r

pub record PartsIn (first last : List ℕ) (at : ℕ) (l : List ℕ) : Type 0 where
  pub fit : PartsFit first last at
  pub same : l ≡ parts_block first last at
