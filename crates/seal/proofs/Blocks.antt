-- Block i of a list: its length, its bytes, and as a part of the list. Assumes nothing.
use mathlib.Core.Path.{◌≡◌, ap, ◌∙◌}
use mathlib.Core.List.{List}
use Prim.Native.Nat.{ℕ, suc, ◌+◌, ◌*◌, ◌-◌, ◌≤◌, ◌<◌}
use native.Mathlib.Omega.{arith}
use lib.ListN.{length, take, drop}
use lib.Seq.{get_or-take, get_or-drop}
use Rattle.seal.specs.Seal.{block_size, byte, block_at}
use Rattle.seal.proofs.Replaced.{part_length}

-- from 512·i to 512·i + 512, as code lends it
pub nth_size : (i : ℕ) → block_size * i + block_size - block_size * i ≡ block_size
nth_size i = omega arith

module _ (l : List ℕ) (i : ℕ) where
  pub nth_length : block_size * suc i ≤ length l → length (block_at l i) ≡ block_size
  unfolding block_at
  nth_length h = part_length l (block_size * i) block_size (omega arith)

  pub nth_byte : (j : ℕ) → j < block_size → byte (block_at l i) j ≡ byte l (block_size * i + j)
  unfolding block_at
  nth_byte j h = get_or-take block_size (drop (block_size * i) l) j 0 h ∙ get_or-drop (block_size * i) l j 0

  pub nth_part : take (block_size * i + block_size - block_size * i) (drop (block_size * i) l) ≡ block_at l i
  unfolding block_at
  nth_part = ap (λ n. take n (drop (block_size * i) l)) (nth_size i)
