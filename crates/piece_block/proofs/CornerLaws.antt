-- Corners that were read into the front of an array of zeros are those of the block. Assumes nothing.
use mathlib.Core.Path.{◌≡◌, sym, ap, subst, ◌∙◌}
use mathlib.Core.List.{List, ◌++◌}
use Prim.Native.Nat.{ℕ, ◌+◌, ◌*◌, ◌-◌, ◌≤◌, ◌<◌}
use native.Mathlib.Omega.{arith}
use lib.IntN.{ℤ, pos}
use lib.ListN.{length, get_or, take, drop, replicate, length-append, length-drop, length-replicate, get_or-append}
use lib.Seq.{get_or-drop, get_or-append-add}
use Rattle.pair.specs.Pair.{NumbersOf}
use Rattle.pair.proofs.Words.{numbers_length}
use Rattle.seal.specs.Seal.{block_size}
use Rattle.seal.proofs.Bytes.{repeated}
use Rattle.seal.proofs.Replaced.{part_length}
use Rattle.block.specs.Scan.{NumberAt}
use Rattle.block.proofs.Laid.{part_number}
use Rattle.piece_block.specs.Scan.{CornersAt}

abbrev pub zeros : List ℤ
zeros = replicate 128 (pos 0)

module _ (l : List ℕ) (n m : ℕ) (h : n ≤ 128) (long : length l ≡ block_size) (e : m ≡ 2 * n) (zs : List ℤ) (a : NumbersOf (take m (drop 12 l)) zs) where
  count : length zs ≡ n
  count = omega (arith, numbers_length (take m (drop 12 l)) zs a, part_length l 12 m (omega arith))

  all : length (zs ++ drop n zeros) ≡ 128
  all = omega (arith, length-append zs (drop n zeros), length-drop n zeros, length-replicate 128 (pos 0), count)

  each : (j : ℕ) → j < n → NumberAt l (5 + j) (get_or (zs ++ drop n zeros) j (pos 0))
  each j g = subst (NumberAt l (5 + j)) (sym (get_or-append zs (drop n zeros) (pos 0) j (omega (arith, count)))) (part_number l 5 m zs a j (omega arith))

  rest : (j : ℕ) → n ≤ j → get_or (zs ++ drop n zeros) j (pos 0) ≡ pos 0
  rest j g =
      let d : j ≡ length zs + (j - n) = omega (arith, count) in
      ap (λ i. get_or (zs ++ drop n zeros) i (pos 0)) d ∙ get_or-append-add zs (drop n zeros) (j - n) (pos 0) ∙ get_or-drop n zeros (j - n) (pos 0) ∙ repeated (pos 0) 128 (n + (j - n))

  pub corners_read : CornersAt l n (zs ++ drop n zeros)
  corners_read = record { all = all; each = each; rest = rest }
