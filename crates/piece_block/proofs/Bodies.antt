-- How long the bytes of a piece are, and that they are its front and zeros. Assumes nothing.
use mathlib.Core.Path.{◌≡◌, ap, ◌∙◌}
use mathlib.Core.List.{List, ◌++◌}
use Prim.Native.Nat.{ℕ, ◌+◌, ◌*◌, ◌-◌, ◌≤◌}
use native.Mathlib.Omega.{arith}
use lib.ListN.{length, take, replicate}
use Rattle.rules.specs.Reach.{Piece}
use Rattle.piece_block.specs.Layout.{piece_body_size, piece_numbers, piece_front, piece_body}
use Rattle.seal.specs.Seal.{filled}
use Rattle.seal.specs.Scan.{cleared}
use Rattle.seal.proofs.Bytes.{filled_length}
use Rattle.pair.proofs.Words.{words_length}

pub front_length : (k : Piece) → length (piece_front k) ≡ 11 + 2 * length k.corners
front_length k = omega (arith, words_length (piece_numbers k))

pub piece_body_length : (k : Piece) → length k.corners ≤ 128 → length (piece_body k) ≡ piece_body_size
unfolding piece_body
piece_body_length k h = filled_length piece_body_size (piece_front k) (omega (arith, front_length k))

-- what was laid out, and zeros after it
pub body_is : (k : Piece) (laid after : List ℕ) (n : ℕ) → n ≡ 11 + 2 * length k.corners → length laid ≡ piece_body_size → take n laid ≡ piece_front k → after ≡ cleared n laid → after ≡ piece_body k
unfolding cleared filled piece_body
body_is k laid after n e long front c =
    let d : length laid - n ≡ piece_body_size - length (piece_front k) = omega (arith, front_length k) in
    c ∙ ap (λ (f : List ℕ). f ++ replicate (length laid - n) 0) front ∙ ap (λ m. piece_front k ++ replicate m 0) d
