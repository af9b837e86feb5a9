-- "Blocks of a room": the bytes of a piece block, made from the piece's numbers. Assumes nothing.
use Rattle.std.specs.Prelude.{List, ◌∷◌, ℕ, ℤ}
use Rattle.rules.specs.Reach.{Piece}
use Rattle.rules.specs.Ring.{ring}
use Rattle.pair.specs.Pair.{words}
use Rattle.seal.specs.Seal.{filled, block_of}
use Rattle.block.specs.Layout.{piece_kind}

-- so many bytes are the body of a piece
abbrev pub piece_body_size : ℕ
piece_body_size = 267

-- bottom, top, velocity and corners
abbrev pub piece_numbers : Piece → List ℤ
piece_numbers k = k.bottom ∷ k.top ∷ k.speed.x ∷ k.speed.y ∷ k.speed.z ∷ k.corners

-- bytes 1 and up of a piece block: the corner count and the numbers
abbrev pub piece_front : Piece → List ℕ
piece_front k = (ring k.corners).size ∷ words (piece_numbers k)

-- bytes 1 to 267: then zeros for the corners that it lacks
unfoldable pub piece_body : Piece → List ℕ
piece_body k = filled piece_body_size (piece_front k)

unfoldable pub piece_block : Piece → List ℕ
piece_block k = block_of (piece_kind ∷ piece_body k)
