-- "Blocks of a room": the bytes of a header and of a run block, made from their numbers. Assumes nothing.
use Rattle.std.specs.Prelude.{List, [], ◌∷◌, ◌++◌, ℕ, ℤ, pos}
use Rattle.rules.specs.Reach.{Run}
use Rattle.pair.specs.Pair.{words}
use Rattle.seal.specs.Seal.{block_of}

-- ---- the numbers of the layout
-- so many bytes are the body of a run
abbrev pub run_body_size : ℕ
run_body_size = 14

-- bytes 0 to 3 of a header are 52 4F 4F 4D, byte 4 the edition
abbrev pub name : List ℕ
name = 0x52 ∷ 0x4F ∷ 0x4F ∷ 0x4D ∷ []

abbrev pub edition : ℕ
edition = 1

-- byte 0 of a piece block, and of a run block
abbrev pub piece_kind : ℕ
piece_kind = 1

abbrev pub run_kind : ℕ
run_kind = 2

-- ---- headers and runs
-- the header of a room of n pieces, and its first bytes
abbrev pub header_front : ℕ → List ℕ
header_front n = name ++ (edition ∷ n ∷ [])

unfoldable pub header_block : ℕ → List ℕ
header_block n = block_of (header_front n)

-- position, velocity and T
abbrev pub run_numbers : Run → List ℤ
run_numbers r = r.start.x ∷ r.start.y ∷ r.start.z ∷ r.speed.x ∷ r.speed.y ∷ r.speed.z ∷ pos r.ticks ∷ []

-- bytes 2 to 15 of a run block
unfoldable pub run_body : Run → List ℕ
run_body r = words (run_numbers r)

unfoldable pub run_block : Run → List ℕ
run_block r = block_of (run_kind ∷ 0 ∷ run_body r)
