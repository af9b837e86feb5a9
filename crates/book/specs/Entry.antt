-- "The book": slots, entries and hits, on any bytes. Assumes nothing.
use Rattle.std.specs.Prelude.{◌≡◌, ◌⊎◌, List, [], ◌∷◌, ◌++◌, ℕ, suc, ◌+◌, ◌-◌, ◌*◌, ◌/◌, ◌%◌, ◌≤◌, ◌<◌, length, take, drop}
use Rattle.rules.specs.Reach.{Run, Piece}
use Rattle.rules.specs.Verdict.{NONE}
use Rattle.seal.specs.Seal.{block_size, body_size, byte, Blocks, block_at, sum, block_of, Sealed}
use Rattle.block.specs.Layout.{run_body}
use Rattle.piece_block.specs.Layout.{piece_body}

-- 1 to 128 slots of 512 bytes
abbrev pub Slots : List ℕ → Type 0
Slots book = Blocks block_size 65536 book

abbrev pub slots : List ℕ → ℕ
slots book = length book / block_size

-- ---- the parts of an entry
-- byte 0
abbrev pub kind : ℕ
kind = 3

-- the key: bytes 2 to 282
abbrev pub key_length : ℕ
key_length = 281

-- in it the run's bytes, then the piece's
abbrev pub piece_at : ℕ
piece_at = 16

abbrev pub piece_length : ℕ
piece_length = 2 + key_length - piece_at

-- the verdict: bytes 283 to 286
abbrev pub code_at : ℕ
code_at = 2 + key_length

abbrev pub code_end : ℕ
code_end = code_at + 4

-- four bytes, low first
abbrev pub four : ℕ → List ℕ
four c = c % 256 ∷ c / 256 % 256 ∷ c / 256 / 256 % 256 ∷ c / 256 / 256 / 256 % 256 ∷ []

-- bytes 0 to 282 of an entry
abbrev pub opening : List ℕ → List ℕ
opening key = kind ∷ 0 ∷ key

-- the entry of a key that remembers the code c
unfoldable pub entry_of : List ℕ → ℕ → List ℕ
entry_of key c = block_of (opening key ++ four c)

-- clear, or at most 256·T
abbrev pub Possible : ℕ → ℕ → Type 0
Possible ticks c = (c ≡ NONE) ⊎ (c ≤ 256 * ticks)

-- a slot is a sound entry of a key with so many ticks, and remembers c
pub record Sound (slot key : List ℕ) (ticks c : ℕ) : Type 0 where
  pub fits : c < 4294967296
  pub possible : Possible ticks c
  pub same : slot ≡ entry_of key c

-- "its check is right, byte 0 is 3, all of bytes 2 to 282 equal the question, the verdict is clear or at most 256·T, and unnamed bytes are zero"
pub record Conditions (slot key : List ℕ) (ticks c : ℕ) : Type 0 where
  pub check : Sealed slot
  pub kind_right : byte slot 0 ≡ kind
  pub key_equal : (i : ℕ) → i < key_length → byte slot (2 + i) ≡ byte key i
  pub verdict : (i : ℕ) → i < 4 → byte slot (code_at + i) ≡ byte (four c) i
  pub fits : c < 4294967296
  pub possible : Possible ticks c
  pub second_zero : byte slot 1 ≡ 0
  pub rest_zero : (i : ℕ) → code_end ≤ i → i < body_size → byte slot i ≡ 0

-- ---- a question, and its home
-- the run's bytes and the piece's are the key
unfoldable pub question : Run → Piece → List ℕ
question r k = run_body r ++ piece_body k

-- the sum of these bytes, modulo the number of slots
unfoldable pub home : List ℕ → Run → Piece → ℕ
home book r k = sum (λ i. byte (question r k) i) (length (question r k)) % slots book

abbrev pub entry : Run → Piece → ℕ → List ℕ
entry r k c = entry_of (question r k) c

-- the home slot is a sound entry for this question
abbrev pub Hit : List ℕ → Run → Piece → ℕ → Type 0
Hit book r k c = Sound (block_at book (home book r k)) (question r k) r.ticks c

-- the book with slot i put in its place
unfoldable pub put : List ℕ → ℕ → List ℕ → List ℕ
put book i slot = take (block_size * i) book ++ (slot ++ drop (block_size * suc i) book)
