-- "The printing program": the text that answers an input. Assumes nothing.
use Rattle.std.specs.Prelude.{◌≡◌, cond, List, [], ◌∷◌, ◌++◌, ℕ, zero, suc, ◌≤◌, ◌<◌, eqb, length, get_or, take, drop}
use Rattle.rules.specs.Reach.{Run}
use Rattle.rules.specs.Refusal.{Refusal, refuse, Check, Fault, Passes, demand}
use Rattle.rules.specs.Verdict.{NONE}
use Rattle.seal.specs.Seal.{block_size, Blocks}
use Rattle.block.specs.Reading.{run_block_checks, RunGood}
use Rattle.room.specs.Image.{count, room_checks}
use Rattle.room.specs.Verdicts.{CodeOf}
use Rattle.notice.specs.Notice.{feed, run_line, room_line}
use Rattle.print.specs.Digits.{digits}
use Rattle.print.specs.Put.{Puts}

-- "pieces ", " blocked ", " clear"
abbrev pub pieces : List ℕ
pieces = 112 ∷ 105 ∷ 101 ∷ 99 ∷ 101 ∷ 115 ∷ 32 ∷ []

abbrev pub blocked : List ℕ
blocked = 32 ∷ 98 ∷ 108 ∷ 111 ∷ 99 ∷ 107 ∷ 101 ∷ 100 ∷ 32 ∷ []

abbrev pub clear : List ℕ
clear = 32 ∷ 99 ∷ 108 ∷ 101 ∷ 97 ∷ 114 ∷ []

-- the answer of a code, and the mark where blocked
abbrev pub answered : ℕ → List ℕ
answered c = cond (eqb c NONE) clear (blocked ++ digits c)

-- piece number, answer
unfoldable pub piece_line : ℕ → ℕ → List ℕ
piece_line i c = digits i ++ (answered c ++ feed)

-- the lines of the first n pieces, by their codes
unfoldable pub piece_lines : List ℕ → ℕ → List ℕ
piece_lines codes zero = []
piece_lines codes (suc n) = piece_lines codes n ++ piece_line n (get_or codes n 0)

-- "pieces N", and a line for each
unfoldable pub page : List ℕ → ℕ → List ℕ
page codes n = pieces ++ (digits n ++ (feed ++ piece_lines codes n))

-- ---- the answer
-- a multiple of 512, from 1,024 to 65,536
abbrev pub Whole : List ℕ → Type 0
Whole input = Blocks 1024 65536 input

unfoldable pub length_checks : List ℕ → List Check
length_checks input = demand (Whole input) (refuse 1 0 0) ∷ []

-- a run block, then a room image
abbrev pub run_part : List ℕ → List ℕ
run_part input = take block_size input

abbrev pub room_part : List ℕ → List ℕ
room_part input = drop block_size input

-- a good room: its piece count, and the verdict on each piece
pub record Page (r : Run) (input out : List ℕ) : Type 0 where
  pub room : Passes (room_checks (room_part input))
  pub codes : List ℕ
  pub each : (i : ℕ) → i < count (room_part input) → CodeOf r (room_part input) i (get_or codes i 0)
  pub text : out ≡ page codes (count (room_part input))

-- the length first, then the run by itself, then the room
pub data Answers (input out : List ℕ) : Type 0 where
  bad_length : (x : Refusal) → Fault (length_checks input) x → out ≡ room_line x → Answers input out
  bad_run : Whole input → (x : Refusal) → Fault (run_block_checks (run_part input)) x → out ≡ run_line x → Answers input out
  bad_room : Whole input → (r : Run) → RunGood (run_part input) r → (x : Refusal) → Fault (room_checks (room_part input)) x → out ≡ room_line x → Answers input out
  verdicts : Whole input → (r : Run) → RunGood (run_part input) r → Page r input out → Answers input out

-- a text that answers the input is put at the buffer's begin, the whole of it
pub record Prints (input before after : List ℕ) (n : ℕ) : Type 0 where
  pub text : List ℕ
  pub answers : Answers input text
  pub room : length text ≤ length before
  pub puts : Puts before 0 text after n
