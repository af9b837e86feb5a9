-- What reading and writing a header or a run block finds, and which bytes of each kind are no numbers: the order of refusals, and what is answered. Assumes nothing.
use Rattle.std.specs.Prelude.{◌≡◌, List, [], ◌∷◌, ◌++◌, ℕ, ◌+◌, ◌*◌, ◌<◌, pos, length, get_or, Result, Ok, Err}
use Rattle.rules.specs.Reach.{Corners, Pieces, Run}
use Rattle.rules.specs.Refusal.{refuse, Check, Passes, Fault, demand, each}
use Rattle.rules.specs.Good.{run_checks}
use Rattle.refusal.specs.Said.{said, Checked, Writes}
use Rattle.refusal.specs.declared.Refusal.{Refusal}
use Rattle.good.specs.Numbers.{run_of}
use Rattle.good.specs.declared.Run as good
use Rattle.block.specs.declared.kind.Kind.{Kind}
use Rattle.block.specs.declared.kind.Kind.TheVariants as kind
use Rattle.pair.specs.Pair.{Half}
use Rattle.seal.specs.Seal.{byte, length_check, block_checks, unnamed_check}
use Rattle.block.specs.Layout.{name, edition, piece_kind, run_kind, run_body_size, header_block, run_numbers, run_body, run_block}

-- ---- the checks of a block's own bytes
-- byte i is n
abbrev pub byte_check : List ℕ → ℕ → ℕ → Check
byte_check l i n = demand (byte l i ≡ n) (refuse 3 i 0)

-- byte j is not that of the name
abbrev pub Misspelt : List ℕ → ℕ → Type 0
Misspelt l j = byte l j ≡ get_or name j 0 → ⊥

-- a header, by rising offset: the name, the edition, the piece count, the unnamed bytes
unfoldable pub header_bytes : List ℕ → List Check
header_bytes l =
    each (Misspelt l) 4 (λ i. refuse 3 i 0)
    ∷ byte_check l 4 edition
    ∷ demand (Pieces (byte l 5)) (refuse 3 5 0)
    ∷ unnamed_check l 6
    ∷ []

unfoldable pub header_checks : List ℕ → List Check
header_checks l = block_checks l ++ header_bytes l

-- a run, by rising offset: the kind, the unnamed bytes
unfoldable pub run_bytes : List ℕ → List Check
run_bytes l = byte_check l 0 run_kind ∷ byte_check l 1 0 ∷ unnamed_check l 16 ∷ []

-- a piece: the kind, the corner count, the unnamed bytes
unfoldable pub piece_bytes : List ℕ → List Check
piece_bytes l =
    byte_check l 0 piece_kind
    ∷ demand (Corners (byte l 1)) (refuse 5 0 0)
    ∷ unnamed_check l (12 + 4 * byte l 1)
    ∷ []

-- the bytes that are no numbers, by the kind of the block
abbrev pub bytes_of : Kind → List ℕ → List Check
bytes_of kind.Header l = header_bytes l
bytes_of kind.Run l = run_bytes l
bytes_of kind.Piece l = piece_bytes l

-- ---- the numbers that a block holds
-- l is the block of the run r, whose numbers two bytes hold
pub record RunIn (l : List ℕ) (r : Run) : Type 0 where
  pub signed : (j : ℕ) → j < 6 → Half (get_or (run_numbers r) j (pos 0))
  pub ticks : r.ticks < 65536
  pub same : l ≡ run_block r

-- the checks of what is in the block
abbrev pub inside : {A : Type 0} → (A → Type 0) → (A → List Check) → Check
inside {A} In cs = record { passes = (a : A) × In a × Passes (cs a); fails = λ s. (a : A) × In a × Fault (cs a) s }

-- a run block: its bytes, then the run's numbers
unfoldable pub run_block_checks : List ℕ → List Check
run_block_checks l = (block_checks l ++ run_bytes l) ++ (inside (RunIn l) run_checks ∷ [])

-- ---- answers
-- a header's piece count, or the refusal
abbrev pub HeaderRead : Type 0
HeaderRead = Result ℕ Refusal

-- a run, or the refusal
abbrev pub RunRead : Type 0
RunRead = Result good.Run Refusal

-- a header is accepted iff it is the header of so many pieces; a run block, iff it is the block of that run, which is good
abbrev pub HeaderSays : List ℕ → HeaderRead → Type 0
HeaderSays l (Ok n) = Pieces n × (l ≡ header_block n)
HeaderSays l (Err x) = Fault (header_checks l) (said x)

pub record RunGood (l : List ℕ) (r : Run) : Type 0 where
  pub good : Passes (run_checks r)
  pub same : l ≡ run_block r

abbrev pub RunSays : List ℕ → RunRead → Type 0
RunSays l (Ok r) = RunGood l (run_of r)
RunSays l (Err x) = Fault (run_block_checks l) (said x)

-- ---- writing: what is refused, and what is answered and left
-- asked for with a count over 126: 3 at 5
unfoldable pub header_asked : List ℕ → ℕ → List Check
header_asked l n = length_check l ∷ demand (Pieces n) (refuse 3 5 0) ∷ []

abbrev pub WriteHeaderSays : ℕ → List ℕ → List ℕ → Checked → Type 0
WriteHeaderSays n before after r = Writes (header_asked before n) (header_block n) before after r

-- the bytes of a run alone
unfoldable pub run_body_asked : List ℕ → Run → List Check
run_body_asked bytes r = demand (length bytes ≡ run_body_size) (refuse 1 0 0) ∷ run_checks r

abbrev pub WriteRunBodySays : Run → List ℕ → List ℕ → Checked → Type 0
WriteRunBodySays run before after r = Writes (run_body_asked before run) (run_body run) before after r

-- a run in plain numbers
unfoldable pub run_asked : List ℕ → Run → List Check
run_asked l r = length_check l ∷ run_checks r

abbrev pub WriteRunSays : Run → List ℕ → List ℕ → Checked → Type 0
WriteRunSays run before after r = Writes (run_asked before run) (run_block run) before after r
