-- What the steps of asking lay out and find. Assumes nothing.
use Rattle.std.specs.Prelude.{◌≡◌, List, ◌++◌, ℕ, ◌+◌, ◌*◌, ◌≤◌, ◌<◌, take, Option, Some, None, Result, Ok, Err}
use Rattle.rules.specs.Reach.{Run, Piece}
use Rattle.rules.specs.Refusal.{Passes, Fault}
use Rattle.rules.specs.Good.{piece_checks}
use Rattle.rules.specs.Verdict.{Verdict, verdict_checks, answer}
use Rattle.refusal.specs.Said.{said}
use Rattle.seal.specs.Seal.{byte, filled, block_of}
use Rattle.good.specs.Numbers.{run_of, piece_of}
use Rattle.book.specs.declared.Query.{Query}
use Rattle.book.specs.declared.Asked.{Asked}
use Rattle.book.specs.declared.Asked.TheVariants.{Remembered, Worked}
use Rattle.refusal.specs.declared.Refusal.{Refusal}
use Rattle.book.specs.Entry.{code_at, question, four, opening, Possible}

-- the run and the piece that a book is asked
abbrev pub run_in : Query → Run
run_in q = run_of q.run

abbrev pub piece_in : Query → Piece
piece_in q = piece_of q.slab q.corners.now

-- the first bytes of an entry before `end`, and zeros from there to the verdict
unfoldable pub first_bytes : List ℕ → ℕ → List ℕ
first_bytes front end = filled code_at (take end front)

-- bytes 0 to 282 of a good question, which are zero from `end` on
pub record Begun (r : Run) (k : Piece) (front : List ℕ) (end : ℕ) : Type 0 where
  pub within : end ≤ code_at
  pub first : Passes (piece_checks k) → front ≡ opening (question r k)
  pub zeros : Passes (piece_checks k) → first_bytes front end ≡ opening (question r k)

-- the verdict's bytes, low first
abbrev pub CodeBytes : List ℕ → ℕ → Type 0
CodeBytes slot c = c ≡ byte slot code_at + 256 * byte slot (code_at + 1) + 65536 * byte slot (code_at + 2) + 16777216 * byte slot (code_at + 3)

-- the slot is sound and remembers c of a run, after these first bytes
pub record SoundAfter (slot first : List ℕ) (r : Run) (c : ℕ) : Type 0 where
  pub fits : c < 4294967296
  pub possible : Possible r.ticks c
  pub same : slot ≡ block_of (first ++ four c)

abbrev pub Recalls : List ℕ → List ℕ → Run → Option ℕ → Type 0
Recalls slot first r (Some c) = SoundAfter slot first r c
Recalls slot first r None = (c : ℕ) → SoundAfter slot first r c → ⊥

-- a good question is worked out, and the slot becomes the block of these first bytes and the code
pub record WorkedOut (after first : List ℕ) (r : Run) (k : Piece) (c : ℕ) : Type 0 where
  pub passes : Passes (verdict_checks r k)
  pub small : c < 4294967296
  pub verdict : Verdict r k (answer c)
  pub kept : after ≡ block_of (first ++ four c)

-- another question changes nothing
abbrev pub Works : List ℕ → List ℕ → List ℕ → Run → Piece → Result Asked Refusal → Type 0
Works slot after first r k (Ok (Remembered c)) = ⊥
Works slot after first r k (Ok (Worked c)) = WorkedOut after first r k c
Works slot after first r k (Err x) = Fault (verdict_checks r k) (said x) × (after ≡ slot)
