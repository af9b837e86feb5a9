-- What asking a book answers, and what it leaves in it, for any bytes. Assumes nothing.
use Rattle.std.specs.Prelude.{◌≡◌, List, ◌∷◌, ℕ, ◌*◌, ◌<◌, replicate, Result, Ok, Err}
use Rattle.rules.specs.Reach.{Run, Piece}
use Rattle.rules.specs.Refusal.{refuse, Check, Passes, Fault, demand}
use Rattle.rules.specs.Verdict.{Verdict, verdict_checks, answer}
use Rattle.refusal.specs.Said.{said}
use Rattle.seal.specs.Seal.{block_size}
use Rattle.book.specs.declared.Asked.{Asked}
use Rattle.book.specs.declared.Asked.TheVariants.{Remembered, Worked}
use Rattle.refusal.specs.declared.Refusal.{Refusal}
use Rattle.book.specs.Entry.{Slots, home, entry, Hit, put}

-- length, then run, then piece
unfoldable pub ask_checks : List ℕ → Run → Piece → List Check
ask_checks book r k = demand (Slots book) (refuse 1 0 0) ∷ verdict_checks r k

-- a hit answers and changes nothing
pub record Hits (book after : List ℕ) (r : Run) (k : Piece) (c : ℕ) : Type 0 where
  pub passes : Passes (ask_checks book r k)
  pub hit : Hit book r k c
  pub same : after ≡ book

-- otherwise the verdict is worked out, and the home slot becomes its entry
pub record Misses (book after : List ℕ) (r : Run) (k : Piece) (c : ℕ) : Type 0 where
  pub passes : Passes (ask_checks book r k)
  pub miss : (d : ℕ) → Hit book r k d → ⊥
  pub small : c < 4294967296
  pub verdict : Verdict r k (answer c)
  pub stored : after ≡ put book (home book r k) (entry r k c)

abbrev pub AskSays : List ℕ → List ℕ → Run → Piece → Result Asked Refusal → Type 0
AskSays book after r k (Ok (Remembered c)) = Hits book after r k c
AskSays book after r k (Ok (Worked c)) = Misses book after r k c
AskSays book after r k (Err x) = Fault (ask_checks book r k) (said x) × (after ≡ book)

-- ---- books begun empty and written only by asking
pub data Kept : List ℕ → Type 0 where
  empty : (n : ℕ) → Kept (replicate (block_size * n) 0)
  asked : (book after : List ℕ) (r : Run) (k : Piece) (a : Result Asked Refusal) → Kept book → AskSays book after r k a → Kept after
