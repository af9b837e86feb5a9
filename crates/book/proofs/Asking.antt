-- From a slot looked at, or written, to what asking says. Assumes nothing.
use Rattle.std.specs.Prelude.{Some, None, Result, Ok, Err}
use mathlib.Core.Path.{◌≡◌, sym, ap, ◌∙◌}
use mathlib.Core.Logic.{inr}
use mathlib.Core.List.{List, ◌++◌}
use Prim.Native.Nat.{ℕ, ◌+◌, ◌*◌, ◌-◌, ◌%◌}
use lib.ListN.{take, drop}
use Rattle.seal.proofs.Blocks.{nth_part}
use Rattle.seal.proofs.Replaced.{mid}
use Rattle.rules.specs.Reach.{Run, Piece}
use Rattle.rules.specs.Refusal.{Refusal, Passes, Fault}
use Rattle.rules.specs.Good.{run_checks, piece_checks}
use Rattle.rules.specs.Verdict.{verdict_checks}
use Rattle.rules.proofs.Checks.{passes_append, fault_left, fault_right}
use Rattle.refusal.specs.Said.{said}
use Rattle.refusal.specs.declared.Refusal as told
use Rattle.seal.specs.Seal.{byte, sum, block_of, block_at}
use Rattle.book.specs.declared.Asked.{Asked}
use Rattle.book.specs.declared.Asked.TheVariants.{Remembered, Worked}
use Rattle.book.specs.Entry.{Slots, slots, key_length, four, entry_of, home, entry, Hit, put}
use Rattle.book.specs.Ask.{ask_checks, AskSays}
use Rattle.book.specs.Steps.{first_bytes, Begun, SoundAfter, Recalls, Works}
use Rattle.book.proofs.Slots.{part_put, put_self}
use Rattle.book.proofs.Kept.{piece_passes}
use Rattle.book.proofs.Lay.{home_is}

-- a good run asks: its question stands in the first bytes, and its home slot is known
pub record Asking (book front : List ℕ) (r : Run) (k : Piece) (end i : ℕ) : Type 0 where
  pub sized : Slots book
  pub good : Passes (run_checks r)
  pub begun : Begun r k front end
  pub at : i ≡ sum (λ j. byte front (2 + j)) key_length % slots book

-- a slot as code takes it from the book, and the book that it is put back into
abbrev pub lent : List ℕ → ℕ → List ℕ
lent book i = take (512 * i + 512 - 512 * i) (drop (512 * i) book)

abbrev pub back : List ℕ → ℕ → List ℕ → List ℕ
back book i slot = mid (512 * i) (512 * i + 512 - 512 * i) book slot

back_same : (book : List ℕ) (i : ℕ) → back book i (lent book i) ≡ book
back_same book i = part_put book i (lent book i) ∙ ap (put book i) (nth_part book i) ∙ put_self book i

module _ {book front : List ℕ} {r : Run} {k : Piece} {end i : ℕ} (q : Asking book front r k end i) where
  -- the run passes, so the rest is the piece's
  pub piece_fault : (x : told.Refusal) → Fault (piece_checks k) (said x) → AskSays book (back book i (lent book i)) r k (Err x)
  unfolding ask_checks verdict_checks
  piece_fault x f = (inr (q.sized, fault_right (run_checks r) (piece_checks k) (said x) q.good f), back_same book i)

  -- ---- a good piece is laid out
  module _ (p : Passes (piece_checks k)) where
    all_pass : Passes (ask_checks book r k)
    unfolding ask_checks verdict_checks
    all_pass = (q.sized, passes_append (run_checks r) (piece_checks k) q.good p)

    at_home : i ≡ home book r k
    at_home = q.at ∙ home_is book front r k p (q.begun.first p)

    entry_is : (c : ℕ) → block_of (first_bytes front end ++ four c) ≡ entry r k c
    unfolding entry_of
    entry_is c = ap (λ (l : List ℕ). block_of (l ++ four c)) (q.begun.zeros p)

    -- the slot that is looked at is the home
    looked_at : lent book i ≡ block_at book (home book r k)
    looked_at = nth_part book i ∙ ap (block_at book) at_home

    to_hit : (c : ℕ) → SoundAfter (lent book i) (first_bytes front end) r c → Hit book r k c
    to_hit c h = record { fits = h.fits; possible = h.possible; same = sym looked_at ∙ h.same ∙ entry_is c }

    of_hit : (c : ℕ) → Hit book r k c → SoundAfter (lent book i) (first_bytes front end) r c
    of_hit c h = record { fits = h.fits; possible = h.possible; same = looked_at ∙ h.same ∙ sym (entry_is c) }

    -- what is kept is the entry in its home
    kept_is : (after : List ℕ) (c : ℕ) → after ≡ block_of (first_bytes front end ++ four c) → back book i after ≡ put book (home book r k) (entry r k c)
    kept_is after c e = part_put book i after ∙ ap (λ n. put book n after) at_home ∙ ap (put book (home book r k)) (e ∙ entry_is c)

  pub hits : (c : ℕ) → Recalls (lent book i) (first_bytes front end) r (Some c) → Passes (piece_checks k) → AskSays book (back book i (lent book i)) r k (Ok (Remembered c))
  hits c f p = record { passes = all_pass p; hit = to_hit p c f; same = back_same book i }

  pub works : Recalls (lent book i) (first_bytes front end) r None → (after : List ℕ) (a : Result Asked told.Refusal) → Works (lent book i) after (first_bytes front end) r k a
      → AskSays book (back book i after) r k a
  unfolding ask_checks
  works f after (Ok (Remembered c)) w = absurd w
  works f after (Ok (Worked c)) w =
      let p = piece_passes r k w.passes in
      record { passes = all_pass p; miss = λ m h. f m (of_hit p m h); small = w.small; verdict = w.verdict; stored = kept_is p after c w.kept }
  works f after (Err y) w = (inr (q.sized, w.0), ap (back book i) w.1 ∙ back_same book i)

-- the run is looked at before the piece
pub run_faulty : (r : Run) (k : Piece) (x : Refusal) → Fault (run_checks r) x → Fault (verdict_checks r k) x
unfolding verdict_checks
run_faulty r k x f = fault_left (run_checks r) (piece_checks k) x f
