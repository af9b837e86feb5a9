-- The conditions of the rules hold exactly of a sound entry, and so of a hit. Assumes nothing.
use mathlib.Core.Path.{◌≡◌, sym, subst, ◌∙◌}
use mathlib.Core.Logic.{⊎_elim}
use mathlib.Core.List.{List, ◌++◌}
use Prim.Native.Nat.{ℕ, zero, suc, ◌+◌, ◌-◌, ◌≤◌, ◌<◌}
use native.Mathlib.Omega.{arith}
use lib.ListN.{length}
use Rattle.whole.proofs.Order.{ℕ_or}
use Rattle.rules.specs.Reach.{Run, Piece}
use Rattle.rules.specs.Refusal.{Passes}
use Rattle.seal.specs.Seal.{byte, block_at, Sealed}
use Rattle.seal.proofs.Blocks.{nth_length}
use Rattle.seal.proofs.Bytes.{Alike, block_is, block_sealed}
use Rattle.book.specs.Entry.{key_length, code_at, code_end, four, opening, entry_of, Sound, Conditions, question, home, Hit}
use Rattle.book.specs.Ask.{ask_checks}
use Rattle.book.proofs.Look.{named_few, at_front, at_code, at_rest, slot_at}
use Rattle.book.proofs.Question.{good_length}
use Rattle.book.proofs.Kept.{slots_of, piece_of, home_below}

-- ---- of any slot, and the key of any question
module _ (slot key : List ℕ) (ticks c : ℕ) (n : length key ≡ key_length) where
  long : length (opening key) ≡ code_at
  long = omega arith

  module _ (d : Conditions slot key ticks c) where
    front_equal : (i : ℕ) → i < code_at → byte slot i ≡ byte (opening key) i
    front_equal zero h = d.kind_right
    front_equal (suc zero) h = d.second_zero
    front_equal (suc (suc i)) h = let e : 2 + i ≡ suc (suc i) = omega arith in rw e at (d.key_equal i (omega arith))

    code_equal : (i : ℕ) → code_at ≤ i → i < code_end → byte slot i ≡ byte (opening key ++ four c) i
    code_equal i g h = let j = i - code_at in let e : code_at + j ≡ i = omega arith in rw e at (d.verdict j (omega arith) ∙ sym (at_code (opening key) c long j))

    alike : Alike slot (opening key ++ four c)
    alike i h =
        ⊎_elim
        (λ (g : code_at ≤ i). ⊎_elim
        (λ (f : code_end ≤ i). d.rest_zero i f h ∙ sym (at_rest (opening key) c long i f))
        (λ (f : i < code_end). code_equal i g f)
        (ℕ_or code_end i))
        (λ (g : i < code_at). front_equal i g ∙ sym (at_front (opening key) c long i g))
        (ℕ_or code_at i)

    pub sound_of : length slot ≡ 512 → Sound slot key ticks c
    unfolding entry_of
    sound_of l = record { fits = d.fits; possible = d.possible; same = block_is slot (opening key ++ four c) (named_few (opening key) c long) l d.check alike }

  module _ (s : Sound slot key ticks c) where
    at : (i : ℕ) → i < 510 → byte slot i ≡ byte (opening key ++ four c) i
    unfolding entry_of
    at i h = slot_at (opening key) c long slot s.same i h

    pub sound_says : Conditions slot key ticks c
    unfolding entry_of
    sound_says = record {
      check = subst Sealed (sym s.same) (block_sealed (opening key ++ four c) (named_few (opening key) c long));
      kind_right = at 0 (omega arith);
      key_equal = λ i h. let e : 2 + i ≡ suc (suc i) = omega arith in rw e (at (suc (suc i)) (omega arith) ∙ at_front (opening key) c long (suc (suc i)) (omega arith));
      verdict = λ i h. at (code_at + i) (omega arith) ∙ at_code (opening key) c long i;
      fits = s.fits;
      possible = s.possible;
      second_zero = at 1 (omega arith);
      rest_zero = λ i g h. at i h ∙ at_rest (opening key) c long i g;
    }

-- ---- of the home slot of a question
module _ (book : List ℕ) (r : Run) (k : Piece) (c : ℕ) (p : Passes (ask_checks book r k)) where
  abbrev slot : List ℕ
  slot = block_at book (home book r k)

  slot_length : length slot ≡ 512
  slot_length = nth_length book (home book r k) (home_below book r k (slots_of book r k p))

  pub hit_of : Conditions slot (question r k) r.ticks c → Hit book r k c
  hit_of d = sound_of slot (question r k) r.ticks c (good_length r k (piece_of book r k p)) d slot_length

  pub hit_says : Hit book r k c → Conditions slot (question r k) r.ticks c
  hit_says h = sound_says slot (question r k) r.ticks c (good_length r k (piece_of book r k p)) h
