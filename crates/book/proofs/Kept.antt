-- What is remembered is true: in a book that began empty and was written only by asking, every hit is true. Assumes nothing.
use Rattle.std.specs.Prelude.{Result, Ok, Err}
use mathlib.Core.Path.{◌≡◌, refl, sym, ap, subst, ◌∙◌}
use mathlib.Core.List.{List, ◌++◌}
use Prim.Native.Nat.{ℕ, suc, ◌+◌, ◌*◌, ◌/◌, ◌%◌, ◌≤◌}
use native.Mathlib.Omega.{arith}
use native.Mathlib.Decide.{ℕ_discrete}
use lib.ListN.{length, get_or, replicate}
use Rattle.rules.specs.Reach.{Run, Piece}
use Rattle.rules.specs.Refusal.{Passes}
use Rattle.rules.specs.Good.{run_checks, piece_checks}
use Rattle.rules.specs.Verdict.{Verdict, verdict_checks, answer}
use Rattle.rules.proofs.Checks.{passes_left, passes_right}
use Rattle.seal.specs.Seal.{sum, byte, block_of, filled, block_at}
use Rattle.seal.proofs.Blocks.{nth_byte}
use Rattle.seal.proofs.Bytes.{repeated, block_length}
use Rattle.book.specs.declared.Asked.{Asked}
use Rattle.book.specs.declared.Asked.TheVariants.{Remembered, Worked}
use Rattle.refusal.specs.declared.Refusal.{Refusal}
use Rattle.book.specs.Entry.{Slots, kind, four, opening, entry_of, question, home, entry, Hit, put}
use Rattle.book.specs.Ask.{ask_checks, Misses, AskSays, Kept, empty, asked}
use Rattle.book.proofs.Look.{named_few}
use Rattle.book.proofs.Question.{good_length, as_long, question_run, question_piece, entry_key, entry_code}
use Rattle.book.proofs.Slots.{slot_in, put_length, put_same, put_elsewhere}

-- ---- what the checks tell
pub slots_of : (book : List ℕ) (r : Run) (k : Piece) → Passes (ask_checks book r k) → Slots book
unfolding ask_checks
slots_of book r k p = p.0

pub run_passes : (r : Run) (k : Piece) → Passes (verdict_checks r k) → Passes (run_checks r)
unfolding verdict_checks
run_passes r k p = passes_left (run_checks r) (piece_checks k) p

pub piece_passes : (r : Run) (k : Piece) → Passes (verdict_checks r k) → Passes (piece_checks k)
unfolding verdict_checks
piece_passes r k p = passes_right (run_checks r) (piece_checks k) p

pub run_of : (book : List ℕ) (r : Run) (k : Piece) → Passes (ask_checks book r k) → Passes (run_checks r)
unfolding ask_checks
run_of book r k p = run_passes r k p.1

pub piece_of : (book : List ℕ) (r : Run) (k : Piece) → Passes (ask_checks book r k) → Passes (piece_checks k)
unfolding ask_checks
piece_of book r k p = piece_passes r k p.1

slots_elsewhere : (book after : List ℕ) → length after ≡ length book → Slots after → Slots book
slots_elsewhere book after e s = let l = s.above in let m = s.below in record { whole = ap (λ n. n % 512) (sym e) ∙ s.whole; above = omega arith; below = omega arith }

checks_elsewhere : (book after : List ℕ) (r : Run) (k : Piece) → length after ≡ length book → Passes (ask_checks after r k) → Passes (ask_checks book r k)
unfolding ask_checks
checks_elsewhere book after r k e p = (slots_elsewhere book after e p.0, p.1)

-- ---- entries and home slots
entry_length : (r : Run) (k : Piece) (c : ℕ) → Passes (piece_checks k) → length (entry r k c) ≡ 512
unfolding entry_of
entry_length r k c p = block_length (opening (question r k) ++ four c) (named_few (opening (question r k)) c (omega (arith, good_length r k p)))

entry_kind : (r : Run) (k : Piece) (c : ℕ) → get_or (entry r k c) 0 0 ≡ kind
unfolding entry_of block_of filled
entry_kind r k c = refl

pub home_below : (book : List ℕ) (r : Run) (k : Piece) → Slots book → 512 * suc (home book r k) ≤ length book
unfolding home
home_below book r k s = slot_in book s (sum (λ i. byte (question r k) i) (length (question r k)))

home_same : (book after : List ℕ) (r : Run) (k : Piece) → length after ≡ length book → home after r k ≡ home book r k
unfolding home
home_same book after r k e = ap (λ n. sum (λ i. byte (question r k) i) (length (question r k)) % (n / 512)) e

-- ---- an empty book has no hit
no_hit : (n : ℕ) (r : Run) (k : Piece) (c : ℕ) → Hit (replicate (512 * n) 0) r k c → ⊥
no_hit n r k c h =
    let book : List ℕ = replicate (512 * n) 0 in let i = home book r k in
    let zero_byte : 0 ≡ get_or (block_at book i) 0 0 = sym (repeated 0 (512 * n) (512 * i + 0)) ∙ sym (nth_byte book i 0 (omega arith)) in
    omega (arith, zero_byte ∙ ap (λ (l : List ℕ). get_or l 0 0) h.same ∙ entry_kind r k c)

-- ---- a stored verdict
module _ (book after : List ℕ) (s : Run) (m : Piece) (d : ℕ) (w : Misses book after s m d) where
  long : length (entry s m d) ≡ 512
  long = entry_length s m d (piece_of book s m w.passes)

  within : 512 * suc (home book s m) ≤ length book
  within = home_below book s m (slots_of book s m w.passes)

  stored_length : length after ≡ length book
  stored_length = ap length w.stored ∙ put_length book (entry s m d) (home book s m) long within

  module _ (r : Run) (k : Piece) (c : ℕ) (pr : Passes (ask_checks book r k)) (h : Hit after r k c) where
    -- the slot that is hit, as it was stored
    hit_slot : block_at (put book (home book s m) (entry s m d)) (home book r k) ≡ entry r k c
    hit_slot = ap (λ (b : List ℕ). block_at b (home book r k)) (sym w.stored) ∙ ap (block_at after) (sym (home_same book after r k stored_length)) ∙ h.same

    same_slot : home book r k ≡ home book s m → Verdict r k (answer c)
    same_slot e =
        let hs = piece_of book s m w.passes in let hk = piece_of book r k pr in
        let here : entry s m d ≡ entry r k c = sym (put_same book (entry s m d) (home book s m) long within) ∙ ap (block_at (put book (home book s m) (entry s m d))) (sym e) ∙ hit_slot in
        let long = as_long s r m k hs hk in
        let q = entry_key (question s m) (question r k) d c long here in
        let x = question_run s r m k q (run_of book s m w.passes) (run_of book r k pr) in
        let y = question_piece s r m k q hs hk in
        let z = entry_code (question s m) (question r k) d c long here w.small h.fits in
        subst (λ (n : ℕ). Verdict r k (answer n)) z (subst (λ (p : Piece). Verdict r p (answer d)) y (subst (λ (q : Run). Verdict q m (answer d)) x w.verdict))

    other_slot : (home book r k ≡ home book s m → ⊥) → Hit book r k c
    other_slot n = record {
      fits = h.fits;
      possible = h.possible;
      same = sym (put_elsewhere book (entry s m d) (home book s m) long within (home book r k) n (home_below book r k (slots_of book r k pr))) ∙ hit_slot;
    }

by_slot : {P Q : Type 0} → Dec P → (P → Q) → ((P → ⊥) → Q) → Q
by_slot (yes g) f h = f g
by_slot (no g) f h = h g

-- what holds of every hit stays so where the book does
unchanged : (book after : List ℕ) (r : Run) (k : Piece) (c : ℕ) {Q : Type 0} → after ≡ book → (Passes (ask_checks book r k) → Hit book r k c → Q) → Passes (ask_checks after r k) → Hit after r k c → Q
unchanged book after r k c {Q} e f = subst (λ (b : List ℕ). Passes (ask_checks b r k) → Hit b r k c → Q) (sym e) f

-- every hit is true
pub true_hit : (book : List ℕ) → Kept book → (r : Run) (k : Piece) (c : ℕ) → Passes (ask_checks book r k) → Hit book r k c → Verdict r k (answer c)
true_hit z (empty n) r k c p h = absurd (no_hit n r k c h)
true_hit z (asked book after s m (Ok (Remembered d)) kept w) r k c p h = unchanged book after r k c w.same (λ q g. true_hit book kept r k c q g) p h
true_hit z (asked book after s m (Err x) kept w) r k c p h = unchanged book after r k c w.1 (λ q g. true_hit book kept r k c q g) p h
true_hit z (asked book after s m (Ok (Worked d)) kept w) r k c p h =
    let q = checks_elsewhere book after r k (stored_length book after s m d w) p in
    by_slot (ℕ_discrete (home book r k) (home book s m)) (same_slot book after s m d w r k c q h) (λ g. true_hit book kept r k c q (other_slot book after s m d w r k c q h g))

-- ---- so every answer is the verdict
abbrev pub Told : Run → Piece → Result Asked Refusal → Type 0
Told r k (Ok (Remembered c)) = Verdict r k (answer c)
Told r k (Ok (Worked c)) = Verdict r k (answer c)
Told r k (Err x) = Unit {0}

pub true_answer : (book after : List ℕ) → Kept book → (r : Run) (k : Piece) (a : Result Asked Refusal) → AskSays book after r k a → Told r k a
true_answer book after kept r k (Ok (Remembered c)) w = true_hit book kept r k c w.passes w.hit
true_answer book after kept r k (Ok (Worked c)) w = w.verdict
true_answer book after kept r k (Err x) w = tt
