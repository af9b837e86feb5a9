-- Nothing else could be answered, and nothing else left in the book. Assumes nothing.
use Rattle.std.specs.Prelude.{Result, Ok, Err}
use mathlib.Core.Path.{◌≡◌, refl, sym, ap, subst, ◌∙◌}
use mathlib.Core.List.{List}
use Prim.Native.Nat.{ℕ}
use Rattle.rules.specs.Reach.{Run, Piece}
use Rattle.rules.specs.Refusal.{Passes, Fault}
use Rattle.rules.specs.Verdict.{Verdict, answer}
use Rattle.rules.proofs.Checks.{AllDefinite, definite_demand, never_both}
use Rattle.rules.proofs.Good.{definite_verdict}
use Rattle.rules.proofs.Verdict.{one_verdict, answer_one}
use Rattle.refusal.specs.Said.{said}
use Rattle.refusal.specs.declared.Refusal as told
use Rattle.refusal.proofs.Unique.{refused_one}
use Rattle.book.specs.declared.Asked.{Asked}
use Rattle.book.specs.declared.Asked.TheVariants.{Remembered, Worked}
use Rattle.seal.specs.Seal.{block_at}
use Rattle.book.specs.Entry.{question, home, Hit}
use Rattle.book.specs.Ask.{ask_checks, AskSays}
use Rattle.book.proofs.Question.{as_long, entry_key, entry_code, question_run, question_piece}
use Rattle.book.proofs.Kept.{run_of, piece_of}

definite_ask : (book : List ℕ) (r : Run) (k : Piece) → AllDefinite (ask_checks book r k)
unfolding ask_checks
definite_ask book r k = (definite_demand _ _, definite_verdict r k)

-- two questions never answer for each other, though they share slot and sum
module _ (book : List ℕ) (r s : Run) (k m : Piece) (p : Passes (ask_checks book r k)) (q : Passes (ask_checks book s m)) where
  pub never_mixed : (c d : ℕ) → home book r k ≡ home book s m → Hit book r k c → Hit book s m d → (r ≡ s) × (k ≡ m)
  never_mixed c d e h g =
      let kp = piece_of book r k p in let mp = piece_of book s m q in let one_slot = sym h.same ∙ ap (λ i. block_at book i) e ∙ g.same in
      let x = entry_key (question r k) (question s m) c d (as_long r s k m kp mp) one_slot in
      (question_run r s k m x (run_of book r k p) (run_of book s m q), question_piece r s k m x kp mp)

hit_one : (book : List ℕ) (r : Run) (k : Piece) (c d : ℕ) → Hit book r k c → Hit book r k d → c ≡ d
hit_one book r k c d h g = entry_code (question r k) (question r k) c d refl (sym h.same ∙ g.same) h.fits g.fits

worked_one : (r : Run) (k : Piece) (c d : ℕ) → Verdict r k (answer c) → Verdict r k (answer d) → c ≡ d
worked_one r k c d h g = answer_one c d (one_verdict r k (answer c) (answer d) h g)

-- what passes has no fault
clash : (book : List ℕ) (r : Run) (k : Piece) (x : told.Refusal) {A : Type 0} → Passes (ask_checks book r k) → Fault (ask_checks book r k) (said x) → A
clash book r k x p f = absurd (never_both (ask_checks book r k) (definite_ask book r k) (said x) p f)

-- the answer: a fault, a hit and neither exclude each other, and of each there is one
pub one_answer : (book after later : List ℕ) (r : Run) (k : Piece) (a b : Result Asked told.Refusal) → AskSays book after r k a → AskSays book later r k b → a ≡ b
one_answer book after later r k (Err x) (Err y) h g = ap Err (refused_one (ask_checks book r k) (definite_ask book r k) x y h.0 g.0)
one_answer book after later r k (Err x) (Ok (Remembered d)) h g = clash book r k x g.passes h.0
one_answer book after later r k (Err x) (Ok (Worked d)) h g = clash book r k x g.passes h.0
one_answer book after later r k (Ok (Remembered c)) (Err y) h g = clash book r k y h.passes g.0
one_answer book after later r k (Ok (Remembered c)) (Ok (Remembered d)) h g = ap (λ (n : ℕ). Ok (Remembered n)) (hit_one book r k c d h.hit g.hit)
one_answer book after later r k (Ok (Remembered c)) (Ok (Worked d)) h g = absurd (g.miss c h.hit)
one_answer book after later r k (Ok (Worked c)) (Err y) h g = clash book r k y h.passes g.0
one_answer book after later r k (Ok (Worked c)) (Ok (Remembered d)) h g = absurd (h.miss d g.hit)
one_answer book after later r k (Ok (Worked c)) (Ok (Worked d)) h g = ap (λ (n : ℕ). Ok (Worked n)) (worked_one r k c d h.verdict g.verdict)

-- what an answer leaves
left : (book after later : List ℕ) (r : Run) (k : Piece) (a : Result Asked told.Refusal) → AskSays book after r k a → AskSays book later r k a → after ≡ later
left book after later r k (Ok (Remembered c)) h g = h.same ∙ sym g.same
left book after later r k (Ok (Worked c)) h g = h.stored ∙ sym g.stored
left book after later r k (Err x) h g = h.1 ∙ sym g.1

pub one_book : (book after later : List ℕ) (r : Run) (k : Piece) (a b : Result Asked told.Refusal) → AskSays book after r k a → AskSays book later r k b → after ≡ later
one_book book after later r k a b h g = left book after later r k b (subst (λ (q : Result Asked told.Refusal). AskSays book after r k q) (one_answer book after later r k a b h g) h) g
