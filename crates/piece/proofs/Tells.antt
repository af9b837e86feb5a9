-- At most one verdict is told, and its code answers as the rules read a code. Assumes nothing.
use Rattle.std.specs.Prelude.{Option, Ok, Err, Some, None}
use mathlib.Core.Path.{◌≡◌, refl, sym, ap, ◌∙◌}
use mathlib.Core.List.{List}
use Prim.Native.Nat.{ℕ, ◌≤◌, min}
use native.Mathlib.Omega.{arith}
use borrow.Author.Tests.{ne_eqb}
use Rattle.rules.specs.Reach.{Run, Piece}
use Rattle.rules.specs.Refusal.{Check, Passes, Fault}
use Rattle.rules.specs.Good.{run_checks, piece_checks}
use Rattle.rules.specs.Verdict as rules
use Rattle.rules.specs.Verdict.{Answer, clear, blocked, verdict_checks, NONE, answer}
use Rattle.rules.proofs.Checks.{AllDefinite, passes_left, fault_left, fault_right}
use Rattle.rules.proofs.Good.{definite_verdict}
use Rattle.rules.proofs.Reach.{run_known}
use Rattle.rules.proofs.Verdict.{one_verdict, mark_small, mark_answers}
use Rattle.refusal.specs.declared.Refusal.{Refusal}
use Rattle.refusal.specs.Said.{said, Told}
use Rattle.refusal.proofs.Unique.{told_same}
use Rattle.piece.specs.Tells.{Verdict, Coded, answer_of, earlier, Marks, Tells, coded_of}

-- an answer as the code has it, and back
option_of : Answer → Option ℕ
option_of clear = None
option_of (blocked m) = Some m

same : (a : Option ℕ) → option_of (answer_of a) ≡ a
unfolding option_of
same None = refl
same (Some m) = refl

-- one verdict is told of what checks pass, where P says one answer
pub verdict_one : (cs : List Check) → AllDefinite cs → (P : Answer → Type 0) → ((a b : Answer) → P a → P b → a ≡ b)
    → (v w : Verdict) → Told cs (λ a. P (answer_of a)) v → Told cs (λ a. P (answer_of a)) w → v ≡ w
verdict_one cs h P one v w = told_same cs h (λ a. P (answer_of a)) (λ a b p q. sym (same a) ∙ ap option_of (one _ _ p q) ∙ same b) v w

pub one_told : (r : Run) (k : Piece) (v w : Verdict) → Tells r k v → Tells r k w → v ≡ w
one_told r k = verdict_one (verdict_checks r k) (definite_verdict r k) (rules.Verdict r k) (one_verdict r k)

-- ---- the checks of a verdict, by their parts
module _ (r : Run) (k : Piece) where
  pub run_refused : (x : Refusal) → Fault (run_checks r) (said x) → Fault (verdict_checks r k) (said x)
  unfolding verdict_checks
  run_refused x = fault_left (run_checks r) (piece_checks k) (said x)

  pub piece_refused : (x : Refusal) → Passes (run_checks r) → Fault (piece_checks k) (said x) → Fault (verdict_checks r k) (said x)
  unfolding verdict_checks
  piece_refused x = fault_right (run_checks r) (piece_checks k) (said x)

-- ---- marks
pub marks_answer : (o : Option ℕ) (n : ℕ) → Marks o n → answer_of o ≡ answer n
marks_answer None n h = rw h
marks_answer (Some m) n h = let l = h.1 in rw (h.0, ne_eqb m NONE (λ e. omega arith))

pub marks_earlier : (x y : Option ℕ) (a b : ℕ) → Marks x a → Marks y b → Marks (earlier x y) (min a b)
marks_earlier None None a b h k = rw (h, k)
marks_earlier None (Some n) a b h k = let l = k.1 in (omega arith, l)
marks_earlier (Some m) None a b h k = let l = h.1 in (omega arith, l)
marks_earlier (Some m) (Some n) a b h k = let i = h.1 in (rw (h.0, k.0), omega arith)

-- ---- codes
-- a code that is told of a good run and a good piece
pub record Answers (r : Run) (k : Piece) (c : ℕ) : Type 0 where
  pub passes : Passes (verdict_checks r k)
  pub most : c ≤ NONE
  pub verdict : rules.Verdict r k (answer c)

abbrev pub TellsCode : Run → Piece → Coded → Type 0
TellsCode r k (Ok c) = Answers r k c
TellsCode r k (Err x) = Fault (verdict_checks r k) (said x)

pub tells_code : (r : Run) (k : Piece) (v : Verdict) → Tells r k v → TellsCode r k (coded_of v)
unfolding verdict_checks
tells_code r k (Ok None) h = record { passes = h.0; most = omega arith; verdict = h.1 }
tells_code r k (Ok (Some m)) h =
    let s = mark_small r k m (run_known r (passes_left (run_checks r) (piece_checks k) h.0) 6 (omega arith)) h.1 in
    record { passes = h.0; most = omega arith; verdict = mark_answers r k m s h.1 }
tells_code r k (Err x) h = h
