-- What a verdict tells: the first fault, or, of a good run and a good piece, the answer. Assumes nothing.
use Rattle.std.specs.Prelude.{◌≡◌, ℕ, ◌<◌, min, Option, Some, None, Result, Ok, Err}
use Rattle.rules.specs.Reach.{Run, Piece}
use Rattle.rules.specs.Verdict as rules
use Rattle.rules.specs.Verdict.{Answer, clear, blocked, verdict_checks, NONE}
use Rattle.refusal.specs.declared.Refusal.{Refusal}
use Rattle.refusal.specs.Said.{Told}

-- a verdict: None where it is clear, otherwise the mark; or the refusal
abbrev pub Verdict : Type 0
Verdict = Result (Option ℕ) Refusal

abbrev pub answer_of : Option ℕ → Answer
answer_of None = clear
answer_of (Some m) = blocked m

-- the earlier of two marks, where there is one
abbrev pub earlier : Option ℕ → Option ℕ → Option ℕ
earlier None b = b
earlier (Some a) None = Some a
earlier (Some a) (Some b) = Some (min a b)

-- a mark, or none, as the number that is computed for it
abbrev pub Marks : Option ℕ → ℕ → Type 0
Marks None n = n ≡ NONE
Marks (Some m) n = (n ≡ m) × (m < NONE)

abbrev pub Tells : Run → Piece → Verdict → Type 0
Tells r k v = Told (verdict_checks r k) (λ a. rules.Verdict r k (answer_of a)) v

-- a verdict as a number: NONE where it is clear, otherwise the mark
abbrev pub Coded : Type 0
Coded = Result ℕ Refusal

abbrev pub coded_of : Verdict → Coded
coded_of (Ok None) = Ok NONE
coded_of (Ok (Some m)) = Ok m
coded_of (Err x) = Err x
