-- The verdict: clear, or the mark of the 1/256 in which contacts begin. Assumes nothing.
use Rattle.std.specs.Prelude.{cond, List, ◌++◌, ℕ, eqb, pos}
use Rattle.whole.specs.Fraction.{Frac, ◌≺◌, mark, Floor}
use Rattle.rules.specs.Reach.{Run, Piece}
use Rattle.rules.specs.Refusal.{Check}
use Rattle.rules.specs.Good.{run_checks, piece_checks}
use Rattle.rules.specs.Contact.{Moment, Contact}

pub data Answer : Type 0 where
  clear : Answer
  blocked : ℕ → Answer

-- an answer as a number: FFFFFFFF for clear, otherwise the mark
abbrev pub NONE : ℕ
NONE = 0xFFFFFFFF

abbrev pub answer : ℕ → Answer
answer c = cond (eqb c NONE) clear (blocked c)

-- contact at some moment in [k/256, (k + 1)/256), and at none before k/256
pub record Mark (r : Run) (p : Piece) (k : ℕ) : Type 0 where
  pub when : Frac
  pub moment : Moment r when
  pub within : Floor (pos k) when
  pub contact : Contact r p when
  pub before : (t : Frac) → Moment r t → t ≺ mark (pos k) → Contact r p t → ⊥

-- clear: at no moment a contact
abbrev pub Verdict : Run → Piece → Answer → Type 0
Verdict r p clear = (t : Frac) → Moment r t → Contact r p t → ⊥
Verdict r p (blocked k) = Mark r p k

-- the run is checked before the piece
unfoldable pub verdict_checks : Run → Piece → List Check
verdict_checks r p = run_checks r ++ piece_checks p
