-- A refusal can be told from what it says, so definite checks find at most one answer. Assumes nothing.
use Rattle.std.specs.Prelude.{Result, Ok, Err}
use mathlib.Core.Path.{◌≡◌, refl, sym, ap, ◌∙◌}
use mathlib.Core.Bool.{cond}
use mathlib.Core.List.{List}
use Prim.Native.Nat.{ℕ}
use lib.Dec.{eqb}
use Rattle.rules.specs.Refusal as rules
use Rattle.rules.specs.Refusal.{Check as Test, Passes, Fault}
use Rattle.rules.proofs.Checks.{AllDefinite, never_both, one_fault}
use Rattle.refusal.specs.Said.{said, RowOf, Finds, Told, Writes}
use Rattle.refusal.specs.declared.Refusal.{Refusal}
use Rattle.refusal.specs.declared.Refusal.TheVariants.{Length, Check, Kind, Reach, Corners, Same, Fold, Meet, Clockwise, Short, NotNumber, Beyond, OffGrid, Line, Index, Face}
use Rattle.refusal.specs.declared.Row.{Row}

-- the case of a number and two places
case : ℕ → ℕ → ℕ → Refusal
case n a b =
    cond (eqb n 1) Length (cond (eqb n 2) Check (cond (eqb n 3) (Kind a) (cond (eqb n 4) (Reach a) (cond (eqb n 5) Corners (cond (eqb n 6) (Same a)
    (cond (eqb n 7) (Fold a) (cond (eqb n 8) (Meet a b) (cond (eqb n 9) Clockwise (cond (eqb n 10) Short (cond (eqb n 11) (NotNumber a b) (cond (eqb n 12) (Beyond a b) (cond (eqb n 13) (OffGrid a b)
    (cond (eqb n 14) (Line a) (cond (eqb n 15) (Index a) (Face a)))))))))))))))

back : (r : Refusal) → case (said r).number (said r).a (said r).b ≡ r
unfolding case
back Length = refl
back Check = refl
back (Kind a) = refl
back (Reach a) = refl
back Corners = refl
back (Same a) = refl
back (Fold a) = refl
back (Meet a b) = refl
back Clockwise = refl
back Short = refl
back (NotNumber a b) = refl
back (Beyond a b) = refl
back (OffGrid a b) = refl
back (Line a) = refl
back (Index a) = refl
back (Face a) = refl

-- two that say the same are equal
pub said_one : (r s : Refusal) → said r ≡ said s → r ≡ s
said_one r s e = sym (back r) ∙ ap (λ (q : rules.Refusal). case q.number q.a q.b) e ∙ back s

pub refused_one : (cs : List Test) → AllDefinite cs → (x y : Refusal) → Fault cs (said x) → Fault cs (said y) → x ≡ y
refused_one cs s x y f g = said_one x y (one_fault cs s (said x) (said y) f g)

-- one answer is told, where P says one
pub told_same : {A : Type 0} (cs : List Test) → AllDefinite cs → (P : A → Type 0) → ((a b : A) → P a → P b → a ≡ b) → (r s : Result A Refusal) → Told cs P r → Told cs P s → r ≡ s
told_same cs h P one (Ok a) (Ok b) f g = ap Ok (one a b f.1 g.1)
told_same cs h P one (Ok a) (Err y) f g = absurd (never_both cs h (said y) f.0 g)
told_same cs h P one (Err x) (Ok b) f g = absurd (never_both cs h (said x) g.0 f)
told_same cs h P one (Err x) (Err y) f g = ap Err (refused_one cs h x y f g)

-- a type that has the answers and the refusals as its cases
module _ {A E : Type 0} (has : E → Result A Refusal) (make : Result A Refusal → E) (made : (e : E) → make (has e) ≡ e) where
  pub told_one : (cs : List Test) → AllDefinite cs → (P : A → Type 0) → ((a b : A) → P a → P b → a ≡ b) → (r s : E) → Told cs P (has r) → Told cs P (has s) → r ≡ s
  told_one cs h P one r s f g = sym (made r) ∙ ap make (told_same cs h P one (has r) (has s) f g) ∙ made s

-- what is found is told, with nothing more to say
told_of : (cs : List Test) (r : Result (Unit {0}) Refusal) → Finds cs r → Told cs (λ _. Unit {0}) r
told_of cs (Ok _) f = (f, tt)
told_of cs (Err x) f = f

pub finds_one : (cs : List Test) → AllDefinite cs → (r s : Result (Unit {0}) Refusal) → Finds cs r → Finds cs s → r ≡ s
finds_one cs h r s f g = told_same cs h (λ _. Unit {0}) (λ a b _ _. refl) r s (told_of cs r f) (told_of cs s g)

-- what was written is one too
pub writes_one : {A : Type 0} (cs : List Test) → AllDefinite cs → (made before a b : A) (r s : Result (Unit {0}) Refusal) → Writes cs made before a r → Writes cs made before b s → (r ≡ s) × (a ≡ b)
writes_one cs h made before a b (Ok _) (Ok _) f g = (refl, f.1 ∙ sym g.1)
writes_one cs h made before a b (Ok _) (Err y) f g = absurd (never_both cs h (said y) f.0 g.0)
writes_one cs h made before a b (Err x) (Ok _) f g = absurd (never_both cs h (said x) g.0 f.0)
writes_one cs h made before a b (Err x) (Err y) f g = (ap Err (refused_one cs h x y f.0 g.0), f.1 ∙ sym g.1)

-- what passes is written
pub written : {A : Type 0} (cs : List Test) → AllDefinite cs → (made before after : A) (r : Result (Unit {0}) Refusal) → Writes cs made before after r → Passes cs → (r ≡ Ok tt) × (after ≡ made)
written cs h made before after (Ok _) w p = (refl, w.1)
written cs h made before after (Err x) w p = absurd (never_both cs h (said x) p w.0)

pub row_one : (x : Refusal) (r s : Row) → RowOf x r → RowOf x s → r ≡ s
row_one x r s h k = λ i. record { number = (h.0 ∙ sym k.0) i; a = (h.1 ∙ sym k.1) i; b = (h.2 ∙ sym k.2) i }
