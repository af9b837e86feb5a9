-- What checks in a row find. Assumes nothing.
use Rattle.std.specs.Prelude.{Result, Ok, Err}
use mathlib.Core.Path.{◌≡◌, subst}
use mathlib.Core.Logic.{inr, ⊎_elim}
use mathlib.Core.List.{List, ◌∷◌, ◌++◌}
use Rattle.rules.specs.Refusal.{Check, Passes, Fault}
use Rattle.rules.proofs.Checks.{Definite, passes_append, fault_right}
use Rattle.refusal.specs.Said.{said, Finds}
use Rattle.refusal.specs.declared.Refusal.{Refusal}

-- after a check that passes, what the others find
pub finds_after : (c : Check) (cs : List Check) (r : Result (Unit {0}) Refusal) → c.passes → Finds cs r → Finds (c ∷ cs) r
finds_after c cs (Ok _) p f = (p, f)
finds_after c cs (Err r) p f = inr (p, f)

-- and back: what all find, the others do
pub finds_past : (c : Check) (cs : List Check) → Definite c → (r : Result (Unit {0}) Refusal) → c.passes → Finds (c ∷ cs) r → Finds cs r
finds_past c cs s (Ok _) p f = f.1
finds_past c cs s (Err r) p f = ⊎_elim (λ h. absurd (s.never (said r) p h)) (λ h. h.1) f

-- checks in a row, where the first ones pass
pub finds_right : (cs ds : List Check) (r : Result (Unit {0}) Refusal) → Passes cs → Finds ds r → Finds (cs ++ ds) r
finds_right cs ds (Ok _) p f = passes_append cs ds p f
finds_right cs ds (Err x) p f = fault_right cs ds (said x) p f

-- what a call found, where its answer is known
pub found_good : (cs : List Check) (r : Result (Unit {0}) Refusal) → Finds cs r → r ≡ Ok tt → Passes cs
found_good cs r f e = subst (Finds cs) e f

pub found_bad : (cs : List Check) (r : Result (Unit {0}) Refusal) (x : Refusal) → Finds cs r → r ≡ Err x → Fault cs (said x)
found_bad cs r x f e = subst (Finds cs) e f
