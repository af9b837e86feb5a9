-- What good runs and good pieces are known to be, number by number. Assumes nothing.
use mathlib.Core.Path.{◌≡◌}
use mathlib.Core.Bool.{true, false}
use mathlib.Core.Logic.{⊎_elim}
use mathlib.Core.List.{List}
use Prim.Native.Nat.{ℕ, zero, suc, ◌<◌}
use native.Mathlib.Omega.{arith}
use lib.IntN.{ℤ, pos}
use lib.Signed.{◌≤ℤ◌, le_z}
use lib.ListN.{length, get_or}
use Rattle.whole.specs.Decide.{Decides}
use Rattle.whole.proofs.Order.{le_or_lt, clash, ℕ_or}
use Rattle.whole.proofs.Flag.{le_true, le_false}
use Rattle.whole.proofs.Decide.{decide_by}
use Rattle.rules.specs.Reach.{Between, Reach, Ticks, Run, Piece}
use Rattle.rules.specs.Refusal.{Passes}
use Rattle.rules.specs.Good.{RunKnown, PieceKnown, RunNumber, BandNumber, run_checks, piece_checks, sized_check, band_check, shape_checks}

-- what is not known to fail, holds: these facts are decided
pub le_stable : (a b : ℤ) → ((a ≤ℤ b → ⊥) → ⊥) → a ≤ℤ b
le_stable a b f = ⊎_elim (λ h. h) (λ h. absurd (f (λ k. clash _ _ h k))) (le_or_lt a b)

pub between_stable : (l h z : ℤ) → ((Between l h z → ⊥) → ⊥) → Between l h z
between_stable l h z f = record { above = le_stable _ _ (λ g. f (λ b. g b.above)); below = le_stable _ _ (λ g. f (λ b. g b.below)) }

-- the second bound is the answer where the first holds, and the first where it does not
pub between_yes : (low high z : ℤ) → le_z low z ≡ true → Decides (Between low high z) (le_z z high)
between_yes low high z e = decide_by _ (le_z z high) (λ f. record { above = le_true low z e; below = le_true z high f }) (λ f b. clash high z (le_false z high f) b.below)

pub between_no : (low high z : ℤ) → le_z low z ≡ false → Decides (Between low high z) (le_z low z)
between_no low high z e = rw e (λ b. clash z low (le_false low z e) b.above)

ticks_stable : (n : ℕ) → ((Ticks n → ⊥) → ⊥) → Ticks n
ticks_stable n f = ⊎_elim (λ h. h) (λ (h : 4096 < n). absurd (f (λ g. absurd (omega arith)))) (ℕ_or n 4096)

run_stable : (r : Run) (j : ℕ) → ((RunNumber r j → ⊥) → ⊥) → RunNumber r j
run_stable r zero f = between_stable _ _ _ f
run_stable r (suc zero) f = between_stable _ _ _ f
run_stable r (suc (suc zero)) f = between_stable _ _ _ f
run_stable r (suc (suc (suc zero))) f = between_stable _ _ _ f
run_stable r (suc (suc (suc (suc zero)))) f = between_stable _ _ _ f
run_stable r (suc (suc (suc (suc (suc zero))))) f = between_stable _ _ _ f
run_stable r (suc (suc (suc (suc (suc (suc j)))))) f = ticks_stable r.ticks f

band_stable : (k : Piece) (j : ℕ) → ((BandNumber k j → ⊥) → ⊥) → BandNumber k j
band_stable k zero f = between_stable _ _ _ f
band_stable k (suc zero) f = (between_stable _ _ _ (λ g. f (λ h. g h.0)), le_stable _ _ (λ g. f (λ h. g h.1)))
band_stable k (suc (suc zero)) f = between_stable _ _ _ f
band_stable k (suc (suc (suc zero))) f = between_stable _ _ _ f
band_stable k (suc (suc (suc (suc j)))) f = between_stable _ _ _ f

pub run_known : (r : Run) → Passes (run_checks r) → RunKnown r
unfolding run_checks
run_known r p j h = run_stable r j (p.0 j h)

pub shape_reach : (l : List ℤ) → Passes (shape_checks l) → (j : ℕ) → j < length l → Reach (get_or l j (pos 0))
unfolding shape_checks
shape_reach l p j h = between_stable _ _ _ (p.0 j h)

pub piece_known : (k : Piece) → Passes (piece_checks k) → PieceKnown k
unfolding piece_checks sized_check band_check
piece_known k p = record { sized = p.0; band = λ j h. band_stable k j (p.1.0 j h); corners = shape_reach k.corners p.1.1 }
