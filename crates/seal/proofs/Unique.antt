-- Two outcomes that both meet a public contract, answer and later bytes, are equal. Assumes nothing.
use mathlib.Core.Path.{◌≡◌, refl, sym, ◌∙◌}
use mathlib.Core.Bool.{Bool, true, false}
use mathlib.Core.List.{List, [], ◌∷◌}
use Prim.Native.Nat.{ℕ}
use Rattle.whole.specs.Decide.{Decides}
use Rattle.refusal.specs.Said.{Finds, Checked}
use Rattle.refusal.proofs.Unique.{finds_one, writes_one}
use Rattle.seal.specs.Seal.{length_check, block_checks, unnamed_check}
use Rattle.seal.specs.Parts.{parts_asked, parts_block, WritePartsSays, PartsIn}
use Rattle.seal.specs.Scan.{cleared}
use Rattle.seal.proofs.OneFault.{definite_block, definite_unnamed, definite_parts_asked}

pub check_block_one : (l : List ℕ) (r s : Checked) → Finds (block_checks l) r → Finds (block_checks l) s → r ≡ s
check_block_one l r s = finds_one (block_checks l) (definite_block l) r s

pub check_unnamed_one : (l : List ℕ) (from : ℕ) (r s : Checked) → Finds (length_check l ∷ unnamed_check l from ∷ []) r → Finds (length_check l ∷ unnamed_check l from ∷ []) s → r ≡ s
check_unnamed_one l from r s = finds_one (length_check l ∷ unnamed_check l from ∷ []) (definite_unnamed l from) r s

pub clear_one : (from : ℕ) (before a b : List ℕ) → a ≡ cleared from before → b ≡ cleared from before → a ≡ b
clear_one from before a b f g = f ∙ sym g

pub write_parts_one : (first last : List ℕ) (at : ℕ) (before a b : List ℕ) (r s : Checked) → WritePartsSays first last at before a r → WritePartsSays first last at before b s → (r ≡ s) × (a ≡ b)
write_parts_one first last at before a b r s =
    writes_one (parts_asked before first last at) (definite_parts_asked before first last at) (parts_block first last at) before a b r s

-- a test has one answer
pub is_parts_one : (first last : List ℕ) (at : ℕ) (l : List ℕ) (r s : Bool) → Decides (PartsIn first last at l) r → Decides (PartsIn first last at l) s → r ≡ s
is_parts_one first last at l true true f g = refl
is_parts_one first last at l true false f g = absurd (g f)
is_parts_one first last at l false true f g = absurd (f g)
is_parts_one first last at l false false f g = refl
