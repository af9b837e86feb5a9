-- Tests and searches: what a flag says, and a search's step. Assumes nothing.
use mathlib.Core.Path.{◌≡◌, refl, sym, subst}
use mathlib.Core.Bool.{Bool, true, false, not}
use Prim.Native.Nat.{ℕ, zero, suc, ◌+◌, ◌^◌, ◌<◌}
use native.Mathlib.Omega.{arith}
use lib.IntN.{ℤ}
use lib.Signed.{mag}
use mir.Syntax.{Width}
use mir.Val.{hbits, to_z, of_z}
use borrow.Author.Count.{below_none, below_more}
use borrow.Author.Tests.{not-true, not-false}
use Rattle.whole.proofs.Flag.{false_true}
use Rattle.whole.proofs.Range.{field}
use Rattle.whole.specs.Decide.{Decides}

-- ---- a test
pub yes : (P : Type 0) (t : Bool) → Decides P t → t ≡ true → P
yes P t h e = subst (Decides P) e h

pub no : (P : Type 0) (t : Bool) → Decides P t → t ≡ false → P → ⊥
no P t h e = subst (Decides P) e h

-- where P holds the flag is set
pub truth : (P : Type 0) (t : Bool) → Decides P t → P → t ≡ true
truth P true h p = refl
truth P false h p = absurd (h p)

pub decide_by : (P : Type 0) (t : Bool) → (t ≡ true → P) → (t ≡ false → P → ⊥) → Decides P t
decide_by P true f g = f refl
decide_by P false f g = g refl

-- P where the flag is set, and set where P
pub decides : (P : Type 0) (t : Bool) → (t ≡ true → P) → (P → t ≡ true) → Decides P t
decides P true f g = f refl
decides P false f g = λ p. false_true (g p)

pub decides_not : (P : Type 0) (t : Bool) → (t ≡ true → P → ⊥) → (t ≡ false → P) → Decides P (not t)
decides_not P true f g = f refl
decides_not P false f g = g refl

-- a test has one answer
pub decides_one : (P : Type 0) (s t : Bool) → Decides P s → Decides P t → s ≡ t
decides_one P true true h k = refl
decides_one P true false h k = absurd (k h)
decides_one P false true h k = absurd (h k)
decides_one P false false h k = refl

-- ---- a search
-- none of the first k
abbrev pub Below : (ℕ → Type 0) → ℕ → Type 0
Below Bad k = (j : ℕ) → j < k → Bad j → ⊥

pub none_yet : (Bad : ℕ → Type 0) → Below Bad 0
none_yet Bad = below_none (λ j. Bad j → ⊥)

pub one_more : (Bad : ℕ → Type 0) (k : ℕ) → Below Bad k → (Bad k → ⊥) → Below Bad (k + 1)
one_more Bad = below_more (λ j. Bad j → ⊥)

-- ---- what holds of 0, 1 and 2 holds below 3
pub of_three : (P : ℕ → Type 0) → P 0 → P 1 → P 2 → (j : ℕ) → j < 3 → P j
of_three P a b c zero l = a
of_three P a b c (suc zero) l = b
of_three P a b c (suc (suc zero)) l = c
of_three P a b c (suc (suc (suc j))) l = absurd (omega arith)

-- ---- a test of signed numbers, as its caller reads them back
pub taken : (P : ℤ → Type 0) (w : Width) (z : ℤ) (t : Bool) → mag z < 2 ^ hbits w → Decides (P (to_z w (of_z w z))) t → not t ≡ false → P z
taken P w z t h d e = subst P (field w z h) (yes _ t d (not-false t e))

pub rejected : (P : ℤ → Type 0) (w : Width) (z : ℤ) (t : Bool) → mag z < 2 ^ hbits w → Decides (P (to_z w (of_z w z))) t → not t ≡ true → P z → ⊥
rejected P w z t h d e p = no _ t d (not-true t e) (subst P (sym (field w z h)) p)

pub taken2 : (P : ℤ → ℤ → Type 0) (w : Width) (x y : ℤ) (t : Bool) → mag x < 2 ^ hbits w → mag y < 2 ^ hbits w → Decides (P (to_z w (of_z w x)) (to_z w (of_z w y))) t → not t ≡ false → P x y
taken2 P w x y t h k d e = taken (P x) w y t k (subst (λ (z : ℤ). Decides (P z (to_z w (of_z w y))) t) (field w x h) d) e

pub rejected2 : (P : ℤ → ℤ → Type 0) (w : Width) (x y : ℤ) (t : Bool) → mag x < 2 ^ hbits w → mag y < 2 ^ hbits w → Decides (P (to_z w (of_z w x)) (to_z w (of_z w y))) t → not t ≡ true → P x y → ⊥
rejected2 P w x y t h k d e = rejected (P x) w y t k (subst (λ (z : ℤ). Decides (P z (to_z w (of_z w y))) t) (field w x h) d) e
