-- Flags and what they say. Assumes nothing.
use mathlib.Core.Path.{◌≡◌, refl, sym, subst}
use mathlib.Core.Logic.{◌⊎◌, inl, inr}
use mathlib.Core.Bool.{Bool, true, false, not, cond, ◌&&◌, ◌||◌}
use lib.Dec.{T}
use lib.IntN.{ℤ}
use lib.Signed.{◌≤ℤ◌, ◌<ℤ◌, le_z, lt_z, lt_z_no}
use Rattle.whole.proofs.Order.{not_le, clash}

pub is_true : (t : Bool) → T t → t ≡ true
is_true true h = refl
is_true false h = absurd h

pub is_false : (t : Bool) → (T t → ⊥) → t ≡ false
is_false true f = absurd (f tt)
is_false false f = refl

pub yes_of : (t : Bool) → t ≡ true → T t
yes_of t e = subst T (sym e) tt

pub no_of : (t : Bool) → t ≡ false → T t → ⊥
no_of t e h = subst T e h

pub false_true : false ≡ true → ⊥
false_true e = subst T (sym e) tt

-- two flags that say the same are equal
pub same_flag : (s t : Bool) → (T s → T t) → (T t → T s) → s ≡ t
same_flag true true f g = refl
same_flag true false f g = absurd (f tt)
same_flag false true f g = absurd (g tt)
same_flag false false f g = refl

-- what holds by the flag holds of the one that it picks
pub by_flag : {A : Type 0} (P : A → Type 0) (t : Bool) (x y : A) → (t ≡ true → P x) → (t ≡ false → P y) → P (cond t x y)
by_flag P true x y f g = f refl
by_flag P false x y f g = g refl

pub decided : (t : Bool) → (t ≡ true) ⊎ (t ≡ false)
decided true = inl refl
decided false = inr refl

-- ---- two flags
pub or_yes : (s t : Bool) → (s || t) ≡ true → (s ≡ true) ⊎ (t ≡ true)
or_yes true t e = inl refl
or_yes false t e = inr e

pub or_left : (s t : Bool) → s ≡ true → (s || t) ≡ true
or_left s t e = rw e

pub or_right : (s t : Bool) → t ≡ true → (s || t) ≡ true
or_right true t e = refl
or_right false t e = e

pub and_yes : (s t : Bool) → (s && t) ≡ true → (s ≡ true) × (t ≡ true)
and_yes true t e = (refl, e)
and_yes false t e = absurd (false_true e)

pub and_both : (s t : Bool) → s ≡ true → t ≡ true → (s && t) ≡ true
and_both s t e f = rw (e, f)

-- ---- whole numbers
pub lt_true : (a b : ℤ) → lt_z a b ≡ true → a <ℤ b
lt_true a b e = record { lt = yes_of (lt_z a b) e }

pub lt_false : (a b : ℤ) → lt_z a b ≡ false → b ≤ℤ a
lt_false a b e = lt_z_no (subst (λ (t : Bool). T (not t)) (sym e) tt)

pub le_true : (a b : ℤ) → le_z a b ≡ true → a ≤ℤ b
le_true a b e = record { le = yes_of (le_z a b) e }

pub le_false : (a b : ℤ) → le_z a b ≡ false → b <ℤ a
le_false a b e = not_le b a (λ h. no_of (le_z a b) e h.le)

pub true_lt : (a b : ℤ) → a <ℤ b → lt_z a b ≡ true
true_lt a b h = is_true (lt_z a b) h.lt

pub false_lt : (a b : ℤ) → b ≤ℤ a → lt_z a b ≡ false
false_lt a b h = is_false (lt_z a b) (λ t. clash a b (record { lt = t }) h)

pub true_le : (a b : ℤ) → a ≤ℤ b → le_z a b ≡ true
true_le a b h = is_true (le_z a b) h.le

pub false_le : (a b : ℤ) → b <ℤ a → le_z a b ≡ false
false_le a b h = is_false (le_z a b) (λ t. clash b a h (record { le = t }))
