-- What an answer tells that is a thing, or else that there is none; and two constructors that are never equal. Assumes nothing.
use mathlib.Core.Path.{◌≡◌, refl}
use mathlib.Core.Bool.{Bool, true, false, cond}
use Prim.Native.Nat.{ℕ}
use native.Mathlib.Omega.{arith}
use Rattle.std.proofs.Common.{Some, None}

-- two constructors are never equal: `no (cc)` closes a goal where two are said to be
pub no : {A : Type 0} → ◌≡◌ {A = ℕ} 0 1 → A
no z = absurd (omega arith)

module _ {A : Type 0} where
  -- it is not what stands in place of the thing: the thing is there
  pub there : (t : Bool) (x none r : A) → r ≡ cond t x none → (r ≡ none → ⊥) → (t ≡ true) × (r ≡ x)
  there true x none r e h = (refl, e)
  there false x none r e h = absurd (h e)

  -- it is not the thing
  pub otherwise : (t : Bool) (x none r : A) → r ≡ cond t x none → (r ≡ x → ⊥) → r ≡ none
  otherwise true x none r e h = absurd (h e)
  otherwise false x none r e h = e

  -- there is some, or none
  pub given : (t : Bool) (x y : A) → Some y ≡ cond t (Some x) None → (t ≡ true) × (y ≡ x)
  given true x y e = (refl, cc)
  given false x y e = no (cc)

  pub missing : (t : Bool) (x : A) → None ≡ cond t (Some x) None → t ≡ false
  missing true x e = no (cc)
  missing false x e = refl
