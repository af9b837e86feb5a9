-- A caller tells each answer from its code: the macros of the header read back what it codes. Assumes nothing.
use mathlib.Core.Path.{◌≡◌, sym, ap, subst, ◌∙◌}
use Prim.Native.Nat.{ℕ}
use native.Mathlib.Omega.{arith}
use Rattle.rules.specs.Refusal.{Refusal}
use Rattle.coding.specs.Coded.{Coded, Meaning, value, remembered, refusal, refusal_code, code_of, Out, out, coded}
use Rattle.coding.specs.Told.{Fits, Within, told, Refuses, Macros, Reads}

-- bit 63 of a refusal is set, and its fields are where they were put
refuses : (s : Refusal) → Fits s → Refuses (refusal_code s) s
unfolding refusal_code
refuses s f = record { refused = omega (arith, f); number = omega (arith, f); block = omega (arith, f); a = omega (arith, f); b = omega (arith, f) }

macros : (m : Meaning) → Within m → Macros (code_of m) m
macros (value n) h = record { refused = omega arith; remembered = omega arith; value = omega arith }
macros (remembered n) h = record { refused = omega arith; remembered = omega arith; value = omega arith }
macros (refusal s) f = refuses s f

-- what the macros say is what is told
as_told : (c : ℕ) (m : Meaning) → Macros c m → told c ≡ m
unfolding told
as_told c (value n) h = rw (h.refused, h.remembered, h.value)
as_told c (remembered n) h = rw (h.refused, h.remembered, h.value)
as_told c (refusal s) h = rw h.refused (λ i. refusal (record { number = h.number i; block = h.block i; a = h.a i; b = h.b i }))

pub readable : (m : Meaning) → Within m → Reads (code_of m) m
readable m h = let k = macros m h in record { macros = k; whole = as_told (code_of m) m k }

-- so equal codes are codes of one answer, and none of a value is one of a refusal
pub told_one : (m n : Meaning) → Within m → Within n → code_of m ≡ code_of n → m ≡ n
told_one m n h k e = sym (readable m h).whole ∙ ap told e ∙ (readable n k).whole

-- ---- of a call: what is coded within its bits reads back
read : (m : Meaning) (c : ℕ) → Within m → c ≡ code_of m → Reads c m
read m c h e = subst (λ (n : ℕ). Reads n m) (sym e) (readable m h)

-- as an answer
module _ {A : Type 0} (S : A → Type 0) (f : A → Meaning) (within : (x : A) → S x → Within (f x)) where
  pub read_back : {c : ℕ} (h : Coded S (λ x. code_of (f x)) c) → Reads c (f h.answer)
  read_back {c} h = read (f h.answer) c (within h.answer h.says) h.code

-- as an answer beside what was lent
module _ {A L : Type 0} (S : A → Type 0) (f : A → Out Meaning L) (within : (x : A) → S x → Within (f x).says) where
  pub read_beside : {c : ℕ} {l : L} (h : Coded S (λ x. coded (f x)) (out c l)) → Reads c (f h.answer).says
  read_beside {c} h = read (f h.answer).says c (within h.answer h.says) (ap (λ (o : Out ℕ L). o.says) h.code)
