-- One code of one answer. Assumes nothing.
use mathlib.Core.Path.{◌≡◌, sym, ap, ◌∙◌}
use Prim.Native.Nat.{ℕ}
use Rattle.coding.specs.Coded.{Coded, Meaning, Out, out, coded}

-- what is made in one case is made of the answer
pub by : {A B : Type 0} (f : A → B) {r : B} {x k : A} → x ≡ k → r ≡ f k → r ≡ f x
by f e h = h ∙ sym (ap f e)

-- ---- one answer, one code
pub coded_one : {A B : Type 0} (S : A → Type 0) (f : A → B) (c d : B) → ((x y : A) → S x → S y → x ≡ y) → Coded S f c → Coded S f d → c ≡ d
coded_one S f c d same h k = h.code ∙ ap f (same h.answer k.answer h.says k.says) ∙ sym k.code

-- and what was lent, where the answer's promise speaks of it
pub coded_lent : {A B L : Type 0} (S : L → A → Type 0) (f : A → B) (a b : L) (c d : B) → ((x y : A) → S a x → S b y → (x ≡ y) × (a ≡ b)) → Coded (S a) f c → Coded (S b) f d → (c ≡ d) × (a ≡ b)
coded_lent S f a b c d same h k =
    let e = same h.answer k.answer h.says k.says in
    (h.code ∙ ap f e.0 ∙ sym k.code, e.1)

-- or where it is coded beside the answer
module _ {A L : Type 0} (S : A → Type 0) (f : A → Out Meaning L) where
  abbrev made : A → Out ℕ L
  made x = coded (f x)

  pub coded_beside : (a b : L) (c d : ℕ) → ((x y : A) → S x → S y → x ≡ y) → Coded S made (out c a) → Coded S made (out d b) → (c ≡ d) × (a ≡ b)
  coded_beside a b c d same h k =
      let e = coded_one S made (out c a) (out d b) same h k in
      (ap (λ (o : Out ℕ L). o.says) e, ap (λ (o : Out ℕ L). o.after) e)
