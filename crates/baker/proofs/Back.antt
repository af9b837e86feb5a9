-- What codes the answer to numbers that a machine read back codes the answer to the numbers. Assumes nothing.
use mathlib.Core.Path.{◌≡◌, subst}
use Rattle.coding.specs.Coded.{Coded}

pub coded_back : {K A B : Type 0} (S : K → A → Type 0) (f : A → B) {k l : K} (x : A) {c : B} → k ≡ l → S k x → c ≡ f x → Coded (S l) f c
coded_back S f x e h q = record { answer = x; says = subst (λ k. S k x) e h; code = q }

-- of two things
pub coded_both : {K M A B : Type 0} (S : K → M → A → Type 0) (f : A → B) {k l : K} {m n : M} (x : A) {c : B} → k ≡ l → m ≡ n → S k m x → c ≡ f x → Coded (S l n) f c
coded_both {K} {M} S f {k} {l} {m} {n} x d e h q = record { answer = x; says = subst (λ (o : M). S l o x) e (subst (λ (j : K). S j m x) d h); code = q }
