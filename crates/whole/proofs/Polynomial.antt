-- An equation of polynomials over ℤ, of any degree, in one line: `f = vars3 _ λ ρ. simp poly (by_ring _ _ _ tt)`.
-- `vars3` puts `val ρ (var 0)`, .. for the variables, `simp poly` gathers each side into one `val ρ e`, and `by_ring` asks that the difference of the two has the empty normal form, which computes.
-- Assumes nothing.
use mathlib.Core.Path.{◌≡◌, refl, sym, ap, ◌∙◌}
use mathlib.Core.Bool.{Bool, true, false}
use mathlib.Core.List.{List, [], ◌∷◌}
use Prim.Native.Nat.{ℕ, zero, suc}
use native.Mathlib.Omega.{arith}
use lib.Dec.{T, leb, ltb, eqb, eqb→eq}
use lib.IntN.{ℤ, pos, negsuc, neg_ℤ, ◌+ℤ◌, ◌*ℤ◌, +ℤ_idl, +ℤ_idr, +ℤ_assoc, zero-*ℤ, *ℤ-zero}
use Rattle.whole.proofs.Difference.{all, all2, all4, ring}
use Rattle.whole.proofs.Order.{distrib, distrib_r, mul_assoc, mul_swap, mul_mul, mul_neg1, add_swap}

pub data Exp : Type 0 where
  var num nsuc : ℕ → Exp
  plus times : Exp → Exp → Exp
  minus : Exp → Exp

abbrev pub at : List ℤ → ℕ → ℤ
at [] i = pos 0
at (x ∷ ρ) zero = x
at (x ∷ ρ) (suc i) = at ρ i

pub val : List ℤ → Exp → ℤ
val ρ (var i) = at ρ i
val ρ (num n) = pos n
val ρ (nsuc n) = negsuc n
val ρ (plus e f) = val ρ e +ℤ val ρ f
val ρ (times e f) = val ρ e *ℤ val ρ f
val ρ (minus e) = neg_ℤ (val ρ e)

-- ---- the normal form: a sum of terms, each a coefficient and sorted variables
abbrev pub if {ℓ} : {A : Type ℓ} → Bool → A → A → A
if true x y = x
if false x y = y

if_ind {ℓ ℓ'} : {A : Type ℓ} (c : Bool) (x y : A) (P : A → Type ℓ') → (T c → P x) → P y → P (if c x y)
if_ind true x y P f g = f tt
if_ind false x y P f g = g

pub data Poly : Type 0 where
  nil : Poly
  term : ℤ → List ℕ → Poly → Poly

abbrev pub put : ℕ → List ℕ → List ℕ
put i [] = i ∷ []
put i (j ∷ m) = if (leb i j) (i ∷ j ∷ m) (j ∷ put i m)

abbrev pub mmul : List ℕ → List ℕ → List ℕ
mmul [] n = n
mmul (i ∷ m) n = put i (mmul m n)

abbrev pub eqm : List ℕ → List ℕ → Bool
eqm [] [] = true
eqm [] (j ∷ n) = false
eqm (i ∷ m) [] = false
eqm (i ∷ m) (j ∷ n) = if (eqb i j) (eqm m n) false

abbrev pub ltm : List ℕ → List ℕ → Bool
ltm [] [] = false
ltm [] (j ∷ n) = true
ltm (i ∷ m) [] = false
ltm (i ∷ m) (j ∷ n) = if (eqb i j) (ltm m n) (ltb i j)

abbrev pub mk : ℤ → List ℕ → Poly → Poly
mk (pos zero) m p = p
mk (pos (suc k)) m p = term (pos (suc k)) m p
mk (negsuc k) m p = term (negsuc k) m p

abbrev pub ins : ℤ → List ℕ → Poly → Poly
ins c m nil = mk c m nil
ins c m (term d n p) = if (eqm m n) (mk (c +ℤ d) n p) (if (ltm m n) (term c m (term d n p)) (term d n (ins c m p)))

abbrev pub padd : Poly → Poly → Poly
padd nil q = q
padd (term c m p) q = ins c m (padd p q)

abbrev pub scale : ℤ → List ℕ → Poly → Poly
scale c m nil = nil
scale c m (term d n p) = ins (c *ℤ d) (mmul m n) (scale c m p)

abbrev pub pmul : Poly → Poly → Poly
pmul nil q = nil
pmul (term c m p) q = padd (scale c m q) (pmul p q)

abbrev pub norm : Exp → Poly
norm (var i) = term (pos 1) (i ∷ []) nil
norm (num n) = mk (pos n) [] nil
norm (nsuc n) = term (negsuc n) [] nil
norm (plus e f) = padd (norm e) (norm f)
norm (times e f) = pmul (norm e) (norm f)
norm (minus e) = scale (negsuc 0) [] (norm e)

abbrev pub none : Poly → Bool
none nil = true
none (term c m p) = false

-- ---- it has the same value
module _ (ρ : List ℤ) where
  abbrev mval : List ℕ → ℤ
  mval [] = pos 1
  mval (i ∷ m) = at ρ i *ℤ mval m

  abbrev pval : Poly → ℤ
  pval nil = pos 0
  pval (term c m p) = c *ℤ mval m +ℤ pval p

  put_val : (i : ℕ) (m : List ℕ) → mval (put i m) ≡ at ρ i *ℤ mval m
  put_val i [] = refl
  put_val i (j ∷ m) = if_ind (leb i j) (i ∷ j ∷ m) (j ∷ put i m) (λ l. mval l ≡ at ρ i *ℤ (at ρ j *ℤ mval m)) (λ t. refl)
      (ap (λ z. at ρ j *ℤ z) (put_val i m) ∙ mul_swap (at ρ j) (at ρ i) (mval m))

  one-mul : (a : ℤ) → a ≡ pos 1 *ℤ a
  one-mul = all _ λ a a'. simp ring (omega arith)

  mul-one : (a : ℤ) → a ≡ a *ℤ pos 1
  mul-one = all _ λ a a'. simp ring (omega arith)

  mmul_val : (m n : List ℕ) → mval (mmul m n) ≡ mval m *ℤ mval n
  mmul_val [] n = one-mul (mval n)
  mmul_val (i ∷ m) n = put_val i (mmul m n) ∙ ap (λ z. at ρ i *ℤ z) (mmul_val m n) ∙ sym (mul_assoc (at ρ i) (mval m) (mval n))

  eqm_is : (m n : List ℕ) → T (eqm m n) → m ≡ n
  eqm_is [] [] t = refl
  eqm_is [] (j ∷ n) t = absurd t
  eqm_is (i ∷ m) [] t = absurd t
  eqm_is (i ∷ m) (j ∷ n) t = if_ind (eqb i j) (eqm m n) false (λ b. T b → i ∷ m ≡ j ∷ n) (λ u v. cc (eqb→eq i j u, eqm_is m n v)) (λ v. absurd v) t

  mk_val : (c : ℤ) (m : List ℕ) (p : Poly) → pval (mk c m p) ≡ c *ℤ mval m +ℤ pval p
  mk_val (pos zero) m p = sym (ap (λ z. z +ℤ pval p) (zero-*ℤ (mval m)) ∙ +ℤ_idl (pval p))
  mk_val (pos (suc k)) m p = refl
  mk_val (negsuc k) m p = refl

  joined : (c d m p : ℤ) → (c +ℤ d) *ℤ m +ℤ p ≡ c *ℤ m +ℤ (d *ℤ m +ℤ p)
  joined = all4 _ λ a a' b b' c c' d d'. simp ring (omega arith)

  ins_val : (c : ℤ) (m : List ℕ) (p : Poly) → pval (ins c m p) ≡ c *ℤ mval m +ℤ pval p
  ins_val c m nil = mk_val c m nil
  ins_val c m (term d n p) =
      if_ind (eqm m n) (mk (c +ℤ d) n p) (if (ltm m n) (term c m (term d n p)) (term d n (ins c m p))) (λ q. pval q ≡ c *ℤ mval m +ℤ (d *ℤ mval n +ℤ pval p))
      (λ t. mk_val (c +ℤ d) n p ∙ joined c d (mval n) (pval p) ∙ ap (λ l. c *ℤ mval l +ℤ (d *ℤ mval n +ℤ pval p)) (sym (eqm_is m n t)))
      (if_ind (ltm m n) (term c m (term d n p)) (term d n (ins c m p)) (λ q. pval q ≡ c *ℤ mval m +ℤ (d *ℤ mval n +ℤ pval p))
      (λ t. refl)
      (ap (λ z. d *ℤ mval n +ℤ z) (ins_val c m p) ∙ add_swap (d *ℤ mval n) (c *ℤ mval m) (pval p)))

  padd_val : (p q : Poly) → pval (padd p q) ≡ pval p +ℤ pval q
  padd_val nil q = sym (+ℤ_idl (pval q))
  padd_val (term c m p) q = ins_val c m (padd p q) ∙ ap (λ z. c *ℤ mval m +ℤ z) (padd_val p q) ∙ sym (+ℤ_assoc (c *ℤ mval m) (pval p) (pval q))

  scaled : (c m d n p : ℤ) → (c *ℤ d) *ℤ (m *ℤ n) +ℤ (c *ℤ m) *ℤ p ≡ (c *ℤ m) *ℤ (d *ℤ n +ℤ p)
  scaled c m d n p = ap (λ z. z +ℤ (c *ℤ m) *ℤ p) (mul_mul c d m n) ∙ sym (distrib (c *ℤ m) (d *ℤ n) p)

  scale_val : (c : ℤ) (m : List ℕ) (p : Poly) → pval (scale c m p) ≡ (c *ℤ mval m) *ℤ pval p
  scale_val c m nil = sym (*ℤ-zero (c *ℤ mval m))
  scale_val c m (term d n p) =
      ins_val (c *ℤ d) (mmul m n) (scale c m p)
      ∙ ap (λ z. (c *ℤ d) *ℤ z +ℤ pval (scale c m p)) (mmul_val m n)
      ∙ ap (λ z. (c *ℤ d) *ℤ (mval m *ℤ mval n) +ℤ z) (scale_val c m p)
      ∙ scaled c (mval m) d (mval n) (pval p)

  pmul_val : (p q : Poly) → pval (pmul p q) ≡ pval p *ℤ pval q
  pmul_val nil q = sym (zero-*ℤ (pval q))
  pmul_val (term c m p) q =
      padd_val (scale c m q) (pmul p q)
      ∙ ap (λ z. z +ℤ pval (pmul p q)) (scale_val c m q)
      ∙ ap (λ z. (c *ℤ mval m) *ℤ pval q +ℤ z) (pmul_val p q)
      ∙ sym (distrib_r (c *ℤ mval m) (pval p) (pval q))

  norm_val : (e : Exp) → pval (norm e) ≡ val ρ e
  unfolding val
  norm_val (var i) = +ℤ_idr _ ∙ sym (one-mul (at ρ i *ℤ pos 1)) ∙ sym (mul-one (at ρ i))
  norm_val (num n) = mk_val (pos n) [] nil ∙ +ℤ_idr _ ∙ sym (mul-one (pos n))
  norm_val (nsuc n) = +ℤ_idr _ ∙ sym (mul-one (negsuc n))
  norm_val (plus e f) = padd_val (norm e) (norm f) ∙ ap (λ z. z +ℤ pval (norm f)) (norm_val e) ∙ ap (λ z. val ρ e +ℤ z) (norm_val f)
  norm_val (times e f) = pmul_val (norm e) (norm f) ∙ ap (λ z. z *ℤ pval (norm f)) (norm_val e) ∙ ap (λ z. val ρ e *ℤ z) (norm_val f)
  norm_val (minus e) = scale_val (negsuc 0) [] (norm e) ∙ mul_neg1 (pval (norm e)) ∙ ap neg_ℤ (norm_val e)

  none_val : (p : Poly) → T (none p) → pval p ≡ pos 0
  none_val nil t = refl
  none_val (term c m p) t = absurd t

  level : (a b : ℤ) → a +ℤ neg_ℤ b ≡ pos 0 → a ≡ b
  level = all2 _ λ a a' b b'. simp ring (omega arith)

pub by_ring : (ρ : List ℤ) (e f : Exp) → T (none (norm (plus e (minus f)))) → val ρ e ≡ val ρ f
unfolding val
by_ring ρ e f t = level ρ (val ρ e) (val ρ f) (sym (norm_val ρ (plus e (minus f))) ∙ none_val ρ (norm (plus e (minus f))) t)

-- ---- reading an expression
pub plus_val : (ρ : List ℤ) (e f : Exp) → val ρ e +ℤ val ρ f ≡ val ρ (plus e f)
unfolding val
plus_val ρ e f = refl

pub times_val : (ρ : List ℤ) (e f : Exp) → val ρ e *ℤ val ρ f ≡ val ρ (times e f)
unfolding val
times_val ρ e f = refl

pub minus_val : (ρ : List ℤ) (e : Exp) → neg_ℤ (val ρ e) ≡ val ρ (minus e)
unfolding val
minus_val ρ e = refl

pub num_val : (ρ : List ℤ) (n : ℕ) → pos n ≡ val ρ (num n)
unfolding val
num_val ρ n = refl

pub nsuc_val : (ρ : List ℤ) (n : ℕ) → negsuc n ≡ val ρ (nsuc n)
unfolding val
nsuc_val ρ n = refl

pub ruleset poly = (plus_val, times_val, minus_val)

pub vars3 {ℓ} : (P : ℤ → ℤ → ℤ → Type ℓ) → ((ρ : List ℤ) → P (val ρ (var 0)) (val ρ (var 1)) (val ρ (var 2))) → (x0 x1 x2 : ℤ) → P x0 x1 x2
unfolding val
vars3 P f x0 x1 x2 = f (x0 ∷ x1 ∷ x2 ∷ [])

pub vars4 {ℓ} : (P : ℤ → ℤ → ℤ → ℤ → Type ℓ) → ((ρ : List ℤ) → P (val ρ (var 0)) (val ρ (var 1)) (val ρ (var 2)) (val ρ (var 3))) → (x0 x1 x2 x3 : ℤ) → P x0 x1 x2 x3
unfolding val
vars4 P f x0 x1 x2 x3 = f (x0 ∷ x1 ∷ x2 ∷ x3 ∷ [])

pub vars5 {ℓ} : (P : ℤ → ℤ → ℤ → ℤ → ℤ → Type ℓ) → ((ρ : List ℤ) → P (val ρ (var 0)) (val ρ (var 1)) (val ρ (var 2)) (val ρ (var 3)) (val ρ (var 4))) → (x0 x1 x2 x3 x4 : ℤ) → P x0 x1 x2 x3 x4
unfolding val
vars5 P f x0 x1 x2 x3 x4 = f (x0 ∷ x1 ∷ x2 ∷ x3 ∷ x4 ∷ [])

pub vars6 {ℓ} : (P : ℤ → ℤ → ℤ → ℤ → ℤ → ℤ → Type ℓ)
    → ((ρ : List ℤ) → P (val ρ (var 0)) (val ρ (var 1)) (val ρ (var 2)) (val ρ (var 3)) (val ρ (var 4)) (val ρ (var 5))) → (x0 x1 x2 x3 x4 x5 : ℤ)
    → P x0 x1 x2 x3 x4 x5
unfolding val
vars6 P f x0 x1 x2 x3 x4 x5 = f (x0 ∷ x1 ∷ x2 ∷ x3 ∷ x4 ∷ x5 ∷ [])

pub vars7 {ℓ} : (P : ℤ → ℤ → ℤ → ℤ → ℤ → ℤ → ℤ → Type ℓ)
    → ((ρ : List ℤ) → P (val ρ (var 0)) (val ρ (var 1)) (val ρ (var 2)) (val ρ (var 3)) (val ρ (var 4)) (val ρ (var 5)) (val ρ (var 6)))
    → (x0 x1 x2 x3 x4 x5 x6 : ℤ) → P x0 x1 x2 x3 x4 x5 x6
unfolding val
vars7 P f x0 x1 x2 x3 x4 x5 x6 = f (x0 ∷ x1 ∷ x2 ∷ x3 ∷ x4 ∷ x5 ∷ x6 ∷ [])

pub vars8 {ℓ} : (P : ℤ → ℤ → ℤ → ℤ → ℤ → ℤ → ℤ → ℤ → Type ℓ)
    → ((ρ : List ℤ) → P (val ρ (var 0)) (val ρ (var 1)) (val ρ (var 2)) (val ρ (var 3)) (val ρ (var 4)) (val ρ (var 5)) (val ρ (var 6)) (val ρ (var 7)))
    → (x0 x1 x2 x3 x4 x5 x6 x7 : ℤ) → P x0 x1 x2 x3 x4 x5 x6 x7
unfolding val
vars8 P f x0 x1 x2 x3 x4 x5 x6 x7 = f (x0 ∷ x1 ∷ x2 ∷ x3 ∷ x4 ∷ x5 ∷ x6 ∷ x7 ∷ [])

pub vars9 {ℓ} : (P : ℤ → ℤ → ℤ → ℤ → ℤ → ℤ → ℤ → ℤ → ℤ → Type ℓ)
    →
    ((ρ : List ℤ)
    → P (val ρ (var 0)) (val ρ (var 1)) (val ρ (var 2)) (val ρ (var 3)) (val ρ (var 4)) (val ρ (var 5)) (val ρ (var 6)) (val ρ (var 7)) (val ρ (var 8)))
    → (x0 x1 x2 x3 x4 x5 x6 x7 x8 : ℤ) → P x0 x1 x2 x3 x4 x5 x6 x7 x8
unfolding val
vars9 P f x0 x1 x2 x3 x4 x5 x6 x7 x8 = f (x0 ∷ x1 ∷ x2 ∷ x3 ∷ x4 ∷ x5 ∷ x6 ∷ x7 ∷ x8 ∷ [])

pub vars10 {ℓ} : (P : ℤ → ℤ → ℤ → ℤ → ℤ → ℤ → ℤ → ℤ → ℤ → ℤ → Type ℓ)
    →
    ((ρ : List ℤ)
    → P (val ρ (var 0)) (val ρ (var 1)) (val ρ (var 2)) (val ρ (var 3)) (val ρ (var 4)) (val ρ (var 5)) (val ρ (var 6)) (val ρ (var 7)) (val ρ (var 8))
    (val ρ (var 9))) → (x0 x1 x2 x3 x4 x5 x6 x7 x8 x9 : ℤ) → P x0 x1 x2 x3 x4 x5 x6 x7 x8 x9
unfolding val
vars10 P f x0 x1 x2 x3 x4 x5 x6 x7 x8 x9 = f (x0 ∷ x1 ∷ x2 ∷ x3 ∷ x4 ∷ x5 ∷ x6 ∷ x7 ∷ x8 ∷ x9 ∷ [])
