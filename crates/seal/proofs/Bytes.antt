-- Laws of blocks as lists of bytes: zeros after the first bytes, the two sums, and when a list is the block of its first bytes. Assumes nothing.
use mathlib.Core.Path.{◌≡◌, refl, sym, ap, ◌∙◌}
use mathlib.Core.Bool.{◌&&◌}
use mathlib.Core.Logic.{◌⊎◌, inl, inr, ⊎_elim}
use mathlib.Core.List.{List, [], ◌∷◌, ◌++◌}
use Prim.Native.Nat.{ℕ, zero, suc, ◌+◌, ◌*◌, ◌-◌, ◌%◌, ◌≤◌, ◌<◌}
use native.Mathlib.Omega.{arith}
use lib.ListN.{length, get_or, set, replicate, length-append, length-set, length-replicate, get_or-append}
use lib.Seq.{get_or-append-add, get_or-set_same, get_or-set_other, ext_get_or}
use lib.Dec.{eqb}
use borrow.Author.Tests.{eqb-true, eq-eqb}
use Rattle.whole.specs.Decide.{Decides}
use Rattle.whole.proofs.Decide.{decides}
use Rattle.whole.proofs.Flag.{and_yes, and_both}
use Rattle.whole.proofs.Order.{ℕ_or}
use Rattle.seal.specs.Seal.{block_size, body_size, byte, sum, plain_sum, weighed_sum, filled, block_of, SealedAs, Sealed}
pub use Rattle.seal.specs.Scan.{Alike}

-- ---- zeros after the first bytes
pub repeated : {A : Type 0} (a : A) (n i : ℕ) → get_or (replicate n a) i a ≡ a
repeated a zero i = refl
repeated a (suc n) zero = refl
repeated a (suc n) (suc i) = repeated a n i

pub padded : (l : List ℕ) (n i : ℕ) → get_or (l ++ replicate n 0) i 0 ≡ get_or l i 0
padded [] n i = repeated 0 n i
padded (x ∷ l) n zero = refl
padded (x ∷ l) n (suc i) = padded l n i

pub filled_at : (n : ℕ) (l : List ℕ) (i : ℕ) → byte (filled n l) i ≡ byte l i
unfolding filled
filled_at n l i = padded l (n - length l) i

pub filled_length : (n : ℕ) (l : List ℕ) → length l ≤ n → length (filled n l) ≡ n
unfolding filled
filled_length n l h = omega (arith, length-append l (replicate (n - length l) 0), length-replicate {A = ℕ} (n - length l) 0)

-- ---- the sums
pub sum_same : (f g : ℕ → ℕ) (n : ℕ) → ((i : ℕ) → i < n → f i ≡ g i) → sum f n ≡ sum g n
unfolding sum
sum_same f g zero h = refl
sum_same f g (suc n) h = omega (arith, sum_same f g n (λ i l. h i (omega arith)), h n (omega arith))

sum_more : (f : ℕ → ℕ) (n : ℕ) → sum f (n + 1) ≡ sum f n + f n
unfolding sum
sum_more f n = let e : n + 1 ≡ suc n = omega arith in rw e

pub sum_split : (f : ℕ → ℕ) (m n : ℕ) → sum f (m + n) ≡ sum f m + sum (λ j. f (m + j)) n
unfolding sum
sum_split f m zero = let e : m + 0 ≡ m = omega arith in rw e (omega arith)
sum_split f m (suc n) = let e : m + suc n ≡ suc (m + n) = omega arith in rw e (omega (arith, sum_split f m n))

-- ---- a loop that sums: f over the first i of n numbers, each at most b
pub record Upto (f : ℕ → ℕ) (b n i total : ℕ) : Type 0 where
  pub below : i ≤ n
  pub is : total ≡ sum f i
  pub most : total ≤ b * i

module _ (f : ℕ → ℕ) (b n : ℕ) where
  pub upto_none : Upto f b n 0 0
  unfolding sum
  upto_none = record { below = omega arith; is = refl; most = omega arith }

  pub upto_more : (i total : ℕ) → i < n → f i ≤ b → Upto f b n i total → Upto f b n (i + 1) (total + f i)
  upto_more i total h k u = record { below = omega arith; is = rw sum_more (ap (λ m. m + f i) u.is); most = let m = u.most in omega arith }

  pub upto_all : (i total : ℕ) → n ≤ i → Upto f b n i total → Upto f b n n total
  upto_all i total h u = let l = u.below in let e : i ≡ n = omega arith in rw e at u

-- ---- the two sums
pub plain_below : (l : List ℕ) → plain_sum l < 255
unfolding plain_sum
plain_below l = omega arith

pub weighed_below : (l : List ℕ) → weighed_sum l < 255
unfolding weighed_sum
weighed_below l = omega arith

pub plain_same : (l m : List ℕ) → Alike l m → plain_sum l ≡ plain_sum m
unfolding plain_sum
plain_same l m h = ap (λ n. n % 255) (sum_same (byte l) (byte m) body_size h)

pub weighed_same : (l m : List ℕ) → Alike l m → weighed_sum l ≡ weighed_sum m
unfolding weighed_sum
weighed_same l m h =
    ap (λ n. n % 255) (sum_same (λ i. (body_size - i) * byte l i) (λ i. (body_size - i) * byte m i) body_size (λ i k. ap (λ n. (body_size - i) * n) (h i k)))

-- the check that a block has, beside the one that is right
pub sealed_by : (l block : List ℕ) (p w q v : ℕ) → (p ≡ byte block body_size) × (w ≡ byte block (body_size + 1)) → (q ≡ plain_sum l) × (v ≡ weighed_sum l)
    → Decides (SealedAs l block) (eqb p q && eqb w v)
sealed_by l block p w q v s r =
    decides _ (eqb p q && eqb w v)
    (λ e. let b = and_yes (eqb p q) (eqb w v) e in record { first = sym s.0 ∙ eqb-true p q b.0 ∙ r.0; second = sym s.1 ∙ eqb-true w v b.1 ∙ r.1 })
    (λ f. and_both (eqb p q) (eqb w v) (eq-eqb p q (s.0 ∙ f.first ∙ sym r.0)) (eq-eqb w v (s.1 ∙ f.second ∙ sym r.1)))

-- ---- a block
module _ (front : List ℕ) (few : length front ≤ body_size) where
  long : length (filled body_size front) ≡ body_size
  long = filled_length body_size front few

  pub block_length : length (block_of front) ≡ block_size
  unfolding block_of
  block_length = omega (arith, long, length-append (filled body_size front) (plain_sum (filled body_size front) ∷ weighed_sum (filled body_size front) ∷ []))

  pub block_at : (i : ℕ) → i < body_size → byte (block_of front) i ≡ byte front i
  unfolding block_of
  block_at i h =
      get_or-append (filled body_size front) (plain_sum (filled body_size front) ∷ weighed_sum (filled body_size front) ∷ []) 0 i (rw long h) ∙ filled_at body_size front i

  alike_filled : Alike (filled body_size front) (block_of front)
  alike_filled i h = filled_at body_size front i ∙ sym (block_at i h)

  past : (n : ℕ) → byte (block_of front) (body_size + n) ≡ byte (plain_sum (filled body_size front) ∷ weighed_sum (filled body_size front) ∷ []) n
  unfolding block_of
  past n =
      let e = get_or-append-add (filled body_size front) (plain_sum (filled body_size front) ∷ weighed_sum (filled body_size front) ∷ []) n 0 in
      rw long at e

  pub block_sealed : Sealed (block_of front)
  block_sealed = record {
    first = past 0 ∙ plain_same (filled body_size front) (block_of front) alike_filled;
    second = past 1 ∙ weighed_same (filled body_size front) (block_of front) alike_filled;
  }

-- a list of 512 bytes with a right check is the block of what its first bytes are
last_two : (i : ℕ) → body_size ≤ i → i < block_size → (i ≡ body_size) ⊎ (i ≡ (body_size + 1))
last_two i h k = ⊎_elim (λ (l : i ≤ body_size). inl (omega arith)) (λ (l : body_size < i). inr (omega arith)) (ℕ_or i body_size)

pub sealed_is : (l m : List ℕ) → length l ≡ block_size → length m ≡ block_size → Sealed l → Sealed m → Alike l m → l ≡ m
sealed_is l m n o s t h =
    ext_get_or 0 l m (n ∙ sym o)
    (λ i k. ⊎_elim
    (λ (g : body_size ≤ i). ⊎_elim
    (λ (e : i ≡ body_size). rw e (s.first ∙ plain_same l m h ∙ sym t.first))
    (λ (e : i ≡ (body_size + 1)). rw e (s.second ∙ weighed_same l m h ∙ sym t.second))
    (last_two i g (omega arith)))
    (λ (g : i < body_size). h i g)
    (ℕ_or body_size i))

pub block_is : (l front : List ℕ) → length front ≤ body_size → length l ≡ block_size → Sealed l → Alike l front → l ≡ block_of front
block_is l front few n s h =
    sealed_is l (block_of front) n (block_length front few) s (block_sealed front few) (λ i k. h i k ∙ sym (block_at front few i k))

pub block_same : (f g : List ℕ) → length f ≤ body_size → length g ≤ body_size → Alike f g → block_of f ≡ block_of g
block_same f g k m h = block_is (block_of f) g m (block_length f k) (block_sealed f k) (λ i l. block_at f k i l ∙ h i l)

-- ---- the check, put in its place
module _ (m : List ℕ) (long : length m ≡ block_size) where
  sealing : List ℕ
  sealing = set (set m body_size (plain_sum m)) (body_size + 1) (weighed_sum m)

  sealing_length : length sealing ≡ block_size
  unfolding sealing
  sealing_length = length-set (set m body_size (plain_sum m)) (body_size + 1) (weighed_sum m) ∙ (length-set m body_size (plain_sum m) ∙ long)

  sealing_at : (i : ℕ) → i < body_size → byte sealing i ≡ byte m i
  unfolding sealing
  sealing_at i h =
      get_or-set_other (set m body_size (plain_sum m)) (body_size + 1) i (weighed_sum m) 0 (λ e. omega arith)
      ∙ get_or-set_other m body_size i (plain_sum m) 0 (λ e. omega arith)

  sealing_sealed : Sealed sealing
  unfolding sealing
  sealing_sealed =
      let n = set m body_size (plain_sum m) in let same : Alike m sealing = λ i h. sym (sealing_at i h) in
      record {
        first =
            get_or-set_other n (body_size + 1) body_size (weighed_sum m) 0 (λ e. omega arith)
            ∙ (get_or-set_same m body_size (plain_sum m) 0 (omega arith) ∙ plain_same m sealing same);
        second =
            get_or-set_same n (body_size + 1) (weighed_sum m) 0 (rw (length-set m body_size (plain_sum m)) (omega arith))
            ∙ weighed_same m sealing same;
      }

  pub sealing_is : (front : List ℕ) → length front ≤ body_size → Alike m front → set (set m body_size (plain_sum m)) (body_size + 1) (weighed_sum m) ≡ block_of front
  unfolding sealing
  sealing_is front few h = block_is sealing front few sealing_length sealing_sealed (λ i k. sealing_at i k ∙ h i k)
