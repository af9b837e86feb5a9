-- Laws of ℤ that `lib.IntN` lacks, by `all` and `ring` of `Difference`. Assumes nothing.
use mathlib.Core.Path.{◌≡◌, sym}
use mathlib.Core.Logic.{◌⊎◌, inl, inr, ⊎_elim}
use Prim.Native.Nat.{ℕ, zero, suc, ◌+◌, ◌*◌, ◌≤◌, ◌<◌}
use native.Mathlib.Omega.{arith}
use native.Mathlib.Nat.{mul-pos}
use lib.Dec.{le→leb, ltb→lt, lt→ltb}
use lib.IntN.{ℤ, pos, negsuc, neg_ℤ, ◌+ℤ◌, ◌-ℤ◌, ◌*ℤ◌}
use lib.Signed.{◌≤ℤ◌, ◌<ℤ◌}
use Rattle.whole.proofs.Difference.{all, all2, all3, all4, ring}

pub distrib : (a b c : ℤ) → a *ℤ (b +ℤ c) ≡ a *ℤ b +ℤ a *ℤ c
distrib = all3 _ λ a a' b b' c c'. simp ring (omega arith)

pub distrib_r : (a b c : ℤ) → (a +ℤ b) *ℤ c ≡ a *ℤ c +ℤ b *ℤ c
distrib_r = all3 _ λ a a' b b' c c'. simp ring (omega arith)

pub mul_assoc : (a b c : ℤ) → (a *ℤ b) *ℤ c ≡ a *ℤ (b *ℤ c)
mul_assoc = all3 _ λ a a' b b' c c'. simp ring (omega arith)

pub mul_swap : (a b c : ℤ) → a *ℤ (b *ℤ c) ≡ b *ℤ (a *ℤ c)
mul_swap = all3 _ λ a a' b b' c c'. simp ring (omega arith)

pub mul_swap_r : (a b c : ℤ) → (a *ℤ b) *ℤ c ≡ (a *ℤ c) *ℤ b
mul_swap_r = all3 _ λ a a' b b' c c'. simp ring (omega arith)

pub mul_mul : (a b c d : ℤ) → (a *ℤ b) *ℤ (c *ℤ d) ≡ (a *ℤ c) *ℤ (b *ℤ d)
mul_mul = all4 _ λ a a' b b' c c' d d'. simp ring (omega arith)

pub mul_neg1 : (a : ℤ) → negsuc 0 *ℤ a ≡ neg_ℤ a
mul_neg1 = all _ λ a a'. simp ring (omega arith)

pub add_swap : (a b c : ℤ) → a +ℤ (b +ℤ c) ≡ b +ℤ (a +ℤ c)
add_swap = all3 _ λ a a' b b' c c'. simp ring (omega arith)

-- ---- order
pub ℕ_or : (a b : ℕ) → (a ≤ b) ⊎ (b < a)
ℕ_or zero b = inl (omega arith)
ℕ_or (suc a) zero = inr (omega arith)
ℕ_or (suc a) (suc b) = ⊎_elim (λ (h : a ≤ b). inl (omega arith)) (λ (h : b < a). inr (omega arith)) (ℕ_or a b)

-- decided
pub le_or_lt : (a b : ℤ) → (a ≤ℤ b) ⊎ (b <ℤ a)
le_or_lt = all2 _ λ a a' b b'. ⊎_elim (λ (h : a + b' ≤ b + a'). inl (simp ring (omega arith))) (λ (h : b + a' < a + b'). inr (simp ring (omega arith))) (ℕ_or (a + b') (b + a'))

pub not_lt : (a b : ℤ) → (b <ℤ a → ⊥) → a ≤ℤ b
not_lt = all2 _ λ a a' b b'. simp ring (omega arith)

pub not_le : (a b : ℤ) → (b ≤ℤ a → ⊥) → a <ℤ b
not_le = all2 _ λ a a' b b'. simp ring (omega arith)

pub clash : (a b : ℤ) → a <ℤ b → b ≤ℤ a → ⊥
clash = all2 _ λ a a' b b'. simp ring (omega arith)

pub antisym : (a b : ℤ) → a ≤ℤ b → b ≤ℤ a → a ≡ b
antisym = all2 _ λ a a' b b'. simp ring (omega arith)

-- less, the same or more
pub data Tri (u v : ℤ) : Type 0 where
  less : u <ℤ v → Tri u v
  same : u ≡ v → Tri u v
  more : v <ℤ u → Tri u v

pub tri : (u v : ℤ) → Tri u v
tri u v = ⊎_elim (λ h. ⊎_elim (λ k. same (antisym u v h k)) less (le_or_lt v u)) more (le_or_lt u v)

pub le_trans : (a b c : ℤ) → a ≤ℤ b → b ≤ℤ c → a ≤ℤ c
le_trans = all3 _ λ a a' b b' c c'. simp ring (omega arith)

pub lt_le : (a b : ℤ) → a <ℤ b → a ≤ℤ b
lt_le = all2 _ λ a a' b b'. simp ring (omega arith)

pub le_lt_trans : (a b c : ℤ) → a ≤ℤ b → b <ℤ c → a <ℤ c
le_lt_trans = all3 _ λ a a' b b' c c'. simp ring (omega arith)

pub eq_le : (a b : ℤ) → a ≡ b → a ≤ℤ b
eq_le = all2 _ λ a a' b b'. simp ring (omega arith)

-- what is 0 has no sign
pub neg_not : (a : ℤ) → a ≡ pos 0 → a <ℤ pos 0 → ⊥
neg_not = all _ λ a a'. simp ring (omega arith)

pub pos_not : (a : ℤ) → a ≡ pos 0 → pos 0 <ℤ a → ⊥
pos_not = all _ λ a a'. simp ring (omega arith)

-- a sign turned
pub turn_le : (a : ℤ) → a ≤ℤ pos 0 → pos 0 ≤ℤ neg_ℤ a
turn_le = all _ λ a a'. simp ring (omega arith)

pub turn_ge : (a : ℤ) → pos 0 ≤ℤ a → neg_ℤ a ≤ℤ pos 0
turn_ge = all _ λ a a'. simp ring (omega arith)

pub turn_lt : (a : ℤ) → a <ℤ pos 0 → pos 0 <ℤ neg_ℤ a
turn_lt = all _ λ a a'. simp ring (omega arith)

pub turn_gt : (a : ℤ) → pos 0 <ℤ a → neg_ℤ a <ℤ pos 0
turn_gt = all _ λ a a'. simp ring (omega arith)

-- differences
pub le_sub : (a b : ℤ) → a ≤ℤ b → pos 0 ≤ℤ (b -ℤ a)
le_sub = all2 _ λ a a' b b'. simp ring (omega arith)

pub lt_sub : (a b : ℤ) → a <ℤ b → pos 0 <ℤ (b -ℤ a)
lt_sub = all2 _ λ a a' b b'. simp ring (omega arith)

pub sub_mono : (c a b : ℤ) → a ≤ℤ b → (a -ℤ c) ≤ℤ (b -ℤ c)
sub_mono = all3 _ λ a a' b b' c c'. simp ring (omega arith)

pub sub_lt : (a b : ℤ) → a <ℤ b → (a -ℤ b) <ℤ pos 0
sub_lt = all2 _ λ a a' b b'. simp ring (omega arith)

pub sub_le : (a b : ℤ) → pos 0 ≤ℤ b → (a -ℤ b) ≤ℤ a
sub_le = all2 _ λ a a' b b'. simp ring (omega arith)

-- products
pub nn_mul : (a b : ℤ) → pos 0 ≤ℤ a → pos 0 ≤ℤ b → pos 0 ≤ℤ (a *ℤ b)
nn_mul (pos a) (pos b) h k = record { le = le→leb 0 (a * b) (omega arith) }
nn_mul (pos a) (negsuc b) h k = absurd k.le
nn_mul (negsuc a) b h k = absurd h.le

pub pos_mul : (a b : ℤ) → pos 0 <ℤ a → pos 0 <ℤ b → pos 0 <ℤ (a *ℤ b)
pos_mul (pos a) (pos b) h k = record { lt = lt→ltb 0 (a * b) (mul-pos (ltb→lt 0 a h.lt) (ltb→lt 0 b k.lt)) }
pos_mul (pos a) (negsuc b) h k = absurd k.lt
pos_mul (negsuc a) b h k = absurd h.lt

-- a fact times a factor: the product of the differences, multiplied out
mono_r : (a b c : ℤ) → pos 0 ≤ℤ ((b -ℤ a) *ℤ c) → (a *ℤ c) ≤ℤ (b *ℤ c)
mono_r = all3 _ λ a a' b b' c c'. simp ring (omega arith)

pub mul_mono : (a b c : ℤ) → a ≤ℤ b → pos 0 ≤ℤ c → (a *ℤ c) ≤ℤ (b *ℤ c)
mul_mono a b c h k = mono_r a b c (nn_mul _ _ (le_sub _ _ h) k)

mono_lt : (a b c : ℤ) → pos 0 <ℤ ((b -ℤ a) *ℤ c) → (a *ℤ c) <ℤ (b *ℤ c)
mono_lt = all3 _ λ a a' b b' c c'. simp ring (omega arith)

pub mul_mono_lt : (a b c : ℤ) → a <ℤ b → pos 0 <ℤ c → (a *ℤ c) <ℤ (b *ℤ c)
mul_mono_lt a b c h k = mono_lt a b c (pos_mul _ _ (lt_sub _ _ h) k)

pub cancel : (a b c : ℤ) → pos 0 <ℤ c → (a *ℤ c) ≤ℤ (b *ℤ c) → a ≤ℤ b
cancel a b c k h = not_lt a b (λ q. clash _ _ (mul_mono_lt b a c q k) h)

-- the sign of a product, and of a factor
pub np_mul : (a b : ℤ) → pos 0 ≤ℤ a → b ≤ℤ pos 0 → (a *ℤ b) ≤ℤ pos 0
np_mul a b h k = flip a b (nn_mul a (pos 0 -ℤ b) h (le_sub _ _ k))
  where
    flip : (a b : ℤ) → pos 0 ≤ℤ (a *ℤ (pos 0 -ℤ b)) → (a *ℤ b) ≤ℤ pos 0
    flip = all2 _ λ a a' b b'. simp ring (omega arith)

pub nn_factor : (a b : ℤ) → pos 0 <ℤ b → pos 0 ≤ℤ (a *ℤ b) → pos 0 ≤ℤ a
nn_factor a b k h = not_lt _ _ (λ q. flip a b (pos_mul (pos 0 -ℤ a) b (lt_sub _ _ q) k) h)
  where
    flip : (a b : ℤ) → pos 0 <ℤ ((pos 0 -ℤ a) *ℤ b) → pos 0 ≤ℤ (a *ℤ b) → ⊥
    flip = all2 _ λ a a' b b'. simp ring (omega arith)

-- the other signs, each from one of `nn_mul`, `pos_mul` at negated factors
pub pn_mul : (a b : ℤ) → a ≤ℤ pos 0 → pos 0 ≤ℤ b → (a *ℤ b) ≤ℤ pos 0
pn_mul a b h k = flip a b (nn_mul (neg_ℤ a) b (turn_le a h) k)
  where
    flip : (a b : ℤ) → pos 0 ≤ℤ (neg_ℤ a *ℤ b) → (a *ℤ b) ≤ℤ pos 0
    flip = all2 _ λ a a' b b'. simp ring (omega arith)

pub pp_mul : (a b : ℤ) → a ≤ℤ pos 0 → b ≤ℤ pos 0 → pos 0 ≤ℤ (a *ℤ b)
pp_mul a b h k = flip a b (nn_mul (neg_ℤ a) (neg_ℤ b) (turn_le a h) (turn_le b k))
  where
    flip : (a b : ℤ) → pos 0 ≤ℤ (neg_ℤ a *ℤ neg_ℤ b) → pos 0 ≤ℤ (a *ℤ b)
    flip = all2 _ λ a a' b b'. simp ring (omega arith)

pub neg_mul : (a b : ℤ) → a <ℤ pos 0 → b <ℤ pos 0 → pos 0 <ℤ (a *ℤ b)
neg_mul a b h k = flip a b (pos_mul (neg_ℤ a) (neg_ℤ b) (turn_lt a h) (turn_lt b k))
  where
    flip : (a b : ℤ) → pos 0 <ℤ (neg_ℤ a *ℤ neg_ℤ b) → pos 0 <ℤ (a *ℤ b)
    flip = all2 _ λ a a' b b'. simp ring (omega arith)

pub pos_neg_mul : (a b : ℤ) → pos 0 <ℤ a → b <ℤ pos 0 → (a *ℤ b) <ℤ pos 0
pos_neg_mul a b h k = flip a b (pos_mul a (neg_ℤ b) h (turn_lt b k))
  where
    flip : (a b : ℤ) → pos 0 <ℤ (a *ℤ neg_ℤ b) → (a *ℤ b) <ℤ pos 0
    flip = all2 _ λ a a' b b'. simp ring (omega arith)

pub cancel_lt : (a b c : ℤ) → pos 0 <ℤ c → (a *ℤ c) <ℤ (b *ℤ c) → a <ℤ b
cancel_lt a b c k h = not_le a b (λ q. clash _ _ h (mul_mono b a c q (lt_le _ _ k)))

-- less than the next is at most
pub cancel_next : (a b c : ℤ) → pos 0 <ℤ c → (a *ℤ c) <ℤ ((b +ℤ pos 1) *ℤ c) → a ≤ℤ b
cancel_next a b c k h = below_next a b (cancel_lt a (b +ℤ pos 1) c k h)
  where
    below_next : (a b : ℤ) → a <ℤ (b +ℤ pos 1) → a ≤ℤ b
    below_next = all2 _ λ a a' b b'. simp ring (omega arith)

pub cancel_eq : (a b c : ℤ) → pos 0 <ℤ c → a *ℤ c ≡ b *ℤ c → a ≡ b
cancel_eq a b c k h = antisym a b (cancel a b c k (eq_le _ _ h)) (cancel b a c k (eq_le _ _ (sym h)))
