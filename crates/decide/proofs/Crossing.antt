-- A motion from p to q that does not touch the edge a b: the edge's crossing flags at p and at q differ as the flags of its two ends do.
-- Summed round a ring every corner stands twice, so the parity of the crossings is the same at p and at q. Assumes nothing.
use mathlib.Core.Path.{◌≡◌, refl, sym, ap, subst, ◌∙◌}
use mathlib.Core.Bool.{Bool, true, false}
use Prim.Native.Nat.{ℕ, zero, suc, ◌<◌}
use native.Mathlib.Omega.{arith}
use lib.IntN.{ℤ, pos, neg_ℤ, ◌-ℤ◌, ◌*ℤ◌}
use lib.Signed.{◌≤ℤ◌, ◌<ℤ◌, le_z, lt_z}
use Rattle.whole.proofs.Difference.{all2, all3, ring}
use Rattle.whole.proofs.Polynomial.{vars3, vars4, vars6, vars8, poly, num_val, by_ring}
use Rattle.whole.proofs.Order.{nn_mul, np_mul, pn_mul, pp_mul, neg_mul, not_lt, not_le, clash, turn_gt, le_sub, lt_sub, sub_lt, lt_le}
use Rattle.whole.proofs.Flag.{lt_true, lt_false, le_true, le_false, true_lt, false_lt, true_le, false_le}
use Rattle.rules.specs.Ring.{Pt, Ring, from, to}
use Rattle.rules.proofs.Ring.{next_inner, next_last}
use Rattle.decide.specs.Side.{side_of, side}
use Rattle.decide.specs.Crossing.{counts, xor, crosses, flag, parity}
use Rattle.decide.proofs.Segment.{Apart, right, left, right', left', below, above, before, behind}

-- v lies over the segment p q
abbrev pub over : Pt → Pt → Pt → Bool
over v p q = counts (le_z v.x p.x) (le_z v.x q.x) (side_of p q v)

-- ---- signs
-- a flag and what it says
abbrev Says : Bool → Type 0 → Type 0 → Type 0
Says true P Q = P
Says false P Q = Q

says : (t : Bool) {P Q : Type 0} → (t ≡ true → P) → (t ≡ false → Q) → Says t P Q
says true f g = f refl
says false f g = g refl

diff_neg : (w u v : ℤ) → w ≡ u -ℤ v → u ≤ℤ pos 0 → pos 0 <ℤ v → w <ℤ pos 0
diff_neg = all3 _ λ a a' b b' c c'. simp ring (omega arith)

diff_pos : (w u v : ℤ) → w ≡ u -ℤ v → pos 0 <ℤ u → v ≤ℤ pos 0 → pos 0 <ℤ w
diff_pos = all3 _ λ a a' b b' c c'. simp ring (omega arith)

infixl 5 ◌&◌
abbrev ◌&◌ : Bool → Bool → Bool
a & true = a
a & false = false

-- r e = s y − t z with s and t negative: r's flag, by the signs of y and z, is e's
module _ (r s t e y z : ℤ) (hs : s <ℤ pos 0) (ht : t <ℤ pos 0) (eq : r *ℤ e ≡ s *ℤ y -ℤ t *ℤ z) where
  low : pos 0 ≤ℤ y → z <ℤ pos 0 → (r *ℤ e) <ℤ pos 0
  low a b = diff_neg _ _ _ eq (pn_mul s y (lt_le _ _ hs) a) (neg_mul t z ht b)

  high : y <ℤ pos 0 → pos 0 ≤ℤ z → pos 0 <ℤ (r *ℤ e)
  high a b = diff_pos _ _ _ eq (neg_mul s y hs a) (pn_mul t z (lt_le _ _ ht) b)

  core : (A B g : Bool) → Says A (pos 0 ≤ℤ y) (y <ℤ pos 0) → Says B (pos 0 ≤ℤ z) (z <ℤ pos 0) → Says g (pos 0 <ℤ e) (e ≤ℤ pos 0) → counts A B r ≡ xor A B & g
  core true true true a b c = refl
  core true true false a b c = refl
  core false false true a b c = refl
  core false false false a b c = refl
  core true false true a b c = true_lt r (pos 0) (not_le r (pos 0) (λ h. clash _ _ (low a b) (nn_mul r e h (lt_le _ _ c))))
  core true false false a b c = false_lt r (pos 0) (not_lt (pos 0) r (λ h. clash _ _ (low a b) (pp_mul r e (lt_le _ _ h) c)))
  core false true true a b c = true_lt (pos 0) r (not_le (pos 0) r (λ h. clash _ _ (high a b) (pn_mul r e h (lt_le _ _ c))))
  core false true false a b c = false_lt (pos 0) r (not_lt r (pos 0) (λ h. clash _ _ (high a b) (np_mul r e (lt_le _ _ h) c)))

ge_sub : (a b : ℤ) → b ≤ℤ a → (b -ℤ a) ≤ℤ pos 0
ge_sub = all2 _ λ a a' b b'. simp ring (omega arith)

pub sign : (r s t e f y u z v : ℤ) → s <ℤ pos 0 → t <ℤ pos 0 → r *ℤ (f -ℤ e) ≡ s *ℤ (u -ℤ y) -ℤ t *ℤ (v -ℤ z) → counts (le_z y u) (le_z z v) r ≡ xor (le_z y u) (le_z z v) & lt_z e f
sign r s t e f y u z v hs ht eq =
    core r s t (f -ℤ e) (u -ℤ y) (v -ℤ z) hs ht eq (le_z y u) (le_z z v) (lt_z e f)
    (says (le_z y u) (λ h. le_sub _ _ (le_true y u h)) (λ h. sub_lt _ _ (le_false y u h)))
    (says (le_z z v) (λ h. le_sub _ _ (le_true z v h)) (λ h. sub_lt _ _ (le_false z v h)))
    (says (lt_z e f) (λ h. lt_sub _ _ (lt_true e f h)) (λ h. ge_sub _ _ (lt_false e f h)))

-- the same with s and t positive
turned : (r s t e f y z : ℤ) → r *ℤ (f -ℤ e) ≡ s *ℤ y -ℤ t *ℤ z → r *ℤ (e -ℤ f) ≡ neg_ℤ s *ℤ y -ℤ neg_ℤ t *ℤ z
turned r s t e f y z h = left r e f ∙ ap neg_ℤ h ∙ right s y t z
  where
    left : (r e f : ℤ) → r *ℤ (e -ℤ f) ≡ neg_ℤ (r *ℤ (f -ℤ e))
    left = vars3 _ λ ρ. simp poly (by_ring _ _ _ tt)

    right : (s y t z : ℤ) → neg_ℤ (s *ℤ y -ℤ t *ℤ z) ≡ neg_ℤ s *ℤ y -ℤ neg_ℤ t *ℤ z
    right = vars4 _ λ ρ. simp poly (by_ring _ _ _ tt)

pub sign⁺ : (r s t e f y u z v : ℤ) → pos 0 <ℤ s → pos 0 <ℤ t → r *ℤ (f -ℤ e) ≡ s *ℤ (u -ℤ y) -ℤ t *ℤ (v -ℤ z) → counts (le_z y u) (le_z z v) r ≡ xor (le_z y u) (le_z z v) & lt_z f e
sign⁺ r s t e f y u z v hs ht eq = sign r (neg_ℤ s) (neg_ℤ t) f e y u z v (turn_gt s hs) (turn_gt t ht) (turned r s t e f (u -ℤ y) (v -ℤ z) eq)

-- ---- four flags
pub xor_swap : (a b c d : Bool) → xor (xor a b) (xor c d) ≡ xor (xor a c) (xor b d)
xor_swap true true true true = refl
xor_swap true true true false = refl
xor_swap true true false true = refl
xor_swap true true false false = refl
xor_swap true false true true = refl
xor_swap true false true false = refl
xor_swap true false false true = refl
xor_swap true false false false = refl
xor_swap false true true true = refl
xor_swap false true true false = refl
xor_swap false true false true = refl
xor_swap false true false false = refl
xor_swap false false true true = refl
xor_swap false false true false = refl
xor_swap false false false true = refl
xor_swap false false false false = refl

-- that agree with one
square : (A B C D g : Bool) → xor (xor A B & g) (xor C D & g) ≡ xor (xor A C & g) (xor B D & g)
square A B C D false = refl
square A B C D true = xor_swap A B C D

-- each flag is its range's, times g
abbrev Cr : Pt → Pt → Pt → Bool → Type 0
Cr a b p g = crosses a b p ≡ xor (le_z a.x p.x) (le_z b.x p.x) & g

abbrev Ov : Pt → Pt → Pt → Bool → Type 0
Ov v p q g = over v p q ≡ xor (le_z v.x p.x) (le_z v.x q.x) & g

four : (a b p q : Pt) (g : Bool) → Cr a b p g → Cr a b q g → Ov a p q g → Ov b p q g → xor (crosses a b p) (crosses a b q) ≡ xor (over a p q) (over b p q)
four a b p q g h i j k = rw (h, i, j, k) (square (le_z a.x p.x) (le_z b.x p.x) (le_z a.x q.x) (le_z b.x q.x) g)

-- ---- the identities, over coordinates
h_a : (ax ay bx by px py qx qy : ℤ) → side px py qx qy ax ay *ℤ (bx -ℤ ax) ≡ side ax ay bx by qx qy *ℤ (px -ℤ ax) -ℤ side ax ay bx by px py *ℤ (qx -ℤ ax)
h_a = vars8 _ λ ρ. simp poly (by_ring _ _ _ tt)

h_b : (ax ay bx by px py qx qy : ℤ) → side px py qx qy bx by *ℤ (bx -ℤ ax) ≡ side ax ay bx by qx qy *ℤ (px -ℤ bx) -ℤ side ax ay bx by px py *ℤ (qx -ℤ bx)
h_b = vars8 _ λ ρ. simp poly (by_ring _ _ _ tt)

c_p : (ax ay bx by px py qx qy : ℤ) → side ax ay bx by px py *ℤ (px -ℤ qx) ≡ side px py qx qy bx by *ℤ (px -ℤ ax) -ℤ side px py qx qy ax ay *ℤ (px -ℤ bx)
c_p = vars8 _ λ ρ. simp poly (by_ring _ _ _ tt)

c_q : (ax ay bx by px py qx qy : ℤ) → side ax ay bx by qx qy *ℤ (px -ℤ qx) ≡ side px py qx qy bx by *ℤ (qx -ℤ ax) -ℤ side px py qx qy ax ay *ℤ (qx -ℤ bx)
c_q = vars8 _ λ ρ. simp poly (by_ring _ _ _ tt)

own : (r x y u : ℤ) → r *ℤ (y -ℤ x) ≡ r *ℤ (u -ℤ x) -ℤ r *ℤ (u -ℤ y)
own = vars4 _ λ ρ. simp poly (by_ring _ _ _ tt)

own' : (r e f v : ℤ) → r *ℤ (f -ℤ e) ≡ r *ℤ (f -ℤ v) -ℤ r *ℤ (e -ℤ v)
own' = vars4 _ λ ρ. simp poly (by_ring _ _ _ tt)

tri : (ax ay bx by px py : ℤ) → side ax ay bx by px py *ℤ pos 1 ≡ (py -ℤ by) *ℤ (px -ℤ ax) -ℤ (py -ℤ ay) *ℤ (px -ℤ bx)
tri = vars6 _ λ ρ. simp (poly, num_val ρ) (by_ring _ _ _ tt)

tri' : (px py qx qy vx vy : ℤ) → side px py qx qy vx vy *ℤ pos 1 ≡ (qy -ℤ vy) *ℤ (px -ℤ vx) -ℤ (py -ℤ vy) *ℤ (qx -ℤ vx)
tri' = vars6 _ λ ρ. simp (poly, num_val ρ) (by_ring _ _ _ tt)

-- ---- the lemma
pub edge : (a b p q : Pt) → Apart a b p q → xor (crosses a b p) (crosses a b q) ≡ xor (over a p q) (over b p q)
edge a b p q (right h k) =
    four a b p q (lt_z a.x b.x)
    (sign (side_of a b p) _ _ a.x b.x a.x p.x b.x p.x h h (own (side_of a b p) a.x b.x p.x))
    (sign (side_of a b q) _ _ a.x b.x a.x q.x b.x q.x k k (own (side_of a b q) a.x b.x q.x))
    (sign (side_of p q a) _ _ a.x b.x a.x p.x a.x q.x k h (h_a a.x a.y b.x b.y p.x p.y q.x q.y))
    (sign (side_of p q b) _ _ a.x b.x b.x p.x b.x q.x k h (h_b a.x a.y b.x b.y p.x p.y q.x q.y))
edge a b p q (left h k) =
    four a b p q (lt_z b.x a.x)
    (sign⁺ (side_of a b p) _ _ a.x b.x a.x p.x b.x p.x h h (own (side_of a b p) a.x b.x p.x))
    (sign⁺ (side_of a b q) _ _ a.x b.x a.x q.x b.x q.x k k (own (side_of a b q) a.x b.x q.x))
    (sign⁺ (side_of p q a) _ _ a.x b.x a.x p.x a.x q.x k h (h_a a.x a.y b.x b.y p.x p.y q.x q.y))
    (sign⁺ (side_of p q b) _ _ a.x b.x b.x p.x b.x q.x k h (h_b a.x a.y b.x b.y p.x p.y q.x q.y))
edge a b p q (right' h k) =
    four a b p q (lt_z q.x p.x)
    (sign (side_of a b p) _ _ q.x p.x a.x p.x b.x p.x k h (c_p a.x a.y b.x b.y p.x p.y q.x q.y))
    (sign (side_of a b q) _ _ q.x p.x a.x q.x b.x q.x k h (c_q a.x a.y b.x b.y p.x p.y q.x q.y))
    (sign (side_of p q a) _ _ q.x p.x a.x p.x a.x q.x h h (own' (side_of p q a) q.x p.x a.x))
    (sign (side_of p q b) _ _ q.x p.x b.x p.x b.x q.x k k (own' (side_of p q b) q.x p.x b.x))
edge a b p q (left' h k) =
    four a b p q (lt_z p.x q.x)
    (sign⁺ (side_of a b p) _ _ q.x p.x a.x p.x b.x p.x k h (c_p a.x a.y b.x b.y p.x p.y q.x q.y))
    (sign⁺ (side_of a b q) _ _ q.x p.x a.x q.x b.x q.x k h (c_q a.x a.y b.x b.y p.x p.y q.x q.y))
    (sign⁺ (side_of p q a) _ _ q.x p.x a.x p.x a.x q.x h h (own' (side_of p q a) q.x p.x a.x))
    (sign⁺ (side_of p q b) _ _ q.x p.x b.x p.x b.x q.x k k (own' (side_of p q b) q.x p.x b.x))
edge a b p q (below h i j k) =
    four a b p q true
    (sign (side_of a b p) _ _ (pos 0) (pos 1) a.x p.x b.x p.x (sub_lt _ _ i) (sub_lt _ _ h) (tri a.x a.y b.x b.y p.x p.y))
    (sign (side_of a b q) _ _ (pos 0) (pos 1) a.x q.x b.x q.x (sub_lt _ _ k) (sub_lt _ _ j) (tri a.x a.y b.x b.y q.x q.y))
    (sign (side_of p q a) _ _ (pos 0) (pos 1) a.x p.x a.x q.x (sub_lt _ _ j) (sub_lt _ _ h) (tri' p.x p.y q.x q.y a.x a.y))
    (sign (side_of p q b) _ _ (pos 0) (pos 1) b.x p.x b.x q.x (sub_lt _ _ k) (sub_lt _ _ i) (tri' p.x p.y q.x q.y b.x b.y))
edge a b p q (above h i j k) =
    four a b p q false
    (sign⁺ (side_of a b p) _ _ (pos 0) (pos 1) a.x p.x b.x p.x (lt_sub _ _ i) (lt_sub _ _ h) (tri a.x a.y b.x b.y p.x p.y))
    (sign⁺ (side_of a b q) _ _ (pos 0) (pos 1) a.x q.x b.x q.x (lt_sub _ _ k) (lt_sub _ _ j) (tri a.x a.y b.x b.y q.x q.y))
    (sign⁺ (side_of p q a) _ _ (pos 0) (pos 1) a.x p.x a.x q.x (lt_sub _ _ j) (lt_sub _ _ h) (tri' p.x p.y q.x q.y a.x a.y))
    (sign⁺ (side_of p q b) _ _ (pos 0) (pos 1) b.x p.x b.x q.x (lt_sub _ _ k) (lt_sub _ _ i) (tri' p.x p.y q.x q.y b.x b.y))
edge a b p q (before h i j k) = rw (false_le a.x p.x h, false_le b.x p.x i, false_le a.x q.x j, false_le b.x q.x k)
edge a b p q (behind h i j k) = rw (true_le a.x p.x (lt_le _ _ h), true_le b.x p.x (lt_le _ _ i), true_le a.x q.x (lt_le _ _ j), true_le b.x q.x (lt_le _ _ k))

-- ---- round a ring
pub xor_link : (a b c : Bool) → xor (xor a b) (xor b c) ≡ xor a c
xor_link true true true = refl
xor_link true true false = refl
xor_link true false true = refl
xor_link true false false = refl
xor_link false true true = refl
xor_link false true false = refl
xor_link false false true = refl
xor_link false false false = refl

pub xor_self : (a : Bool) → false ≡ xor a a
xor_self true = refl
xor_self false = refl

pub xor_unit : (a : Bool) → xor a false ≡ a
xor_unit true = refl
xor_unit false = refl

pub xor_same : (a b : Bool) → xor a b ≡ false → a ≡ b
xor_same true true e = refl
xor_same true false e = e
xor_same false true e = sym e
xor_same false false e = refl

pub parity_ext : (f g : ℕ → Bool) (n : ℕ) → ((k : ℕ) → k < n → f k ≡ g k) → parity f n ≡ parity g n
unfolding parity
parity_ext f g zero h = refl
parity_ext f g (suc n) h = rw (parity_ext f g n (λ k i. h k (omega arith)), h n (omega arith))

-- a chain of corners c 0, c 1 ..: the flags of its inner corners cancel
chain : (c : ℕ → Pt) (p q : Pt) (n : ℕ) → ((k : ℕ) → k < n → Apart (c k) (c (suc k)) p q)
    → xor (parity (λ k. crosses (c k) (c (suc k)) p) n) (parity (λ k. crosses (c k) (c (suc k)) q) n) ≡ xor (over (c 0) p q) (over (c n) p q)
unfolding parity
chain c p q zero h = xor_self (over (c 0) p q)
chain c p q (suc n) h =
    xor_swap (parity (λ k. crosses (c k) (c (suc k)) p) n) (crosses (c n) (c (suc n)) p) (parity (λ k. crosses (c k) (c (suc k)) q) n) (crosses (c n) (c (suc n)) q)
    ∙ rw (edge (c n) (c (suc n)) p q (h n (omega arith)), chain c p q n (λ k i. h k (omega arith)))
    (xor_link (over (c 0) p q) (over (c n) p q) (over (c (suc n)) p q))

-- the corners in the order of the edges: 0, 1 .. and 0 again
abbrev walk : Ring → ℕ → Pt
walk r zero = r.at 0
walk r (suc k) = to r k

walk_at : (r : Ring) (k : ℕ) → k < r.size → walk r k ≡ from r k
walk_at r zero h = refl
walk_at r (suc k) h = ap r.at (next_inner r.size k h)

walk_round : (r : Ring) (n : ℕ) → n ≡ r.size → walk r n ≡ r.at 0
walk_round r zero e = refl
walk_round r (suc n) e = ap r.at (rw (← e) (next_last n))

-- a motion that touches no edge of a ring: the parity is the same at both ends
pub same_parity : (r : Ring) (p q : Pt) → ((k : ℕ) → k < r.size → Apart (from r k) (to r k) p q) → parity (flag r p) r.size ≡ parity (flag r q) r.size
same_parity r p q h =
    as_chain p
    ∙ xor_same _ _
    (chain (walk r) p q r.size (λ k l. subst (λ (v : Pt). Apart v (to r k) p q) (sym (walk_at r k l)) (h k l))
    ∙ ap (λ (v : Pt). xor (over (r.at 0) p q) (over v p q)) (walk_round r r.size refl) ∙ sym (xor_self (over (r.at 0) p q)))
    ∙ sym (as_chain q)
  where
    as_chain : (p : Pt) → parity (flag r p) r.size ≡ parity (λ k. crosses (walk r k) (walk r (suc k)) p) r.size
    as_chain p = parity_ext (flag r p) (λ k. crosses (walk r k) (walk r (suc k)) p) r.size (λ k l. ap (λ (v : Pt). crosses v (to r k) p) (sym (walk_at r k l)))
