-- Two closed segments have no point in common exactly when one of eight strict separations holds. Assumes nothing.
use mathlib.Core.Path.{◌≡◌, sym, ap, ◌∙◌}
use mathlib.Core.Logic.{◌⊎◌, inl, inr, ⊎_elim}
use native.Mathlib.Omega.{arith}
use lib.IntN.{ℤ, pos, neg_ℤ, ◌+ℤ◌, ◌-ℤ◌, ◌*ℤ◌, +ℤ_invr}
use lib.Signed.{◌≤ℤ◌, ◌<ℤ◌}
use Rattle.whole.proofs.Difference.{all2, all3, all4, ring}
use Rattle.whole.proofs.Polynomial.{vars3, vars4, vars6, vars7, vars8, vars10, poly, num_val, by_ring}
use Rattle.whole.proofs.Order.{np_mul, pos_neg_mul, neg_not, pos_not, turn_le, turn_ge, turn_gt, le_sub, lt_sub, sub_mono, sub_lt}
use Rattle.whole.proofs.Order.{sub_le, le_trans, le_lt_trans, lt_le, le_or_lt, clash, Tri, less, same, more, tri}
use Rattle.rules.specs.Ring.{Pt}
use Rattle.decide.specs.Side.{side, side_of}

-- a segment of one point has no sides
pub no_line : (px py vx vy : ℤ) → side px py px py vx vy ≡ pos 0
no_line = vars4 _ λ ρ. simp (poly, num_val ρ) (by_ring _ _ _ tt)

-- the closed segments a b and p q have no point in common: one of four lines has them strictly on its two sides
pub data Apart (a b p q : Pt) : Type 0 where
  right : side_of a b p <ℤ pos 0 → side_of a b q <ℤ pos 0 → Apart a b p q
  left : pos 0 <ℤ side_of a b p → pos 0 <ℤ side_of a b q → Apart a b p q
  right' : side_of p q a <ℤ pos 0 → side_of p q b <ℤ pos 0 → Apart a b p q
  left' : pos 0 <ℤ side_of p q a → pos 0 <ℤ side_of p q b → Apart a b p q
  below : p.y <ℤ a.y → p.y <ℤ b.y → q.y <ℤ a.y → q.y <ℤ b.y → Apart a b p q
  above : a.y <ℤ p.y → b.y <ℤ p.y → a.y <ℤ q.y → b.y <ℤ q.y → Apart a b p q
  before : p.x <ℤ a.x → p.x <ℤ b.x → q.x <ℤ a.x → q.x <ℤ b.x → Apart a b p q
  behind : a.x <ℤ p.x → b.x <ℤ p.x → a.x <ℤ q.x → b.x <ℤ q.x → Apart a b p q

-- a point that lies on both closed segments: the one that has i of n parts of the way from a to b behind it, and j of n of that from p to q
pub record Common (a b p q : Pt) : Type 0 where
  pub n : ℤ
  pub i : ℤ
  pub j : ℤ
  pub some : pos 0 <ℤ n
  pub i_low : pos 0 ≤ℤ i
  pub i_high : i ≤ℤ n
  pub j_low : pos 0 ≤ℤ j
  pub j_high : j ≤ℤ n
  pub x : (n -ℤ i) *ℤ a.x +ℤ i *ℤ b.x ≡ (n -ℤ j) *ℤ p.x +ℤ j *ℤ q.x
  pub y : (n -ℤ i) *ℤ a.y +ℤ i *ℤ b.y ≡ (n -ℤ j) *ℤ p.y +ℤ j *ℤ q.y

-- a mean that has none of the second in it, a mean from the other end, and n times one
pub mean_none : (n u v : ℤ) → (n -ℤ pos 0) *ℤ u +ℤ pos 0 *ℤ v ≡ n *ℤ u
mean_none = vars3 _ λ ρ. simp (poly, num_val ρ) (by_ring _ _ _ tt)

pub mean_turn : (n i u v : ℤ) → (n -ℤ i) *ℤ u +ℤ i *ℤ v ≡ (n -ℤ (n -ℤ i)) *ℤ v +ℤ (n -ℤ i) *ℤ u
mean_turn = vars4 _ λ ρ. simp poly (by_ring _ _ _ tt)

pub mean_times : (n i u v : ℤ) → n *ℤ ((n -ℤ i) *ℤ u +ℤ i *ℤ v) ≡ (n -ℤ i) *ℤ (n *ℤ u) +ℤ i *ℤ (n *ℤ v)
mean_times = vars4 _ λ ρ. simp poly (by_ring _ _ _ tt)

-- the point of the line a b at p's x, over the difference of a's x and b's: its x, and how far its y is below p's
pub mean_at : (a b p : ℤ) → (b -ℤ a) *ℤ p ≡ ((b -ℤ a) -ℤ (p -ℤ a)) *ℤ a +ℤ (p -ℤ a) *ℤ b
mean_at = vars3 _ λ ρ. simp poly (by_ring _ _ _ tt)

pub gap_at : (ax ay bx by px py : ℤ) → (bx -ℤ ax) *ℤ py -ℤ (((bx -ℤ ax) -ℤ (px -ℤ ax)) *ℤ ay +ℤ (px -ℤ ax) *ℤ by) ≡ side ax ay bx by px py
gap_at = vars6 _ λ ρ. simp poly (by_ring _ _ _ tt)

-- a weighted sum of two negative numbers is negative
pub mix : (n j u v : ℤ) → pos 0 <ℤ n → pos 0 ≤ℤ j → j ≤ℤ n → u <ℤ pos 0 → v <ℤ pos 0 → ((n -ℤ j) *ℤ u +ℤ j *ℤ v) <ℤ pos 0
mix n j u v hn h k hu hv = ⊎_elim (λ z. at_zero z) (λ z. past z) (le_or_lt j (pos 0))
  where
    sum : (x y : ℤ) → x <ℤ pos 0 → y ≤ℤ pos 0 → (x +ℤ y) <ℤ pos 0
    sum = all2 _ λ a a' b b'. simp ring (omega arith)

    sum' : (x y : ℤ) → x ≤ℤ pos 0 → y <ℤ pos 0 → (x +ℤ y) <ℤ pos 0
    sum' = all2 _ λ a a' b b'. simp ring (omega arith)

    at_zero : j ≤ℤ pos 0 → ((n -ℤ j) *ℤ u +ℤ j *ℤ v) <ℤ pos 0
    at_zero z = sum _ _ (pos_neg_mul (n -ℤ j) u (lt_sub _ _ (le_lt_trans _ _ _ z hn)) hu) (np_mul j v h (lt_le _ _ hv))

    past : pos 0 <ℤ j → ((n -ℤ j) *ℤ u +ℤ j *ℤ v) <ℤ pos 0
    past z = sum' _ _ (np_mul (n -ℤ j) u (le_sub _ _ k) (lt_le _ _ hu)) (pos_neg_mul j v z hv)

pub mix⁺ : (n j u v : ℤ) → pos 0 <ℤ n → pos 0 ≤ℤ j → j ≤ℤ n → pos 0 <ℤ u → pos 0 <ℤ v → pos 0 <ℤ ((n -ℤ j) *ℤ u +ℤ j *ℤ v)
mix⁺ n j u v hn h k hu hv = back n j u v (mix n j (neg_ℤ u) (neg_ℤ v) hn h k (turn_gt u hu) (turn_gt v hv))
  where
    swap : (x y : ℤ) → x ≡ neg_ℤ y → x <ℤ pos 0 → pos 0 <ℤ y
    swap = all2 _ λ a a' b b'. simp ring (omega arith)

    out : (n j u v : ℤ) → (n -ℤ j) *ℤ neg_ℤ u +ℤ j *ℤ neg_ℤ v ≡ neg_ℤ ((n -ℤ j) *ℤ u +ℤ j *ℤ v)
    out = vars4 _ λ ρ. simp poly (by_ring _ _ _ tt)

    back : (n j u v : ℤ) → ((n -ℤ j) *ℤ neg_ℤ u +ℤ j *ℤ neg_ℤ v) <ℤ pos 0 → pos 0 <ℤ ((n -ℤ j) *ℤ u +ℤ j *ℤ v)
    back n j u v l = swap _ _ (out n j u v) l

lin₁ : (ax ay bx by px py qx qy n j : ℤ)
    → (n -ℤ j) *ℤ side ax ay bx by px py +ℤ j *ℤ side ax ay bx by qx qy ≡ (bx -ℤ ax) *ℤ (((n -ℤ j) *ℤ py +ℤ j *ℤ qy) -ℤ n *ℤ ay) -ℤ (by -ℤ ay) *ℤ
    (((n -ℤ j) *ℤ px +ℤ j *ℤ qx) -ℤ n *ℤ ax)
lin₁ = vars10 _ λ ρ. simp poly (by_ring _ _ _ tt)

lin₂ : (ax ay bx by n i : ℤ) → (bx -ℤ ax) *ℤ (((n -ℤ i) *ℤ ay +ℤ i *ℤ by) -ℤ n *ℤ ay) -ℤ (by -ℤ ay) *ℤ (((n -ℤ i) *ℤ ax +ℤ i *ℤ bx) -ℤ n *ℤ ax) ≡ pos 0
lin₂ = vars6 _ λ ρ. simp (poly, num_val ρ) (by_ring _ _ _ tt)

on_line : (a b p q : Pt) (c : Common a b p q) → (c.n -ℤ c.j) *ℤ side_of a b p +ℤ c.j *ℤ side_of a b q ≡ pos 0
on_line a b p q c = lin₁ a.x a.y b.x b.y p.x p.y q.x q.y c.n c.j ∙ rw (← c.x, ← c.y) (lin₂ a.x a.y b.x b.y c.n c.i)

unfoldable pub flipped : (a b p q : Pt) → Common a b p q → Common p q a b
flipped a b p q c = record { n = c.n; i = c.j; j = c.i; some = c.some; i_low = c.j_low; i_high = c.j_high; j_low = c.i_low; j_high = c.i_high; x = sym c.x; y = sym c.y }

-- two numbers below two numbers have no mean in common with them
means : (n i j u v s t : ℤ) → pos 0 <ℤ n → pos 0 ≤ℤ i → i ≤ℤ n → pos 0 ≤ℤ j → j ≤ℤ n → (n -ℤ i) *ℤ u +ℤ i *ℤ v ≡ (n -ℤ j) *ℤ s +ℤ j *ℤ t → s <ℤ u → s <ℤ v → t <ℤ u → t <ℤ v → ⊥
means n i j u v s t hn i₀ i₁ j₀ j₁ e su sv tu tv =
    neg_not _ ((rw e at (zero n i j u v s t)) ∙ +ℤ_invr (n *ℤ ((n -ℤ j) *ℤ s +ℤ j *ℤ t)))
    (mix n i _ _ hn i₀ i₁ (mix n j (s -ℤ u) (t -ℤ u) hn j₀ j₁ (sub_lt _ _ su) (sub_lt _ _ tu))
    (mix n j (s -ℤ v) (t -ℤ v) hn j₀ j₁ (sub_lt _ _ sv) (sub_lt _ _ tv)))
  where
    zero : (n i j u v s t : ℤ) → (n -ℤ i) *ℤ ((n -ℤ j) *ℤ (s -ℤ u) +ℤ j *ℤ (t -ℤ u)) +ℤ i *ℤ ((n -ℤ j) *ℤ (s -ℤ v) +ℤ j *ℤ (t -ℤ v)) ≡ n *ℤ ((n -ℤ j) *ℤ s +ℤ j *ℤ t) -ℤ n *ℤ ((n -ℤ i) *ℤ u +ℤ i *ℤ v)
    zero = vars7 _ λ ρ. simp poly (by_ring _ _ _ tt)

-- apart: no common point
pub apart : (a b p q : Pt) → Apart a b p q → Common a b p q → ⊥
unfolding flipped
apart a b p q (right h k) c = neg_not _ (on_line a b p q c) (mix c.n c.j _ _ c.some c.j_low c.j_high h k)
apart a b p q (left h k) c = pos_not _ (on_line a b p q c) (mix⁺ c.n c.j _ _ c.some c.j_low c.j_high h k)
apart a b p q (right' h k) c = neg_not _ (on_line p q a b (flipped a b p q c)) (mix c.n c.i _ _ c.some c.i_low c.i_high h k)
apart a b p q (left' h k) c = pos_not _ (on_line p q a b (flipped a b p q c)) (mix⁺ c.n c.i _ _ c.some c.i_low c.i_high h k)
apart a b p q (below h i j k) c = means c.n c.i c.j a.y b.y p.y q.y c.some c.i_low c.i_high c.j_low c.j_high c.y h i j k
apart a b p q (above h i j k) c = means c.n c.j c.i p.y q.y a.y b.y c.some c.j_low c.j_high c.i_low c.i_high (sym c.y) h j i k
apart a b p q (before h i j k) c = means c.n c.i c.j a.x b.x p.x q.x c.some c.i_low c.i_high c.j_low c.j_high c.x h i j k
apart a b p q (behind h i j k) c = means c.n c.j c.i p.x q.x a.x b.x c.some c.j_low c.j_high c.i_low c.i_high (sym c.x) h j i k

-- where w lies by the range of u and v
data Loc (u v w : ℤ) : Type 0 where
  low : w <ℤ u → w <ℤ v → Loc u v w
  up : u ≤ℤ w → w ≤ℤ v → Loc u v w
  down : v ≤ℤ w → w ≤ℤ u → Loc u v w
  high : u <ℤ w → v <ℤ w → Loc u v w

locate : (u v w : ℤ) → Loc u v w
locate u v w =
    ⊎_elim (λ h. ⊎_elim (λ k. up h k) (λ k. ⊎_elim (λ l. down (lt_le v w k) l) (λ l. high l k) (le_or_lt w u)) (le_or_lt w v))
    (λ h. ⊎_elim (λ k. down k (lt_le w u h)) (λ k. low h k) (le_or_lt v w)) (le_or_lt u w)

sub-zero : (u v w : ℤ) → v -ℤ u ≡ w → w ≡ pos 0 → u ≡ v
sub-zero = all3 _ λ a a' b b' c c'. simp ring (omega arith)

-- p, on the line a b, lies between a and b
on_up : (a b p q : Pt) → side_of a b p ≡ pos 0 → a.x <ℤ b.x → a.x ≤ℤ p.x → p.x ≤ℤ b.x → Common a b p q
on_up a b p q z h k l = record {
  n = b.x -ℤ a.x;
  i = p.x -ℤ a.x;
  j = pos 0;
  some = lt_sub _ _ h;
  i_low = le_sub _ _ k;
  i_high = sub_mono a.x p.x b.x l;
  j_low = record { le = tt };
  j_high = lt_le _ _ (lt_sub _ _ h);
  x = sym (mean_none (b.x -ℤ a.x) p.x q.x ∙ mean_at a.x b.x p.x);
  y = sub-zero _ _ _ (gap_at a.x a.y b.x b.y p.x p.y) z ∙ sym (mean_none (b.x -ℤ a.x) p.y q.y);
}

-- p and q change places
swapped : (a b p q : Pt) → Common a b q p → Common a b p q
swapped a b p q c = record {
  n = c.n;
  i = c.i;
  j = c.n -ℤ c.j;
  some = c.some;
  i_low = c.i_low;
  i_high = c.i_high;
  j_low = le_sub _ _ c.j_high;
  j_high = sub_le c.n c.j c.j_low;
  x = c.x ∙ mean_turn c.n c.j q.x p.x;
  y = c.y ∙ mean_turn c.n c.j q.y p.y;
}

-- and a and b, which turns the side's sign
turn_side : (ax ay bx by px py : ℤ) → side bx by ax ay px py ≡ neg_ℤ (side ax ay bx by px py)
turn_side = vars6 _ λ ρ. simp poly (by_ring _ _ _ tt)

pub side_turned : (a b p : Pt) → side_of b a p ≡ neg_ℤ (side_of a b p)
side_turned a b p = turn_side a.x a.y b.x b.y p.x p.y

turned : (a b p q : Pt) → Common b a p q → Common a b p q
turned a b p q c = flipped p q a b (swapped p q a b (flipped b a p q c))

on_down : (a b p q : Pt) → side_of a b p ≡ pos 0 → b.x <ℤ a.x → b.x ≤ℤ p.x → p.x ≤ℤ a.x → Common a b p q
on_down a b p q z h k l = turned a b p q (on_up b a p q (side_turned a b p ∙ ap neg_ℤ z) h k l)

lt_trans : (u v w : ℤ) → u <ℤ v → v <ℤ w → u <ℤ w
lt_trans = all3 _ λ a a' b b' c c'. simp ring (omega arith)

abbrev Off : ℤ → ℤ → Type 0
Off u v = (u <ℤ v) ⊎ (v <ℤ u)

-- two ranges, one wholly before the other
pub data Sep (u v s t : ℤ) : Type 0 where
  ahead : s <ℤ u → s <ℤ v → t <ℤ u → t <ℤ v → Sep u v s t
  after : u <ℤ s → v <ℤ s → u <ℤ t → v <ℤ t → Sep u v s t

at_up : (a b p q : Pt) → side_of a b p ≡ pos 0 → Off a.x b.x → a.x ≤ℤ p.x → p.x ≤ℤ b.x → Common a b p q
at_up a b p q z d k l = ⊎_elim (λ h. on_up a b p q z h k l) (λ h. absurd (clash _ _ h (le_trans _ _ _ k l))) d

at_down : (a b p q : Pt) → side_of a b p ≡ pos 0 → Off a.x b.x → b.x ≤ℤ p.x → p.x ≤ℤ a.x → Common a b p q
at_down a b p q z d k l = ⊎_elim (λ h. absurd (clash _ _ h (le_trans _ _ _ k l))) (λ h. on_down a b p q z h k l) d

coll_x : (a b p q : Pt) → side_of a b p ≡ pos 0 → side_of a b q ≡ pos 0 → side_of p q a ≡ pos 0 → Off a.x b.x → Loc a.x b.x p.x
    → Loc a.x b.x q.x → Sep a.x b.x p.x q.x ⊎ Common a b p q
coll_x a b p q z1 z2 z3 d (up k l) m = inr (at_up a b p q z1 d k l)
coll_x a b p q z1 z2 z3 d (down k l) m = inr (at_down a b p q z1 d k l)
coll_x a b p q z1 z2 z3 d (low h i) (low j k) = inl (ahead h i j k)
coll_x a b p q z1 z2 z3 d (low h i) (up k l) = inr (swapped a b p q (at_up a b q p z2 d k l))
coll_x a b p q z1 z2 z3 d (low h i) (down k l) = inr (swapped a b p q (at_down a b q p z2 d k l))
coll_x a b p q z1 z2 z3 d (low h i) (high j k) = inr (flipped p q a b (on_up p q a b z3 (lt_trans _ _ _ h j) (lt_le _ _ h) (lt_le _ _ j)))
coll_x a b p q z1 z2 z3 d (high h i) (low j k) = inr (flipped p q a b (on_down p q a b z3 (lt_trans _ _ _ j h) (lt_le _ _ j) (lt_le _ _ h)))
coll_x a b p q z1 z2 z3 d (high h i) (up k l) = inr (swapped a b p q (at_up a b q p z2 d k l))
coll_x a b p q z1 z2 z3 d (high h i) (down k l) = inr (swapped a b p q (at_down a b q p z2 d k l))
coll_x a b p q z1 z2 z3 d (high h i) (high j k) = inl (after h i j k)

turn_sep : (u v s t : ℤ) → Sep s t u v → Sep u v s t
turn_sep u v s t (ahead h i j k) = after h j i k
turn_sep u v s t (after h i j k) = ahead h j i k

record Flat (u v s t : ℤ) : Type 0 where
  uv : u ≡ v
  st : s ≡ t
  us : u ≡ s

-- all on one line: the x ranges are separate, or there is a common point, or all x are one
flat : (a b p q : Pt) → side_of a b p ≡ pos 0 → side_of a b q ≡ pos 0 → side_of p q a ≡ pos 0 → side_of p q b ≡ pos 0
    → (Sep a.x b.x p.x q.x ⊎ Common a b p q) ⊎ Flat a.x b.x p.x q.x
flat a b p q z1 z2 z3 z4 = first (tri a.x b.x)
  where
    out : Off a.x b.x → Sep a.x b.x p.x q.x ⊎ Common a b p q
    out d = coll_x a b p q z1 z2 z3 d (locate a.x b.x p.x) (locate a.x b.x q.x)

    back : Off p.x q.x → Sep a.x b.x p.x q.x ⊎ Common a b p q
    back d = ⊎_elim (λ h. inl (turn_sep _ _ _ _ h)) (λ h. inr (flipped p q a b h)) (coll_x p q a b z3 z4 z1 d (locate p.x q.x a.x) (locate p.x q.x b.x))

    third : a.x ≡ b.x → p.x ≡ q.x → Tri a.x p.x → (Sep a.x b.x p.x q.x ⊎ Common a b p q) ⊎ Flat a.x b.x p.x q.x
    third e f (less h) = inl (inl (after h (rw (← e) h) (rw (← f) h) (rw (← e, ← f) h)))
    third e f (same g) = inr (record { uv = e; st = f; us = g })
    third e f (more h) = inl (inl (ahead h (rw (← e) h) (rw (← f) h) (rw (← e, ← f) h)))

    second : a.x ≡ b.x → Tri p.x q.x → (Sep a.x b.x p.x q.x ⊎ Common a b p q) ⊎ Flat a.x b.x p.x q.x
    second e (less h) = inl (back (inl h))
    second e (same f) = third e f (tri a.x p.x)
    second e (more h) = inl (back (inr h))

    first : Tri a.x b.x → (Sep a.x b.x p.x q.x ⊎ Common a b p q) ⊎ Flat a.x b.x p.x q.x
    first (less h) = inl (out (inl h))
    first (same e) = second e (tri p.x q.x)
    first (more h) = inl (out (inr h))

-- x and y change places
abbrev tr : Pt → Pt
tr p = record { x = p.y; y = p.x }

tr_side : (ax ay bx by px py : ℤ) → side ay ax by bx py px ≡ neg_ℤ (side ax ay bx by px py)
tr_side = vars6 _ λ ρ. simp poly (by_ring _ _ _ tt)

tr_zero : (a b p : Pt) → side_of a b p ≡ pos 0 → side_of (tr a) (tr b) (tr p) ≡ pos 0
tr_zero a b p z = tr_side a.x a.y b.x b.y p.x p.y ∙ ap neg_ℤ z

tr_common : (a b p q : Pt) → Common (tr a) (tr b) (tr p) (tr q) → Common a b p q
tr_common a b p q c = record { n = c.n; i = c.i; j = c.j; some = c.some; i_low = c.i_low; i_high = c.i_high; j_low = c.j_low; j_high = c.j_high; x = c.y; y = c.x }

at_one : (u v s t : ℤ) → u ≡ s → (pos 1 -ℤ pos 0) *ℤ u +ℤ pos 0 *ℤ v ≡ (pos 1 -ℤ pos 0) *ℤ s +ℤ pos 0 *ℤ t
at_one u v s t e = mean_none (pos 1) u v ∙ ap (λ z. pos 1 *ℤ z) e ∙ sym (mean_none (pos 1) s t)

-- ranges apart, of x or of y, have the segments apart
pub by_x : (a b p q : Pt) → Sep a.x b.x p.x q.x → Apart a b p q
by_x a b p q (ahead h i j k) = before h i j k
by_x a b p q (after h i j k) = behind h i j k

pub by_y : (a b p q : Pt) → Sep a.y b.y p.y q.y → Apart a b p q
by_y a b p q (ahead h i j k) = below h i j k
by_y a b p q (after h i j k) = above h i j k

coll : (a b p q : Pt) → side_of a b p ≡ pos 0 → side_of a b q ≡ pos 0 → side_of p q a ≡ pos 0 → side_of p q b ≡ pos 0 → Apart a b p q ⊎ Common a b p q
coll a b p q z1 z2 z3 z4 = ⊎_elim (λ h. ⊎_elim (λ s. inl (by_x a b p q s)) inr h)
    (λ f. ⊎_elim (λ h. ⊎_elim (λ s. inl (by_y a b p q s)) (λ c. inr (tr_common a b p q c)) h) (λ g. inr (one f g))
    (flat (tr a) (tr b) (tr p) (tr q) (tr_zero a b p z1) (tr_zero a b q z2) (tr_zero p q a z3) (tr_zero p q b z4))) (flat a b p q z1 z2 z3 z4)
  where
    one : Flat a.x b.x p.x q.x → Flat a.y b.y p.y q.y → Common a b p q
    one f g = record {
      n = pos 1;
      i = pos 0;
      j = pos 0;
      some = record { lt = tt };
      i_low = record { le = tt };
      i_high = record { le = tt };
      j_low = record { le = tt };
      j_high = record { le = tt };
      x = at_one a.x b.x p.x q.x f.us;
      y = at_one a.y b.y p.y q.y g.us;
    }

-- ---- not parallel
data Opp (u v : ℤ) : Type 0 where
  rise : u ≤ℤ pos 0 → pos 0 ≤ℤ v → Opp u v
  fall : pos 0 ≤ℤ u → v ≤ℤ pos 0 → Opp u v

-- two numbers of one strict sign
pub data Signs (u v : ℤ) : Type 0 where
  minus : u <ℤ pos 0 → v <ℤ pos 0 → Signs u v
  plus : pos 0 <ℤ u → pos 0 <ℤ v → Signs u v

-- both ends of one segment on one side of the other
pub by_edge : (a b p q : Pt) → Signs (side_of a b p) (side_of a b q) → Apart a b p q
by_edge a b p q (minus h k) = right h k
by_edge a b p q (plus h k) = left h k

pub by_way : (a b p q : Pt) → Signs (side_of p q a) (side_of p q b) → Apart a b p q
by_way a b p q (minus h k) = right' h k
by_way a b p q (plus h k) = left' h k

sides : (u v : ℤ) → Signs u v ⊎ Opp u v
sides u v =
    ⊎_elim (λ h. ⊎_elim (λ k. inr (rise h k)) (λ k. ⊎_elim (λ l. inr (fall l (lt_le _ _ k))) (λ l. inl (minus l k)) (le_or_lt (pos 0) u)) (le_or_lt (pos 0) v))
    (λ h. ⊎_elim (λ k. inr (fall (lt_le _ _ h) k)) (λ k. inl (plus h k)) (le_or_lt v (pos 0))) (le_or_lt u (pos 0))

rising : (u v : ℤ) → Opp u v → u <ℤ v → (u ≤ℤ pos 0) × (pos 0 ≤ℤ v)
rising u v (rise h k) l = (h, k)
rising u v (fall h k) l = absurd (no u v h k l)
  where
    no : (u v : ℤ) → pos 0 ≤ℤ u → v ≤ℤ pos 0 → u <ℤ v → ⊥
    no = all2 _ λ a a' b b'. simp ring (omega arith)

turn_opp : (u v : ℤ) → Opp u v → Opp v u
turn_opp u v (rise h k) = fall k h
turn_opp u v (fall h k) = rise k h

level : (u v : ℤ) → Opp u v → u ≡ v → (u ≡ pos 0) × (v ≡ pos 0)
level u v (rise h k) e = go u v h k e
  where
    go : (u v : ℤ) → u ≤ℤ pos 0 → pos 0 ≤ℤ v → u ≡ v → (u ≡ pos 0) × (v ≡ pos 0)
    go = all2 _ λ a a' b b'. simp ring (omega arith)
level u v (fall h k) e = go u v h k e
  where
    go : (u v : ℤ) → pos 0 ≤ℤ u → v ≤ℤ pos 0 → u ≡ v → (u ≡ pos 0) × (v ≡ pos 0)
    go = all2 _ λ a a' b b'. simp ring (omega arith)

sum4 : (ax ay bx by px py qx qy : ℤ) → side ax ay bx by px py +ℤ side px py qx qy ax ay ≡ side ax ay bx by qx qy +ℤ side px py qx qy bx by
sum4 = vars8 _ λ ρ. simp poly (by_ring _ _ _ tt)

other : (u v s t : ℤ) → u +ℤ s ≡ v +ℤ t → u <ℤ v → t <ℤ s
other = all4 _ λ a a' b b' c c' d d'. simp ring (omega arith)

other_eq : (u v s t : ℤ) → u +ℤ s ≡ v +ℤ t → u ≡ v → s ≡ t
other_eq = all4 _ λ a a' b b' c c' d d'. simp ring (omega arith)

fit : (u v s t : ℤ) → u +ℤ s ≡ v +ℤ t → t ≤ℤ pos 0 → s ≤ℤ (v -ℤ u)
fit = all4 _ λ a a' b b' c c' d d'. simp ring (omega arith)

neg_fit : (u v : ℤ) → pos 0 ≤ℤ v → neg_ℤ u ≤ℤ (v -ℤ u)
neg_fit = all2 _ λ a a' b b'. simp ring (omega arith)

meet_x : (ax ay bx by px py qx qy : ℤ)
    → ((side ax ay bx by qx qy -ℤ side ax ay bx by px py) -ℤ side px py qx qy ax ay) *ℤ ax +ℤ side px py qx qy ax ay *ℤ bx ≡
    ((side ax ay bx by qx qy -ℤ side ax ay bx by px py) -ℤ neg_ℤ (side ax ay bx by px py)) *ℤ px +ℤ neg_ℤ (side ax ay bx by px py) *ℤ qx
meet_x = vars8 _ λ ρ. simp poly (by_ring _ _ _ tt)

meet_y : (ax ay bx by px py qx qy : ℤ)
    → ((side ax ay bx by qx qy -ℤ side ax ay bx by px py) -ℤ side px py qx qy ax ay) *ℤ ay +ℤ side px py qx qy ax ay *ℤ by ≡
    ((side ax ay bx by qx qy -ℤ side ax ay bx by px py) -ℤ neg_ℤ (side ax ay bx by px py)) *ℤ py +ℤ neg_ℤ (side ax ay bx by px py) *ℤ qy
meet_y = vars8 _ λ ρ. simp poly (by_ring _ _ _ tt)

meet : (a b p q : Pt) → Opp (side_of a b p) (side_of a b q) → Opp (side_of p q a) (side_of p q b) → side_of a b p <ℤ side_of a b q → Common a b p q
meet a b p q m k h =
    let e = sum4 a.x a.y b.x b.y p.x p.y q.x q.y in
    let f = rising (side_of a b p) (side_of a b q) m h in
    let g = rising (side_of p q b) (side_of p q a) (turn_opp _ _ k) (other (side_of a b p) (side_of a b q) (side_of p q a) (side_of p q b) e h) in
    record {
      n = side_of a b q -ℤ side_of a b p;
      i = side_of p q a;
      j = neg_ℤ (side_of a b p);
      some = lt_sub _ _ h;
      i_low = g.1;
      i_high = fit (side_of a b p) (side_of a b q) (side_of p q a) (side_of p q b) e g.0;
      j_low = turn_le (side_of a b p) f.0;
      j_high = neg_fit (side_of a b p) (side_of a b q) f.1;
      x = meet_x a.x a.y b.x b.y p.x p.y q.x q.y;
      y = meet_y a.x a.y b.x b.y p.x p.y q.x q.y;
    }

-- both signs turned
neg_opp : (u v s t : ℤ) → s ≡ neg_ℤ u → t ≡ neg_ℤ v → Opp u v → Opp s t
neg_opp u v s t e f (rise h k) = fall (rw e (turn_le u h)) (rw f (turn_ge v k))
neg_opp u v s t e f (fall h k) = rise (rw e (turn_ge u h)) (rw f (turn_le v k))

crossing : (a b p q : Pt) → Opp (side_of a b p) (side_of a b q) → Opp (side_of p q a) (side_of p q b) → Tri (side_of a b p) (side_of a b q) → Apart a b p q ⊎ Common a b p q
crossing a b p q m k (less h) = inr (meet a b p q m k h)
crossing a b p q m k (more h) = inr (swapped a b p q (meet a b q p (turn_opp _ _ m) (neg_opp _ _ _ _ (side_turned p q a) (side_turned p q b) k) h))
crossing a b p q m k (same e) =
    let f = level _ _ m e in
    let g = level _ _ k (other_eq (side_of a b p) (side_of a b q) (side_of p q a) (side_of p q b) (sum4 a.x a.y b.x b.y p.x p.y q.x q.y) e) in
    coll a b p q f.0 f.1 g.0 g.1

pub decide : (a b p q : Pt) → Apart a b p q ⊎ Common a b p q
decide a b p q =
    ⊎_elim (λ s. inl (by_edge a b p q s))
    (λ m. ⊎_elim (λ s. inl (by_way a b p q s)) (λ k. crossing a b p q m k (tri (side_of a b p) (side_of a b q))) (sides (side_of p q a) (side_of p q b)))
    (sides (side_of a b p) (side_of a b q))
