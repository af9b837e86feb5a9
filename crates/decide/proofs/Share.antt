-- Two edges share a point exactly when `Common` holds; two neighbours fold exactly when an outer end lies on the other edge. Assumes nothing.
use mathlib.Core.Path.{◌≡◌, sym, ap, ◌∙◌}
use mathlib.Core.Logic.{◌⊎◌, inl, inr, ⊎_elim}
use native.Mathlib.Omega.{arith}
use lib.IntN.{ℤ, pos, ◌+ℤ◌, ◌-ℤ◌, ◌*ℤ◌, *ℤ_comm}
use lib.Signed.{◌≤ℤ◌, ◌<ℤ◌}
use Rattle.whole.proofs.Difference.{all, ring}
use Rattle.whole.proofs.Order.{mul_swap, le_lt_trans, antisym, cancel_eq, pos_mul, nn_mul, lt_le, le_or_lt, le_sub, mul_mono, not_lt, clash}
use Rattle.whole.proofs.Polynomial.{vars3, vars4, vars6, poly, num_val, by_ring}
use Rattle.rules.specs.Ring.{Pt, times, On, Share}
use Rattle.rules.specs.Good.{Fold}
use Rattle.decide.proofs.Segment.{Apart, Common, mean_none, mean_times, apart, decide}
use Rattle.decide.proofs.On.{on_turn}

pub pt_eq : (p q : Pt) → p.x ≡ q.x → p.y ≡ q.y → p ≡ q
pt_eq p q e f = λ i. record { x = e i; y = f i }

-- ---- a shared point
widen : (m n i k a b : ℤ) → ((m *ℤ n -ℤ n *ℤ i) *ℤ a +ℤ (n *ℤ i) *ℤ b) *ℤ k ≡ n *ℤ ((m -ℤ i) *ℤ (k *ℤ a) +ℤ i *ℤ (k *ℤ b))
widen = vars6 _ λ ρ. simp poly (by_ring _ _ _ tt)

widen' : (m n j k c d : ℤ) → ((m *ℤ n -ℤ m *ℤ j) *ℤ c +ℤ (m *ℤ j) *ℤ d) *ℤ k ≡ m *ℤ ((n -ℤ j) *ℤ (k *ℤ c) +ℤ j *ℤ (k *ℤ d))
widen' m n j k c d = rw (*ℤ_comm m n) (widen n m j k c d)

joined : (k m n i j p a b c d : ℤ) → pos 0 <ℤ k → m *ℤ p ≡ (m -ℤ i) *ℤ (k *ℤ a) +ℤ i *ℤ (k *ℤ b) → n *ℤ p ≡ (n -ℤ j) *ℤ (k *ℤ c) +ℤ j *ℤ (k *ℤ d)
    → (m *ℤ n -ℤ n *ℤ i) *ℤ a +ℤ (n *ℤ i) *ℤ b ≡ (m *ℤ n -ℤ m *ℤ j) *ℤ c +ℤ (m *ℤ j) *ℤ d
joined k m n i j p a b c d h e f =
    cancel_eq _ _ k h
    (widen m n i k a b ∙ ap (λ z. n *ℤ z) (sym e) ∙ mul_swap n m p ∙ ap (λ z. m *ℤ z) f ∙ sym (widen' m n j k c d))

part_of : (m n i : ℤ) → pos 0 <ℤ n → i ≤ℤ m → (n *ℤ i) ≤ℤ (m *ℤ n)
part_of m n i h k = rw (*ℤ_comm n i) (mul_mono i m n k (lt_le _ _ h))

pub share_common : (a b c d : Pt) → Share a b c d → Common a b c d
share_common a b c d s =
    let f = s.first in
    let g = s.second in
    record {
      n = f.m *ℤ g.m;
      i = g.m *ℤ f.i;
      j = f.m *ℤ g.i;
      some = pos_mul _ _ f.some g.some;
      i_low = nn_mul _ _ (lt_le _ _ g.some) f.low;
      i_high = part_of f.m g.m f.i g.some f.high;
      j_low = nn_mul _ _ (lt_le _ _ f.some) g.low;
      j_high = rw (*ℤ_comm f.m g.m) (part_of g.m f.m g.i f.some g.high);
      x = joined s.m f.m g.m f.i g.i s.p.x a.x b.x c.x d.x s.some f.x g.x;
      y = joined s.m f.m g.m f.i g.i s.p.y a.y b.y c.y d.y s.some f.y g.y;
    }

pub common_share : (a b c d : Pt) → Common a b c d → Share a b c d
common_share a b c d h = record {
  m = h.n;
  p = record { x = (h.n -ℤ h.i) *ℤ a.x +ℤ h.i *ℤ b.x; y = (h.n -ℤ h.i) *ℤ a.y +ℤ h.i *ℤ b.y };
  some = h.some;
  first = record { m = h.n; i = h.i; some = h.some; low = h.i_low; high = h.i_high; x = mean_times h.n h.i a.x b.x; y = mean_times h.n h.i a.y b.y };
  second = record {
    m = h.n;
    i = h.j;
    some = h.some;
    low = h.j_low;
    high = h.j_high;
    x = ap (λ z. h.n *ℤ z) h.x ∙ mean_times h.n h.j c.x d.x;
    y = ap (λ z. h.n *ℤ z) h.y ∙ mean_times h.n h.j c.y d.y;
  };
}

-- they share a point, or are strictly apart
pub share_or_apart : (a b c d : Pt) → Share a b c d ⊎ Apart a b c d
share_or_apart a b c d = ⊎_elim (λ h. inr h) (λ h. inl (common_share a b c d h)) (decide a b c d)

pub apart_not_share : (a b c d : Pt) → Apart a b c d → Share a b c d → ⊥
apart_not_share a b c d h s = apart a b c d h (share_common a b c d s)

-- ---- folds
-- a point on both edges that is not b, as a fold
once : (m i a b : ℤ) → (m -ℤ i) *ℤ a +ℤ i *ℤ b ≡ (m -ℤ i) *ℤ (pos 1 *ℤ a) +ℤ i *ℤ (pos 1 *ℤ b)
once = vars4 _ λ ρ. simp (poly, num_val ρ) (by_ring _ _ _ tt)

on_once : (p a b : Pt) → On p a b → On p (times (pos 1) a) (times (pos 1) b)
on_once p a b h = record {
  m = h.m;
  i = h.i;
  some = h.some;
  low = h.low;
  high = h.high;
  x = h.x ∙ once h.m h.i a.x b.x;
  y = h.y ∙ once h.m h.i a.y b.y;
}

pub times_one : (b : Pt) → times (pos 1) b ≡ b
times_one b = pt_eq (times (pos 1) b) b (one b.x) (one b.y)
  where
    one : (z : ℤ) → pos 1 *ℤ z ≡ z
    one = all _ λ a a'. simp ring (omega arith)

fold_by : (a b c p : Pt) → On p a b → On p b c → (p ≡ b → ⊥) → Fold a b c
fold_by a b c p h k n = record { m = pos 1; p = p; some = record { lt = tt }; first = on_once p a b h; second = on_once p b c k; besides = λ e. n (e ∙ times_one b) }

-- the ends of an edge are on it
pub on_start : (a b : Pt) → On a a b
on_start a b = record {
  m = pos 1;
  i = pos 0;
  some = record { lt = tt };
  low = record { le = tt };
  high = record { le = tt };
  x = sym (mean_none (pos 1) a.x b.x);
  y = sym (mean_none (pos 1) a.y b.y);
}

pub on_end : (a b : Pt) → On b a b
on_end a b = on_turn b b a (on_start b a)

pub end_folds : (a b c : Pt) → (On a b c × (a ≡ b → ⊥)) ⊎ (On c a b × (c ≡ b → ⊥)) → Fold a b c
end_folds a b c (inl h) = fold_by a b c a (on_start a b) h.0 h.1
end_folds a b c (inr h) = fold_by a b c c h.0 (on_end b c) h.1

-- α (a − b) = β (c − b), where α and β are not negative
lever : (k m n i a b : ℤ) → (((m -ℤ i) *ℤ n) *ℤ (a -ℤ b)) *ℤ k ≡ n *ℤ ((m -ℤ i) *ℤ (k *ℤ a) +ℤ i *ℤ (k *ℤ b)) -ℤ (m *ℤ n) *ℤ (k *ℤ b)
lever = vars6 _ λ ρ. simp poly (by_ring _ _ _ tt)

lever' : (k m n j b c : ℤ) → ((j *ℤ m) *ℤ (c -ℤ b)) *ℤ k ≡ m *ℤ ((n -ℤ j) *ℤ (k *ℤ b) +ℤ j *ℤ (k *ℤ c)) -ℤ (m *ℤ n) *ℤ (k *ℤ b)
lever' = vars6 _ λ ρ. simp poly (by_ring _ _ _ tt)

balanced : (k m n i j p a b c : ℤ) → pos 0 <ℤ k → m *ℤ p ≡ (m -ℤ i) *ℤ (k *ℤ a) +ℤ i *ℤ (k *ℤ b) → n *ℤ p ≡ (n -ℤ j) *ℤ (k *ℤ b) +ℤ j *ℤ (k *ℤ c) → ((m -ℤ i) *ℤ n) *ℤ (a -ℤ b) ≡ (j *ℤ m) *ℤ (c -ℤ b)
balanced k m n i j p a b c h e f =
    cancel_eq _ _ k h
    (lever k m n i a b
    ∙ ap (λ z. n *ℤ z -ℤ (m *ℤ n) *ℤ (k *ℤ b)) (sym e)
    ∙ ap (λ z. z -ℤ (m *ℤ n) *ℤ (k *ℤ b)) (mul_swap n m p)
    ∙ ap (λ z. m *ℤ z -ℤ (m *ℤ n) *ℤ (k *ℤ b)) f
    ∙ sym (lever' k m n j b c))

-- c is α of β parts from b to a
nearer : (α β a b c : ℤ) → α *ℤ (a -ℤ b) ≡ β *ℤ (c -ℤ b) → β *ℤ c ≡ (β -ℤ α) *ℤ b +ℤ α *ℤ a
nearer α β a b c e = left β b c ∙ ap (λ z. z +ℤ β *ℤ b) (sym e) ∙ right α β a b
  where
    left : (β b c : ℤ) → β *ℤ c ≡ β *ℤ (c -ℤ b) +ℤ β *ℤ b
    left = vars3 _ λ ρ. simp poly (by_ring _ _ _ tt)

    right : (α β a b : ℤ) → α *ℤ (a -ℤ b) +ℤ β *ℤ b ≡ (β -ℤ α) *ℤ b +ℤ α *ℤ a
    right = vars4 _ λ ρ. simp poly (by_ring _ _ _ tt)

-- no part of the way from b
none_of : (k n j p b c : ℤ) → pos 0 <ℤ n → j ≡ pos 0 → n *ℤ p ≡ (n -ℤ j) *ℤ (k *ℤ b) +ℤ j *ℤ (k *ℤ c) → p ≡ k *ℤ b
none_of k n j p b c h z e = cancel_eq _ _ n h (*ℤ_comm p n ∙ e ∙ ap (λ i. (n -ℤ i) *ℤ (k *ℤ b) +ℤ i *ℤ (k *ℤ c)) z ∙ mean_none n (k *ℤ b) (k *ℤ c) ∙ *ℤ_comm n (k *ℤ b))

no_part : (m j : ℤ) → pos 0 <ℤ m → pos 0 ≤ℤ j → (j *ℤ m) ≤ℤ pos 0 → j ≡ pos 0
no_part m j h k l = antisym j (pos 0) (not_lt j (pos 0) (λ q. clash _ _ (pos_mul j m q h) l)) k

pub fold_ends : (a b c : Pt) → Fold a b c → On a b c ⊎ On c a b
fold_ends a b c t = ⊎_elim (λ l. inr (on_turn c b a (far l))) (λ l. inl (near l)) (le_or_lt α β)
  where
    f : On t.p (times t.m a) (times t.m b)
    f = t.first

    g : On t.p (times t.m b) (times t.m c)
    g = t.second

    α : ℤ
    α = (f.m -ℤ f.i) *ℤ g.m

    β : ℤ
    β = g.i *ℤ f.m

    ex : α *ℤ (a.x -ℤ b.x) ≡ β *ℤ (c.x -ℤ b.x)
    ex = balanced t.m f.m g.m f.i g.i t.p.x a.x b.x c.x t.some f.x g.x

    ey : α *ℤ (a.y -ℤ b.y) ≡ β *ℤ (c.y -ℤ b.y)
    ey = balanced t.m f.m g.m f.i g.i t.p.y a.y b.y c.y t.some f.y g.y

    α₀ : pos 0 ≤ℤ α
    α₀ = nn_mul _ _ (le_sub _ _ f.high) (lt_le _ _ g.some)

    β₀ : pos 0 ≤ℤ β
    β₀ = nn_mul _ _ g.low (lt_le _ _ f.some)

    stuck : β ≤ℤ pos 0 → ⊥
    stuck l =
        let z = no_part f.m g.i f.some g.low l in
        t.besides (pt_eq t.p (times t.m b) (none_of t.m g.m g.i t.p.x b.x c.x g.some z g.x) (none_of t.m g.m g.i t.p.y b.y c.y g.some z g.y))

    far : α ≤ℤ β → On c b a
    far l = record {
      m = β;
      i = α;
      some = ⊎_elim (λ q. absurd (stuck q)) (λ q. q) (le_or_lt β (pos 0));
      low = α₀;
      high = l;
      x = nearer α β a.x b.x c.x ex;
      y = nearer α β a.y b.y c.y ey;
    }

    near : β <ℤ α → On a b c
    near l = record {
      m = α;
      i = β;
      some = le_lt_trans _ _ _ β₀ l;
      low = β₀;
      high = lt_le _ _ l;
      x = nearer β α c.x b.x a.x (sym ex);
      y = nearer β α c.y b.y a.y (sym ey);
    }
