-- On an edge, and a point shared by two: decided, and unmoved by scaling and shifting. Assumes nothing.
use mathlib.Core.Path.{◌≡◌, sym, ap, ◌∙◌}
use mathlib.Core.Logic.{◌⊎◌, inl, inr, ⊎_elim}
use native.Mathlib.Omega.{arith}
use lib.IntN.{ℤ, pos, ◌+ℤ◌, ◌-ℤ◌, ◌*ℤ◌, *ℤ_comm}
use lib.Signed.{◌<ℤ◌}
use Rattle.whole.proofs.Difference.{all3, ring}
use Rattle.whole.proofs.Order.{cancel_eq, sub_le, lt_le, le_sub}
use Rattle.whole.proofs.Polynomial.{vars3, vars4, vars6, poly, by_ring}
use Rattle.rules.specs.Ring.{Pt, On}
use Rattle.decide.proofs.Segment.{Apart, Common, mean_none, mean_turn, apart, decide}

-- ---- On is `Common` with a segment of one point
one_point : (n j p : ℤ) → (n -ℤ j) *ℤ p +ℤ j *ℤ p ≡ n *ℤ p
one_point = vars3 _ λ ρ. simp poly (by_ring _ _ _ tt)

on_common : (p a b : Pt) → On p a b → Common a b p p
on_common p a b h = record {
  n = h.m;
  i = h.i;
  j = pos 0;
  some = h.some;
  i_low = h.low;
  i_high = h.high;
  j_low = record { le = tt };
  j_high = lt_le _ _ h.some;
  x = sym (mean_none h.m p.x p.x ∙ h.x);
  y = sym (mean_none h.m p.y p.y ∙ h.y);
}

common_on : (p a b : Pt) → Common a b p p → On p a b
common_on p a b h = record {
  m = h.n;
  i = h.i;
  some = h.some;
  low = h.i_low;
  high = h.i_high;
  x = sym (h.x ∙ one_point h.n h.j p.x);
  y = sym (h.y ∙ one_point h.n h.j p.y);
}

-- on the edge, or strictly off it
pub on_or_off : (p a b : Pt) → On p a b ⊎ Apart a b p p
on_or_off p a b = ⊎_elim (λ h. inr h) (λ h. inl (common_on p a b h)) (decide a b p p)

pub off_not_on : (p a b : Pt) → Apart a b p p → On p a b → ⊥
off_not_on p a b h k = apart a b p p h (on_common p a b k)

-- ---- scaled and shifted: k times, and then by s
abbrev pub move : ℤ → Pt → Pt → Pt
move k s p = record { x = k *ℤ p.x +ℤ s.x; y = k *ℤ p.y +ℤ s.y }

-- no shift
abbrev pub origin : Pt
origin = record { x = pos 0; y = pos 0 }

out : (k s m p : ℤ) → m *ℤ (k *ℤ p +ℤ s) ≡ k *ℤ (m *ℤ p) +ℤ m *ℤ s
out = vars4 _ λ ρ. simp poly (by_ring _ _ _ tt)

into : (k s m i a b : ℤ) → k *ℤ ((m -ℤ i) *ℤ a +ℤ i *ℤ b) +ℤ m *ℤ s ≡ (m -ℤ i) *ℤ (k *ℤ a +ℤ s) +ℤ i *ℤ (k *ℤ b +ℤ s)
into = vars6 _ λ ρ. simp poly (by_ring _ _ _ tt)

forth : (k s m i p a b : ℤ) → m *ℤ p ≡ (m -ℤ i) *ℤ a +ℤ i *ℤ b → m *ℤ (k *ℤ p +ℤ s) ≡ (m -ℤ i) *ℤ (k *ℤ a +ℤ s) +ℤ i *ℤ (k *ℤ b +ℤ s)
forth k s m i p a b e = out k s m p ∙ ap (λ z. k *ℤ z +ℤ m *ℤ s) e ∙ into k s m i a b

pub on_move : (k : ℤ) (s p a b : Pt) → On p a b → On (move k s p) (move k s a) (move k s b)
on_move k s p a b h = record {
  m = h.m;
  i = h.i;
  some = h.some;
  low = h.low;
  high = h.high;
  x = forth k s.x h.m h.i p.x a.x b.x h.x;
  y = forth k s.y h.m h.i p.y a.y b.y h.y;
}

back : (k s m i p a b : ℤ) → pos 0 <ℤ k → m *ℤ (k *ℤ p +ℤ s) ≡ (m -ℤ i) *ℤ (k *ℤ a +ℤ s) +ℤ i *ℤ (k *ℤ b +ℤ s) → m *ℤ p ≡ (m -ℤ i) *ℤ a +ℤ i *ℤ b
back k s m i p a b h e =
    cancel_eq _ _ k h (turn k (m *ℤ p) ((m -ℤ i) *ℤ a +ℤ i *ℤ b) (m *ℤ s) (sym (out k s m p) ∙ e ∙ sym (into k s m i a b)))
  where
    turn : (k x y s : ℤ) → k *ℤ x +ℤ s ≡ k *ℤ y +ℤ s → x *ℤ k ≡ y *ℤ k
    turn k x y s e = *ℤ_comm x k ∙ drop (k *ℤ x) (k *ℤ y) s e ∙ *ℤ_comm k y
      where
        drop : (x y s : ℤ) → x +ℤ s ≡ y +ℤ s → x ≡ y
        drop = all3 _ λ a a' b b' c c'. simp ring (omega arith)

pub on_unmove : (k : ℤ) (s p a b : Pt) → pos 0 <ℤ k → On (move k s p) (move k s a) (move k s b) → On p a b
on_unmove k s p a b l h = record {
  m = h.m;
  i = h.i;
  some = h.some;
  low = h.low;
  high = h.high;
  x = back k s.x h.m h.i p.x a.x b.x l h.x;
  y = back k s.y h.m h.i p.y a.y b.y l h.y;
}

-- the other way along the edge
pub on_turn : (p a b : Pt) → On p a b → On p b a
on_turn p a b h = record {
  m = h.m;
  i = h.m -ℤ h.i;
  some = h.some;
  low = le_sub _ _ h.high;
  high = sub_le h.m h.i h.low;
  x = h.x ∙ mean_turn h.m h.i a.x b.x;
  y = h.y ∙ mean_turn h.m h.i a.y b.y;
}
