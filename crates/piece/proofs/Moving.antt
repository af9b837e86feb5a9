-- Clipping keeps a span tame, and what tame numbers give fits. Assumes nothing.
use mathlib.Core.Path.{◌≡◌, ◌∙◌}
use mathlib.Core.Bool.{true, false}
use Prim.Native.Nat.{ℕ, ◌≤◌, ◌<◌}
use native.Mathlib.Omega.{arith}
use lib.Dec.{T}
use lib.IntN.{ℤ, pos, neg_ℤ, nat_abs, ◌-ℤ◌, ◌*ℤ◌, one, *ℤ-one}
use lib.Signed.{◌≤ℤ◌, ◌<ℤ◌, lt_z, quot_z, non_neg, <ℤ-≤ℤ_trans}
use mir.Syntax.{w64}
use mir.Val.{SFits, to_z, of_z}
use mir.Facts.{to_z-of_z}
use Rattle.whole.proofs.Difference.{all, ring}
use Rattle.whole.proofs.Order.{mul_swap_r, turn_lt, nn_mul, mul_mono, cancel_lt, le_trans, lt_le, nn_factor}
use Rattle.whole.proofs.Flag.{by_flag, lt_true, le_true}
use Rattle.whole.proofs.Range.{fits, abs_mul_le, abs_neg, Quot, quot}
use Rattle.whole.specs.Fraction.{whole}
use Rattle.whole.proofs.Fraction.{trans, floor_most}
use Rattle.rules.specs.Verdict.{NONE}
use Rattle.decide.proofs.Span.{Proper, begin, end, first_mark_lem}
use Rattle.decide.specs.Span.{Span, raise, lower, none, clip, some, first}
use Rattle.piece.specs.declared.span.Span as declared
use Rattle.piece.specs.Seen.{span_of}
use Rattle.piece.specs.Sizes.{Sized, Tame, Bounds}
use Rattle.piece.proofs.Steps.{word, back}

-- a moment before another that is not after 4,096 ticks
pub sooner_end : (n d m e : ℤ) → pos 0 <ℤ d → pos 0 <ℤ e → m ≤ℤ (pos 4096 *ℤ e) → (n *ℤ e) <ℤ (m *ℤ d) → n ≤ℤ (pos 4096 *ℤ d)
sooner_end n d m e h i j k =
    lt_le _ _ (cancel_lt n (pos 4096 *ℤ d) e i (<ℤ-≤ℤ_trans k (rw (mul_swap_r (pos 4096) d e) (mul_mono m (pos 4096 *ℤ e) d j (lt_le _ _ h)))))

module _ (N D : ℕ) (s : Span) (h : Tame N D s) where
  pub tame_raise : (n d : ℤ) → pos 0 <ℤ d → nat_abs n ≤ N → nat_abs d ≤ D → Tame N D (raise s n d)
  unfolding raise
  tame_raise n d l i j =
      by_flag (Tame N D) (lt_z (s.low_n *ℤ d) (n *ℤ s.low_d)) _ _
      (λ e. record {
        begin = nn_factor n s.low_d h.low (le_trans _ _ _ (nn_mul s.low_n d h.begin (lt_le _ _ l)) (lt_le _ _ (lt_true _ _ e)));
        end = h.end;
        low = l;
        high = h.high;
        low_n = i;
        low_d = j;
        high_n = h.high_n;
        high_d = h.high_d;
      })
      (λ e. h)

  pub tame_lower : (n d : ℤ) → pos 0 <ℤ d → nat_abs n ≤ N → nat_abs d ≤ D → Tame N D (lower s n d)
  unfolding lower
  tame_lower n d l i j =
      by_flag (Tame N D) (lt_z (n *ℤ s.high_d) (s.high_n *ℤ d)) _ _
      (λ e. record {
        begin = h.begin;
        end = sooner_end n d s.high_n s.high_d l h.high h.end (lt_true _ _ e);
        low = h.low;
        high = l;
        low_n = h.low_n;
        low_d = h.low_d;
        high_n = i;
        high_d = j;
      })
      (λ e. h)

  pub tame_none : 1 ≤ N → 1 ≤ D → Tame N D (none s)
  unfolding none
  tame_none i j = record { begin = h.begin; end = record { le = tt }; low = h.low; high = record { lt = tt }; low_n = h.low_n; low_d = h.low_d; high_n = i; high_d = j }

  pub tame_clip : (a b : ℤ) → 1 ≤ N → 1 ≤ D → Bounds N D a b → Tame N D (clip s a b)
  unfolding clip
  tame_clip a b i j k =
      by_flag (Tame N D) (lt_z (pos 0) b) _ _
      (λ e. tame_raise (neg_ℤ a) b (lt_true _ _ e) (rw (abs_neg a) k.base) k.slope)
      (λ e. by_flag (Tame N D) (lt_z b (pos 0)) _ _
      (λ e. tame_lower a (neg_ℤ b) (turn_lt b (lt_true _ _ e)) k.base (rw (abs_neg b) k.slope))
      (λ e. by_flag (Tame N D) (lt_z a (pos 0)) _ _ (λ e. tame_none i j) (λ e. h)))

  pub wider : (N' D' : ℕ) → N ≤ N' → D ≤ D' → Tame N' D' s
  wider N' D' i j = record {
    begin = h.begin;
    end = h.end;
    low = h.low;
    high = h.high;
    low_n = omega (arith, h.low_n);
    low_d = omega (arith, h.low_d);
    high_n = omega (arith, h.high_n);
    high_d = omega (arith, h.high_d);
  }

-- what holds of every span of the code
abbrev pub Small : Span → Type 0
Small = Tame 8589934592 67108864

pub small_of : (s : declared.Span) → Small (span_of s)
small_of s = record {
  begin = s.begin;
  end = s.end;
  low = s.low.sized.some;
  high = s.high.sized.some;
  low_n = s.low.sized.num;
  low_d = s.low.sized.den;
  high_n = s.high.sized.num;
  high_d = s.high.sized.den;
}

-- ---- what fits
tame_fits : (x y : ℤ) → nat_abs x ≤ 8589934592 → nat_abs y ≤ 67108864 → SFits w64 (x *ℤ y)
tame_fits x y h k = fits w64 _ (omega (arith, abs_mul_le x y 8589934592 67108864 h k))

pub cross_fits : (n d m e : ℤ) → Sized n d → Sized m e → SFits w64 (word n *ℤ word e)
cross_fits n d m e h k = rw (back n (omega (arith, h.num)), back e (omega (arith, k.den))) (tame_fits n e h.num k.den)

pub cross_back : (n d m e : ℤ) → Sized n d → Sized m e → word (word n *ℤ word e) ≡ n *ℤ e
cross_back n d m e h k = to_z-of_z (cross_fits n d m e h k) ∙ rw (back n (omega (arith, h.num)), back e (omega (arith, k.den)))

zero_sub : (a : ℤ) → pos 0 -ℤ a ≡ neg_ℤ a
zero_sub = all _ λ a a'. simp ring (omega arith)

-- a sign that the code turns
pub turned_fits : (a : ℤ) → nat_abs a ≤ 8589934592 → SFits w64 (pos 0 -ℤ a)
turned_fits a h = rw (zero_sub a) (fits w64 _ (rw (abs_neg a) (omega arith)))

pub turned : (a : ℤ) → nat_abs a ≤ 8589934592 → word (pos 0 -ℤ a) ≡ neg_ℤ a
turned a h = to_z-of_z (turned_fits a h) ∙ zero_sub a

-- ---- clip by the signs of its numbers
module _ (s : Span) (a b : ℤ) where
  pub clip_up : lt_z (pos 0) b ≡ true → raise s (neg_ℤ a) b ≡ clip s a b
  unfolding clip
  clip_up e = rw e

  pub clip_down : lt_z (pos 0) b ≡ false → lt_z b (pos 0) ≡ true → lower s a (neg_ℤ b) ≡ clip s a b
  unfolding clip
  clip_down e f = rw (e, f)

  pub clip_none : lt_z (pos 0) b ≡ false → lt_z b (pos 0) ≡ false → lt_z a (pos 0) ≡ true → none s ≡ clip s a b
  unfolding clip
  clip_none e f g = rw (e, f, g)

  pub clip_all : lt_z (pos 0) b ≡ false → lt_z b (pos 0) ≡ false → lt_z a (pos 0) ≡ false → s ≡ clip s a b
  unfolding clip
  clip_all e f g = rw (e, f, g)

-- the same where the code has no slope, of numbers read back: `span::clip` names these two, so that no file cites the name of its last test
pub clip_none_read : (r s : Span) (a b : ℤ) → SFits w64 a → SFits w64 b → lt_z (pos 0) (to_z w64 (of_z w64 b)) ≡ false → lt_z (to_z w64 (of_z w64 b)) (pos 0) ≡ false
    → lt_z (to_z w64 (of_z w64 a)) (pos 0) ≡ true → r ≡ none s → r ≡ clip s a b
clip_none_read r s a b i j e f g h = h ∙ clip_none s a b (rw (to_z-of_z j) at e) (rw (to_z-of_z j) at f) (rw (to_z-of_z i) at g)

pub clip_all_read : (s : Span) (a b : ℤ) → SFits w64 a → SFits w64 b → lt_z (pos 0) (to_z w64 (of_z w64 b)) ≡ false → lt_z (to_z w64 (of_z w64 b)) (pos 0) ≡ false
    → lt_z (to_z w64 (of_z w64 a)) (pos 0) ≡ false → s ≡ clip s a b
clip_all_read s a b i j e f g = clip_all s a b (rw (to_z-of_z j) at e) (rw (to_z-of_z j) at f) (rw (to_z-of_z i) at g)

-- ---- the mark of a span's begin
module _ (s : Span) (h : Small s) (e : some s ≡ true) where
  from_0 : pos 0 ≤ℤ (pos 256 *ℤ s.low_n)
  from_0 = nn_mul (pos 256) s.low_n (record { le = tt }) h.begin

  parts : Quot (pos 256 *ℤ s.low_n) s.low_d
  parts = quot (pos 256 *ℤ s.low_n) s.low_d from_0 h.low

  pub mark_sign : T (non_neg (quot_z (pos 256 *ℤ s.low_n) s.low_d))
  mark_sign = parts.sign

  proper : Proper s
  proper = record { low = h.low; high = h.high; from = h.begin }

  -- it begins by 4,096 ticks
  pub mark_most : first s ≤ 1048576
  unfolding one
  mark_most = floor_most (first s) 4096 (begin s proper) (first_mark_lem s proper) (trans (begin s proper) (end s proper) (whole (pos 4096)) (le_true _ _ e) (rw (*ℤ-one s.high_n) h.end))

  pub mark_below : first s < NONE
  mark_below = omega (arith, mark_most)
