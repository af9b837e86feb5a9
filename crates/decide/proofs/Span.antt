-- Clipping keeps exactly the moments that satisfy the inequality; a span's begin is its first moment. Assumes nothing.
use mathlib.Core.Path.{◌≡◌, refl, sym, subst}
use mathlib.Core.Bool.{true, false}
use native.Mathlib.Omega.{arith}
use lib.IntN.{ℤ, pos, negsuc, neg_ℤ, ◌+ℤ◌, ◌*ℤ◌, *ℤ_comm, zero-*ℤ, +ℤ_idr}
use lib.Signed.{◌≤ℤ◌, ◌<ℤ◌, lt_z, pos-nat_abs}
use Rattle.whole.specs.Fraction.{Frac, ◌≼◌, Floor}
use Rattle.whole.proofs.Fraction.{trans, apart, floor_is}
use Rattle.whole.proofs.Difference.{all2, all4, ring}
use Rattle.whole.proofs.Order.{le_trans, lt_le, eq_le, clash, antisym, nn_mul, pos_neg_mul, turn_lt, nn_factor}
use Rattle.whole.proofs.Flag.{by_flag, lt_true, lt_false, le_true, le_false}
use Rattle.whole.proofs.Range.{quot}
use Rattle.decide.specs.Span.{Span, raise, lower, none, clip, some, first}

-- positive divisors, and a begin at or after 0
pub record Proper (s : Span) : Type 0 where
  pub low : pos 0 <ℤ s.low_d
  pub high : pos 0 <ℤ s.high_d
  pub from : pos 0 ≤ℤ s.low_n

-- t lies in the span
pub record In (s : Span) (t : Frac) : Type 0 where
  pub after : (s.low_n *ℤ t.den) ≤ℤ (t.num *ℤ s.low_d)
  pub until : (t.num *ℤ s.high_d) ≤ℤ (s.high_n *ℤ t.den)

abbrev pub begin : (s : Span) → Proper s → Frac
begin s p = record { num = s.low_n; den = s.low_d; some = p.low }

abbrev pub end : (s : Span) → Proper s → Frac
end s p = record { num = s.high_n; den = s.high_d; some = p.high }

-- 0 ≤ α + β t
abbrev pub Holds : ℤ → ℤ → Frac → Type 0
Holds α β t = pos 0 ≤ℤ (α *ℤ t.den +ℤ β *ℤ t.num)

-- a clipped span is proper, and holds what was there and satisfies the inequality
pub record Clips (s u : Span) (P : Frac → Type 0) : Type 0 where
  pub proper : Proper u
  pub keeps : (t : Frac) → In s t → P t → In u t
  pub gives : (t : Frac) → In u t → In s t × P t

-- ---- not before n/d, not after n/d
module _ (s : Span) (p : Proper s) (n d : ℤ) (l : pos 0 <ℤ d) where
  abbrev bound : Frac
  bound = record { num = n; den = d; some = l }

  pub raises : Clips s (raise s n d) (λ t. bound ≼ t)
  unfolding raise
  raises =
      by_flag (λ u. Clips s u (λ t. bound ≼ t)) (lt_z (s.low_n *ℤ d) (n *ℤ s.low_d)) _ s
      (λ e. let h = lt_true (s.low_n *ℤ d) (n *ℤ s.low_d) e in
      record {
        proper = record { low = l; high = p.high; from = nn_factor n s.low_d p.low (le_trans _ _ _ (nn_mul s.low_n d p.from (lt_le _ _ l)) (lt_le _ _ h)) };
        keeps = λ t i q. record { after = q; until = i.until };
        gives = λ t i. (record { after = trans (begin s p) bound t (lt_le _ _ h) i.after; until = i.until }, i.after);
      })
      (λ e. record {
        proper = p;
        keeps = λ t i q. i;
        gives = λ t i. (i, trans bound (begin s p) t (lt_false (s.low_n *ℤ d) (n *ℤ s.low_d) e) i.after);
      })

  pub lowers : Clips s (lower s n d) (λ t. t ≼ bound)
  unfolding lower
  lowers =
      by_flag (λ u. Clips s u (λ t. t ≼ bound)) (lt_z (n *ℤ s.high_d) (s.high_n *ℤ d)) _ s
      (λ e. let h = lt_true (n *ℤ s.high_d) (s.high_n *ℤ d) e in
      record {
        proper = record { low = p.low; high = l; from = p.from };
        keeps = λ t i q. record { after = i.after; until = q };
        gives = λ t i. (record { after = i.after; until = trans t bound (end s p) i.until (lt_le _ _ h) }, i.until);
      })
      (λ e. record {
        proper = p;
        keeps = λ t i q. i;
        gives = λ t i. (i, trans t (end s p) bound i.until (lt_false (n *ℤ s.high_d) (s.high_n *ℤ d) e));
      })

-- ---- any inequality
pub turned : {s u : Span} {P Q : Frac → Type 0} → Clips s u P → ((t : Frac) → P t → Q t) → ((t : Frac) → Q t → P t) → Clips s u Q
turned c f g = record { proper = c.proper; keeps = λ t i q. c.keeps t i (g t q); gives = λ t i. ((c.gives t i).0, f t (c.gives t i).1) }

rise : (α β n d : ℤ) → (neg_ℤ α *ℤ d) ≤ℤ (n *ℤ β) → pos 0 ≤ℤ (α *ℤ d +ℤ β *ℤ n)
rise = all4 _ λ a a' b b' c c' d d'. simp ring (omega arith)

rise⁻¹ : (α β n d : ℤ) → pos 0 ≤ℤ (α *ℤ d +ℤ β *ℤ n) → (neg_ℤ α *ℤ d) ≤ℤ (n *ℤ β)
rise⁻¹ = all4 _ λ a a' b b' c c' d d'. simp ring (omega arith)

fall : (α β n d : ℤ) → (n *ℤ neg_ℤ β) ≤ℤ (α *ℤ d) → pos 0 ≤ℤ (α *ℤ d +ℤ β *ℤ n)
fall = all4 _ λ a a' b b' c c' d d'. simp ring (omega arith)

fall⁻¹ : (α β n d : ℤ) → pos 0 ≤ℤ (α *ℤ d +ℤ β *ℤ n) → (n *ℤ neg_ℤ β) ≤ℤ (α *ℤ d)
fall⁻¹ = all4 _ λ a a' b b' c c' d d'. simp ring (omega arith)

-- no slope: the inequality is one of α
flat : (α n d : ℤ) → pos 0 ≤ℤ (α *ℤ d) → pos 0 ≤ℤ (α *ℤ d +ℤ pos 0 *ℤ n)
flat α n d h = rw (zero-*ℤ n, +ℤ_idr (α *ℤ d)) h

flat⁻¹ : (α n d : ℤ) → pos 0 ≤ℤ (α *ℤ d +ℤ pos 0 *ℤ n) → pos 0 ≤ℤ (α *ℤ d)
flat⁻¹ α n d h = rw (zero-*ℤ n, +ℤ_idr (α *ℤ d)) at h

-- the empty span holds nothing
nothing : (s : Span) → Proper s → (t : Frac) → In (none s) t → ⊥
unfolding none
nothing s p t i = go t.num t.den i.until t.some (nn_factor t.num s.low_d p.low (le_trans _ _ _ (nn_mul s.low_n t.den p.from (lt_le _ _ t.some)) i.after))
  where
    go : (n d : ℤ) → (n *ℤ pos 1) ≤ℤ (negsuc 0 *ℤ d) → pos 0 <ℤ d → pos 0 ≤ℤ n → ⊥
    go = all2 _ λ a a' b b'. simp ring (omega arith)

none_proper : (s : Span) → Proper s → Proper (none s)
unfolding none
none_proper s p = record { low = p.low; high = record { lt = tt }; from = p.from }

nones : (s : Span) → Proper s → (α : ℤ) → α <ℤ pos 0 → Clips s (none s) (λ t. Holds α (pos 0) t)
nones s p α h = record {
  proper = none_proper s p;
  keeps = λ t i q. absurd (clash _ _ (pos_neg_mul t.den α t.some h) (rw (*ℤ_comm t.den α) (flat⁻¹ α t.num t.den q)));
  gives = λ t i. absurd (nothing s p t i);
}

stays : (s : Span) → Proper s → (α : ℤ) → pos 0 ≤ℤ α → Clips s s (λ t. Holds α (pos 0) t)
stays s p α h = record { proper = p; keeps = λ t i q. i; gives = λ t i. (i, flat α t.num t.den (nn_mul α t.den h (lt_le _ _ t.some))) }

pub clips : (s : Span) → Proper s → (α β : ℤ) → Clips s (clip s α β) (Holds α β)
unfolding clip
clips s p α β =
    by_flag (λ u. Clips s u (Holds α β)) (lt_z (pos 0) β) _ _
    (λ e. turned (raises s p (neg_ℤ α) β (lt_true (pos 0) β e)) (λ t. rise α β t.num t.den) (λ t. rise⁻¹ α β t.num t.den))
    (λ e. by_flag (λ u. Clips s u (Holds α β)) (lt_z β (pos 0)) _ _
    (λ f. turned (lowers s p α (neg_ℤ β) (turn_lt β (lt_true β (pos 0) f))) (λ t. fall α β t.num t.den) (λ t. fall⁻¹ α β t.num t.den))
    (λ f. let z = antisym (pos 0) β (lt_false β (pos 0) f) (lt_false (pos 0) β e) in
    by_flag (λ u. Clips s u (Holds α β)) (lt_z α (pos 0)) _ _ (λ g. subst (λ (b : ℤ). Clips s (none s) (Holds α b)) z (nones s p α (lt_true α (pos 0) g)))
    (λ g. subst (λ (b : ℤ). Clips s s (Holds α b)) z (stays s p α (lt_false α (pos 0) g)))))

-- two in a row
pub both : {s u v : Span} {P Q : Frac → Type 0} → Clips s u P → Clips u v Q → Clips s v (λ t. P t × Q t)
both c d = record {
  proper = d.proper;
  keeps = λ t i q. d.keeps t (c.keeps t i q.0) q.1;
  gives = λ t i. ((c.gives t (d.gives t i).0).0, ((c.gives t (d.gives t i).0).1, (d.gives t i).1));
}

-- ---- the begin
pub begins : (s : Span) (p : Proper s) → some s ≡ true → In s (begin s p)
begins s p e = record { after = eq_le _ _ refl; until = le_true (s.low_n *ℤ s.high_d) (s.high_n *ℤ s.low_d) e }

pub no_moment : (s : Span) → Proper s → some s ≡ false → (t : Frac) → In s t → ⊥
no_moment s p e t i = apart (end s p) (begin s p) (le_false (s.low_n *ℤ s.high_d) (s.high_n *ℤ s.low_d) e) (trans (begin s p) t (end s p) i.after i.until)

-- its mark
pub first_mark_lem : (s : Span) (p : Proper s) → Floor (pos (first s)) (begin s p)
first_mark_lem s p = subst (λ (k : ℤ). Floor k (begin s p)) (sym (pos-nat_abs _ (quot _ _ (nn_mul (pos 256) s.low_n (record { le = tt }) p.from) p.low).sign)) (floor_is (begin s p) p.from)

-- a span is convex
pub between : (s : Span) (p : Proper s) (a t b : Frac) → In s a → In s b → a ≼ t → t ≼ b → In s t
between s p a t b i j h k = record { after = trans (begin s p) a t i.after h; until = trans t b (end s p) k j.until }
