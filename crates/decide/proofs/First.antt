-- The least mark over the edges is the mark in which touches begin. Assumes nothing.
use mathlib.Core.Path.{◌≡◌, refl, subst}
use mathlib.Core.Logic.{◌⊎◌, inl, inr, ⊎_elim}
use mathlib.Core.Bool.{Bool, true, false, cond}
use Prim.Native.Nat.{ℕ, zero, suc, min, ◌≤◌, ◌<◌}
use native.Mathlib.Omega.{arith}
use lib.IntN.{pos}
use Rattle.whole.specs.Fraction.{Frac, ◌≼◌, mark, whole, Floor}
use Rattle.whole.proofs.Fraction.{trans, mark_mono, floor_most}
use Rattle.whole.proofs.Order.{ℕ_or}
use Rattle.rules.specs.Ring.{Pt, Ring, from, to}
use Rattle.decide.specs.Span.{Span, some, first}
use Rattle.rules.specs.Verdict.{NONE}
use Rattle.decide.specs.Touch.{across, same_side, on_edge, touch, touches}
use Rattle.decide.proofs.Span.{Proper, In, begin, Clips, begins, no_moment, first_mark_lem}
use Rattle.decide.proofs.Touch.{OnAt, edge_clips, beside}

-- c is the mark of Q within the span: Q at some moment of its 1/256, and at none before; or it says that there is none
pub data FirstAt (s : Span) (Q : Frac → Type 0) (c : ℕ) : Type 0 where
  never : c ≡ NONE → ((t : Frac) → In s t → Q t → ⊥) → FirstAt s Q c
  when : (u : Frac) → In s u → Q u → Floor (pos c) u → ((t : Frac) → In s t → Q t → mark (pos c) ≼ t) → c < NONE → FirstAt s Q c

-- no moment is later than the longest run
abbrev pub Early : Span → Type 0
Early s = (t : Frac) → In s t → t ≼ whole (pos 4096)

pub below_none : (c : ℕ) (t : Frac) → Floor (pos c) t → t ≼ whole (pos 4096) → c < NONE
below_none c t f h = let l = floor_most c 4096 t f h in omega arith

-- ---- of two, the earlier
pub joined : {s : Span} {Q R : Frac → Type 0} (c d : ℕ) → FirstAt s Q c → FirstAt s R d → FirstAt s (λ t. Q t ⊎ R t) (min c d)
joined {s} {Q} {R} c d (never e f) (never g h) = never (omega arith) (λ t i q. ⊎_elim (f t i) (h t i) q)
joined {s} {Q} {R} c d (never e f) (when u i q m l b) =
    let z : d ≡ min c d = omega arith in
    subst (FirstAt s (λ t. Q t ⊎ R t)) z (when u i (inr q) m (λ t j x. ⊎_elim (λ y. absurd (f t j y)) (l t j) x) b)
joined {s} {Q} {R} c d (when u i q m l b) (never e f) =
    let z : c ≡ min c d = omega arith in
    subst (FirstAt s (λ t. Q t ⊎ R t)) z (when u i (inl q) m (λ t j x. ⊎_elim (l t j) (λ y. absurd (f t j y)) x) b)
joined {s} {Q} {R} c d (when u i q m l b) (when u' i' q' m' l' b') =
    ⊎_elim
    (λ (h : c ≤ d). let z : c ≡ min c d = omega arith in
    subst (FirstAt s (λ t. Q t ⊎ R t)) z (when u i (inl q) m (λ t j x. ⊎_elim (l t j) (λ y. trans (mark (pos c)) (mark (pos d)) t (mark_mono c d h) (l' t j y)) x) b))
    (λ (h : d < c). let z : d ≡ min c d = omega arith in let e : d ≤ c = omega arith in
    subst (FirstAt s (λ t. Q t ⊎ R t)) z (when u' i' (inr q') m' (λ t j x. ⊎_elim (λ y. trans (mark (pos d)) (mark (pos c)) t (mark_mono d c e) (l t j y)) (l' t j) x) b'))
    (ℕ_or c d)

pub through : {s : Span} {Q R : Frac → Type 0} {c : ℕ} → ((t : Frac) → Q t → R t) → ((t : Frac) → R t → Q t) → FirstAt s Q c → FirstAt s R c
through f g (never e h) = never e (λ t i q. h t i (g t q))
through f g (when u i q m l b) = when u i (f u q) m (λ t j x. l t j (g t x)) b

-- ---- an edge
pub first_touch : (p w : Pt) (s : Span) → Proper s → Early s → (a b : Pt) → FirstAt s (OnAt p w a b) (touch p w s a b)
unfolding touch
first_touch p w s q early a b = go (same_side (across p w a) (across p w b)) refl (some (on_edge p w s a b)) refl
  where
    c : Clips s (on_edge p w s a b) (OnAt p w a b)
    c = edge_clips p w a b s q

    go : (t : Bool) → same_side (across p w a) (across p w b) ≡ t → (u : Bool) → some (on_edge p w s a b) ≡ u → FirstAt s (OnAt p w a b) (cond t NONE (cond u (first (on_edge p w s a b)) NONE))
    go true e u f = never refl (λ t i h. beside p w a b e t h)
    go false e false f = never refl (λ t i h. no_moment (on_edge p w s a b) c.proper f t (c.keeps t i h))
    go false e true f =
        let lo = begin (on_edge p w s a b) c.proper in
        let i = c.gives lo (begins (on_edge p w s a b) c.proper f) in
        let m = first_mark_lem (on_edge p w s a b) c.proper in
        when lo i.0 i.1 m (λ t j h. trans (mark (pos (first (on_edge p w s a b)))) lo t m.low (c.keeps t j h).after) (below_none (first (on_edge p w s a b)) lo m (early lo i.0))

-- ---- all edges
abbrev pub OnFirst : Ring → Pt → Pt → ℕ → Frac → Type 0
OnFirst r p w n t = (k : ℕ) × (k < n) × OnAt p w (from r k) (to r k) t

pub first_touches : (r : Ring) (p w : Pt) (s : Span) → Proper s → Early s → (n : ℕ) → FirstAt s (OnFirst r p w n) (touches r p w s n)
unfolding touches
first_touches r p w s q early zero = never refl (λ t i h. let l = h.1 in absurd (omega arith))
first_touches r p w s q early (suc n) = through out into
    (joined (touches r p w s n) (touch p w s (from r n) (to r n)) (first_touches r p w s q early n) (first_touch p w s q early (from r n) (to r n)))
  where
    out : (t : Frac) → OnFirst r p w n t ⊎ OnAt p w (from r n) (to r n) t → OnFirst r p w (suc n) t
    out t (inl h) = let l = h.1 in (h.0, omega arith, h.2)
    out t (inr h) = (n, omega arith, h)

    into : (t : Frac) → OnFirst r p w (suc n) t → OnFirst r p w n t ⊎ OnAt p w (from r n) (to r n) t
    into t h = let l = h.1 in
        ⊎_elim (λ (g : n ≤ h.0). let e : h.0 ≡ n = omega arith in inr (subst (λ (k : ℕ). OnAt p w (from r k) (to r k) t) e h.2))
        (λ (g : h.0 < n). inl (h.0, g, h.2)) (ℕ_or n h.0)
