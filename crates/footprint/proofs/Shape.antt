-- The tests of corners and edges decide what the rules say of them. Assumes nothing.
use Rattle.std.specs.Ordering.{int_eq}
use Rattle.std.proofs.lemmas.Bool.Decides.{Decides-int_eq}
use mathlib.Core.Path.{◌≡◌, refl, sym, ap, ◌∙◌}
use mathlib.Core.Bool.{Bool, true, false, not, ◌&&◌, ◌||◌}
use mathlib.Core.Logic.{◌⊎◌, inl, inr, ⊎_elim}
use lib.IntN.{ℤ, pos}
use lib.Signed.{◌<ℤ◌, lt_z, ≤ℤ_refl}
use Rattle.whole.proofs.Order.{antisym}
use Rattle.whole.proofs.Polynomial.{vars6, poly, by_ring}
use Rattle.whole.proofs.Flag.{false_true, or_yes, or_left, or_right, and_yes, and_both, lt_true, true_lt}
use Rattle.rules.specs.Ring.{Pt, On, Share}
use Rattle.decide.specs.Side.{side}
use Rattle.decide.proofs.Segment.{no_line, Apart, right, left, right', left', below, above, before, behind, Sep, ahead, after, by_x, by_y, by_edge, by_way}
use Rattle.decide.proofs.On.{on_or_off, off_not_on}
use Rattle.decide.proofs.Share.{pt_eq, share_or_apart, apart_not_share}
use Rattle.decide.specs.Touch.{least, most, ranged, same_side}
use Rattle.decide.proofs.Touch.{same_yes}
use Rattle.decide.proofs.Place.{least_low, most_high, least_of, most_of, range_yes, yes_range}
use Rattle.whole.specs.Decide.{Decides}
use Rattle.whole.proofs.Decide.{decides, decides_not}
use Rattle.footprint.specs.Shape.{equal, parted, boxes_apart, aside, shares, bends}

-- ---- what `||` answers: its first flag, or else its second
pub or_then : (s t : Bool) → s ≡ true → s ≡ (s || t)
or_then true t e = refl
or_then false t e = absurd (false_true e)

pub or_else : (s t : Bool) → s ≡ false → t ≡ (s || t)
or_else true t e = absurd (false_true (sym e))
or_else false t e = refl

-- ---- ranges
parted_yes : (a b c d : ℤ) → parted a b c d ≡ true → Sep a b c d
parted_yes a b c d e =
    ⊎_elim (λ f. first (most_high (least a b) c d (lt_true _ _ f))) (λ f. second (most_high (least c d) a b (lt_true _ _ f)))
    (or_yes (lt_z (most c d) (least a b)) (lt_z (most a b) (least c d)) e)
  where
    first : (c <ℤ least a b) × (d <ℤ least a b) → Sep a b c d
    first h = let k = least_low c a b h.0 in let l = least_low d a b h.1 in ahead k.0 k.1 l.0 l.1

    second : (a <ℤ least c d) × (b <ℤ least c d) → Sep a b c d
    second h = let k = least_low a c d h.0 in let l = least_low b c d h.1 in after k.0 l.0 k.1 l.1

under_parted : (a b c d : ℤ) → c <ℤ a → c <ℤ b → d <ℤ a → d <ℤ b → parted a b c d ≡ true
under_parted a b c d h i j k =
    or_left (lt_z (most c d) (least a b)) (lt_z (most a b) (least c d))
    (true_lt _ _ (most_of (λ z. z <ℤ least a b) c d (least_of (λ z. c <ℤ z) a b h i) (least_of (λ z. d <ℤ z) a b j k)))

over_parted : (a b c d : ℤ) → a <ℤ c → b <ℤ c → a <ℤ d → b <ℤ d → parted a b c d ≡ true
over_parted a b c d h i j k =
    or_right (lt_z (most c d) (least a b)) (lt_z (most a b) (least c d))
    (true_lt _ _ (most_of (λ z. z <ℤ least c d) a b (least_of (λ z. a <ℤ z) c d h j) (least_of (λ z. b <ℤ z) c d i k)))

-- ---- signs
same_minus : (u v : ℤ) → u <ℤ pos 0 → v <ℤ pos 0 → same_side u v ≡ true
same_minus u v h k = or_left _ _ (and_both _ _ (true_lt u (pos 0) h) (true_lt v (pos 0) k))

same_plus : (u v : ℤ) → pos 0 <ℤ u → pos 0 <ℤ v → same_side u v ≡ true
same_plus u v h k = or_right (lt_z u (pos 0) && lt_z v (pos 0)) (lt_z (pos 0) u && lt_z (pos 0) v) (and_both _ _ (true_lt (pos 0) u h) (true_lt (pos 0) v k))

-- ---- two edges
boxes_yes : (a b c d : Pt) → boxes_apart a b c d ≡ true → Apart a b c d
boxes_yes a b c d e =
    ⊎_elim (λ f. by_x a b c d (parted_yes _ _ _ _ f)) (λ f. by_y a b c d (parted_yes _ _ _ _ f)) (or_yes (parted a.x b.x c.x d.x) (parted a.y b.y c.y d.y) e)

-- the flag of what is apart
abbrev apart_flag : Pt → Pt → Pt → Pt → Bool
apart_flag a b c d = boxes_apart a b c d || (aside a b c d || aside c d a b)

flag_apart : (a b c d : Pt) → apart_flag a b c d ≡ true → Apart a b c d
flag_apart a b c d e =
    ⊎_elim (λ f. boxes_yes a b c d f)
    (λ f. ⊎_elim (λ g. by_edge a b c d (same_yes _ _ g)) (λ g. by_way a b c d (same_yes _ _ g)) (or_yes (aside a b c d) (aside c d a b) f))
    (or_yes (boxes_apart a b c d) (aside a b c d || aside c d a b) e)

apart_flag_lem : (a b c d : Pt) → Apart a b c d → apart_flag a b c d ≡ true
apart_flag_lem a b c d (right h k) = or_right (boxes_apart a b c d) _ (or_left (aside a b c d) (aside c d a b) (same_minus _ _ h k))
apart_flag_lem a b c d (left h k) = or_right (boxes_apart a b c d) _ (or_left (aside a b c d) (aside c d a b) (same_plus _ _ h k))
apart_flag_lem a b c d (right' h k) = or_right (boxes_apart a b c d) _ (or_right (aside a b c d) (aside c d a b) (same_minus _ _ h k))
apart_flag_lem a b c d (left' h k) = or_right (boxes_apart a b c d) _ (or_right (aside a b c d) (aside c d a b) (same_plus _ _ h k))
apart_flag_lem a b c d (below h i j k) = or_left (boxes_apart a b c d) _ (or_right (parted a.x b.x c.x d.x) _ (under_parted a.y b.y c.y d.y h i j k))
apart_flag_lem a b c d (above h i j k) = or_left (boxes_apart a b c d) _ (or_right (parted a.x b.x c.x d.x) _ (over_parted a.y b.y c.y d.y h i j k))
apart_flag_lem a b c d (before h i j k) = or_left (boxes_apart a b c d) _ (or_left (parted a.x b.x c.x d.x) _ (under_parted a.x b.x c.x d.x h i j k))
apart_flag_lem a b c d (behind h i j k) = or_left (boxes_apart a b c d) _ (or_left (parted a.x b.x c.x d.x) _ (over_parted a.x b.x c.x d.x h i j k))

pub shares_decides : (a b c d : Pt) → Decides (Share a b c d) (shares a b c d)
shares_decides a b c d =
    decides_not (Share a b c d) (apart_flag a b c d) (λ e. apart_not_share a b c d (flag_apart a b c d e))
    (λ e. ⊎_elim (λ s. s) (λ h. absurd (false_true (sym e ∙ apart_flag_lem a b c d h))) (share_or_apart a b c d))

-- ---- two corners
pub equal_decides : (a b : Pt) → Decides (a ≡ b) (equal a b)
equal_decides a b = decides (a ≡ b) (equal a b) (λ e. yes (and_yes _ _ e)) (λ e. rw e (and_both _ _ (self b.x) (self b.y)))
  where
    level : (u v : ℤ) → ranged u v u ≡ true → u ≡ v
    level u v e = let h = range_yes u v u e in antisym u v h.0 h.1

    yes : (ranged a.x b.x a.x ≡ true) × (ranged a.y b.y a.y ≡ true) → a ≡ b
    yes h = pt_eq a b (level _ _ h.0) (level _ _ h.1)

    self : (u : ℤ) → ranged u u u ≡ true
    self u = yes_range u u u (≤ℤ_refl u) (≤ℤ_refl u)

-- numbers of two corners, compared one by one
pub same_decides : (a b : Pt) → Decides (a ≡ b) (int_eq a.x b.x && int_eq a.y b.y)
same_decides a b =
    let x = Decides-int_eq a.x b.x in
    let y = Decides-int_eq a.y b.y in
    decides (a ≡ b) _ (λ e. let h = and_yes _ _ e in pt_eq a b (x.0 h.0) (y.0 h.1)) (λ p. and_both _ _ (x.1 (ap (λ (q : Pt). q.x) p)) (y.1 (ap (λ (q : Pt). q.y) p)))

-- ---- a point and an edge
no_side : (p a b : Pt) → aside p p a b ≡ false
no_side p a b = rw (no_line p.x p.y a.x a.y)

pub on_decides : (p a b : Pt) → Decides (On p a b) (not (boxes_apart a b p p || aside a b p p))
on_decides p a b =
    decides_not (On p a b) (boxes_apart a b p p || aside a b p p)
    (λ e. off_not_on p a b (flag_apart a b p p (more (boxes_apart a b p p) (aside a b p p) (aside p p a b) e)))
    (λ e. ⊎_elim (λ h. h) (λ h. absurd (false_true (sym e ∙ drop (boxes_apart a b p p) (aside a b p p) (aside p p a b) (no_side p a b) (apart_flag_lem a b p p h)))) (on_or_off p a b))
  where
    more : (s t u : Bool) → (s || t) ≡ true → (s || (t || u)) ≡ true
    more true t u e = refl
    more false true u e = refl
    more false false u e = absurd (false_true e)

    drop : (s t u : Bool) → u ≡ false → (s || (t || u)) ≡ true → (s || t) ≡ true
    drop true t u e f = refl
    drop false true u e f = refl
    drop false false u e f = absurd (false_true (sym e ∙ f))

-- ---- two edges at a corner
turned : (ax ay bx by cx cy : ℤ) → side bx by cx cy ax ay ≡ side ax ay bx by cx cy
turned = vars6 _ λ ρ. simp poly (by_ring _ _ _ tt)

pub bends_decides : (a b c : Pt) → Decides (On a b c ⊎ On c a b) (bends a b c)
bends_decides a b c = go (aside a b c c) (boxes_apart b c a a) (boxes_apart a b c c) (rw (turned a.x a.y b.x b.y c.x c.y) at (on_decides a b c)) (on_decides c a b)
  where
    go : (z s t : Bool) → Decides (On a b c) (not (s || z)) → Decides (On c a b) (not (t || z)) → Decides (On a b c ⊎ On c a b) (not z && (not s || not t))
    go true s t h k = ⊎_elim (off s h) (off t k)
      where
        off : {P : Type 0} (s : Bool) → Decides P (not (s || true)) → P → ⊥
        off true h = h
        off false h = h
    go false true true h k = ⊎_elim h k
    go false true false h k = inr k
    go false false true h k = inl h
    go false false false h k = inl h
