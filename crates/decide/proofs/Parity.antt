-- A place is at most one of three: on, or by the parity of the crossing flags; scaling and shifting all do not change what contact asks of it. Assumes nothing.
use mathlib.Core.Path.{◌≡◌, refl, sym, ap, ◌∙◌}
use mathlib.Core.Logic.{inl, inr, ⊎_elim}
use mathlib.Core.Bool.{Bool, true, false, cond}
use Prim.Native.Nat.{ℕ, zero, suc, ◌%◌}
use native.Mathlib.Omega.{arith}
use lib.IntN.{ℤ, pos, ◌+ℤ◌, ◌*ℤ◌, zero-*ℤ}
use lib.Signed.{◌≤ℤ◌, ◌<ℤ◌, le_z, lt_z, lt_z_yes}
use Rattle.whole.proofs.Difference.{all4, ring}
use Rattle.whole.proofs.Order.{pos_mul, mul_mono, mul_mono_lt, cancel, cancel_lt, lt_le}
use Rattle.whole.proofs.Flag.{same_flag, decided, false_true}
use Rattle.whole.proofs.Polynomial.{vars9, poly, by_ring}
use Rattle.rules.specs.Ring.{Pt, Ring, from, to}
use Rattle.rules.specs.Place.{OnRing, Counted, Count, start, more, pass, Where, on, inside, outside, Parity, Place, OnOrInside}
use Rattle.decide.specs.Side.{side_of, side}
use Rattle.decide.specs.Crossing.{counts, xor, crosses, flag, parity}
use Rattle.decide.proofs.Crossing.{xor_unit, parity_ext}
use Rattle.decide.proofs.Counted.{counted_yes, yes_counted}
use Rattle.decide.proofs.On.{move, on_move, on_unmove}

-- ---- the count and the flags
abbrev pub bit : Bool → ℕ
bit true = 1
bit false = 0

flipped : (k : ℕ) (t : Bool) → k % 2 ≡ bit t → suc k % 2 ≡ bit (xor t true)
flipped k true e = omega arith
flipped k false e = omega arith

not_counted : (r : Ring) (p : Pt) (n : ℕ) → flag r p n ≡ false → Counted r p n → ⊥
not_counted r p n e c = false_true (sym e ∙ counted_yes p (from r n) (to r n) c.0 c.1)

-- the remainder of the count is the parity of the flags
pub count_parity : (r : Ring) (p : Pt) (n k : ℕ) → Count r p n k → k % 2 ≡ bit (parity (flag r p) n)
unfolding parity
count_parity r p zero zero start = refl
count_parity r p zero (suc k) c = elim c [ ]
count_parity r p (suc n) (suc k) (more c h) = flipped k (parity (flag r p) n) (count_parity r p n k h)
    ∙ ap (λ t. bit (xor (parity (flag r p) n) t)) (sym (counted_yes p (from r n) (to r n) c.0 c.1))
count_parity r p (suc n) k (pass f h) =
    ⊎_elim (λ e. absurd (f (yes_counted p (from r n) (to r n) e))) (λ e. count_parity r p n k h ∙ ap bit (sym (ap (λ t. xor (parity (flag r p) n) t) e ∙ xor_unit (parity (flag r p) n))))
    (decided (flag r p n))

-- how many of the first n edges are counted
unfoldable pub tally : Ring → Pt → ℕ → ℕ
tally r p zero = 0
tally r p (suc n) = cond (flag r p n) (suc (tally r p n)) (tally r p n)

pub tally_counts : (r : Ring) (p : Pt) (n : ℕ) → Count r p n (tally r p n)
unfolding tally
tally_counts r p zero = start
tally_counts r p (suc n) =
    ⊎_elim (λ e. rw e (more (yes_counted p (from r n) (to r n) e) (tally_counts r p n))) (λ e. rw e (pass (not_counted r p n e) (tally_counts r p n)))
    (decided (flag r p n))

-- off the ring, the parity of the flags says the place
pub parity_place : (r : Ring) (p : Pt) → (OnRing r p → ⊥) → Parity r p (bit (parity (flag r p) r.size))
parity_place r p f = let c = tally_counts r p r.size in record { off = f; count = tally r p r.size; counts = c; parity = count_parity r p r.size _ c }

pub place_parity : (r : Ring) (p : Pt) (rest : ℕ) → Parity r p rest → rest ≡ bit (parity (flag r p) r.size)
place_parity r p rest h = sym h.parity ∙ count_parity r p r.size h.count h.counts

-- ---- at most one of three
-- the two remainders differ
pub zero_one : {n : ℕ} → 0 ≡ n → 1 ≡ n → ⊥
zero_one e f = omega arith

pub one_place : (r : Ring) (p : Pt) (v w : Where) → Place r p v → Place r p w → v ≡ w
one_place r p on on h k = refl
one_place r p on inside h k = absurd (k.off h)
one_place r p on outside h k = absurd (k.off h)
one_place r p inside on h k = absurd (h.off k)
one_place r p inside inside h k = refl
one_place r p inside outside h k = absurd (zero_one (place_parity r p 0 k) (place_parity r p 1 h))
one_place r p outside on h k = absurd (h.off k)
one_place r p outside inside h k = absurd (zero_one (place_parity r p 0 h) (place_parity r p 1 k))
one_place r p outside outside h k = refl

-- ---- scaled and shifted
module _ (k : ℤ) (s : Pt) (l : pos 0 <ℤ k) where
  le_moved : (t a b : ℤ) → le_z (k *ℤ a +ℤ t) (k *ℤ b +ℤ t) ≡ le_z a b
  le_moved t a b =
      same_flag _ _ (λ h. (cancel a b k l (down k t a b (record { le = h }))).le) (λ h. (up k t a b (mul_mono a b k (record { le = h }) (lt_le _ _ l))).le)
    where
      down : (k t a b : ℤ) → (k *ℤ a +ℤ t) ≤ℤ (k *ℤ b +ℤ t) → (a *ℤ k) ≤ℤ (b *ℤ k)
      down = all4 _ λ a a' b b' c c' d d'. simp ring (omega arith)

      up : (k t a b : ℤ) → (a *ℤ k) ≤ℤ (b *ℤ k) → (k *ℤ a +ℤ t) ≤ℤ (k *ℤ b +ℤ t)
      up = all4 _ λ a a' b b' c c' d d'. simp ring (omega arith)

  side_moved : (k sx sy ax ay bx by px py : ℤ) → side (k *ℤ ax +ℤ sx) (k *ℤ ay +ℤ sy) (k *ℤ bx +ℤ sx) (k *ℤ by +ℤ sy) (k *ℤ px +ℤ sx) (k *ℤ py +ℤ sy) ≡ side ax ay bx by px py *ℤ (k *ℤ k)
  side_moved = vars9 _ λ ρ. simp poly (by_ring _ _ _ tt)

  -- a positive factor does not change a sign
  neg_scaled : (c z : ℤ) → pos 0 <ℤ c → lt_z (z *ℤ c) (pos 0) ≡ lt_z z (pos 0)
  neg_scaled c z h = same_flag _ _ (λ t. (cancel_lt z (pos 0) c h (rw (zero-*ℤ c) (lt_z_yes t))).lt) (λ t. (rw (zero-*ℤ c) at (mul_mono_lt z (pos 0) c (lt_z_yes t) h)).lt)

  pos_scaled : (c z : ℤ) → pos 0 <ℤ c → lt_z (pos 0) (z *ℤ c) ≡ lt_z (pos 0) z
  pos_scaled c z h = same_flag _ _ (λ t. (cancel_lt (pos 0) z c h (rw (zero-*ℤ c) (lt_z_yes t))).lt) (λ t. (rw (zero-*ℤ c) at (mul_mono_lt (pos 0) z c (lt_z_yes t) h)).lt)

  counts_scaled : (s t : Bool) (c z : ℤ) → pos 0 <ℤ c → counts s t (z *ℤ c) ≡ counts s t z
  counts_scaled true true c z h = refl
  counts_scaled true false c z h = neg_scaled c z h
  counts_scaled false true c z h = pos_scaled c z h
  counts_scaled false false c z h = refl

  crosses_moved : (a b p : Pt) → crosses (move k s a) (move k s b) (move k s p) ≡ crosses a b p
  crosses_moved a b p =
      rw (le_moved s.x a.x p.x, le_moved s.x b.x p.x, side_moved k s.x s.y a.x a.y b.x b.y p.x p.y)
      (counts_scaled (le_z a.x p.x) (le_z b.x p.x) (k *ℤ k) (side_of a b p) (pos_mul k k l l))

  -- the ring with each corner moved
  abbrev pub moved : Ring → Ring
  moved r = record { size = r.size; at = λ i. move k s (r.at i) }

  pub same_flags : (r : Ring) (p : Pt) → parity (flag (moved r) (move k s p)) r.size ≡ parity (flag r p) r.size
  same_flags r p = parity_ext _ _ r.size (λ i h. crosses_moved (from r i) (to r i) p)

  on_moved : (r : Ring) (p : Pt) → OnRing r p → OnRing (moved r) (move k s p)
  on_moved r p h = record { edge = h.edge; below = h.below; on = on_move k s p (from r h.edge) (to r h.edge) h.on }

  on_unmoved : (r : Ring) (p : Pt) → OnRing (moved r) (move k s p) → OnRing r p
  on_unmoved r p h = record { edge = h.edge; below = h.below; on = on_unmove k s p (from r h.edge) (to r h.edge) l h.on }

  parity_moved : (r : Ring) (p : Pt) (rest : ℕ) → Parity r p rest → Parity (moved r) (move k s p) rest
  parity_moved r p rest h = rw (place_parity r p rest h ∙ ap bit (sym (same_flags r p))) (parity_place (moved r) (move k s p) (λ q. h.off (on_unmoved r p q)))

  parity_unmoved : (r : Ring) (p : Pt) (rest : ℕ) → Parity (moved r) (move k s p) rest → Parity r p rest
  parity_unmoved r p rest h = rw (place_parity (moved r) (move k s p) rest h ∙ ap bit (same_flags r p)) (parity_place r p (λ q. h.off (on_moved r p q)))

  pub met_moved : (r : Ring) (p : Pt) → OnOrInside r p → OnOrInside (moved r) (move k s p)
  met_moved r p h = ⊎_elim (λ e. inl (on_moved r p e)) (λ e. inr (parity_moved r p 1 e)) h

  pub met_unmoved : (r : Ring) (p : Pt) → OnOrInside (moved r) (move k s p) → OnOrInside r p
  met_unmoved r p h = ⊎_elim (λ e. inl (on_unmoved r p e)) (λ e. inr (parity_unmoved r p 1 e)) h
