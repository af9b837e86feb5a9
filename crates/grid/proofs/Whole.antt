-- The whole number at or below a scaled number: the one next to it, and one less where that is above it. Assumes nothing.
use mathlib.Core.Path.{◌≡◌, sym, subst}
use mathlib.Core.Bool.{Bool, true, false}
use Prim.Native.Nat.{ℕ, ◌+◌, ◌*◌, ◌^◌, ◌≤◌, ◌<◌}
use native.Mathlib.Omega.{arith}
use lib.Dec.{T, le→leb, lt→ltb}
use lib.IntN.{ℤ, pos, negsuc, nat_abs, ◌+ℤ◌, ◌-ℤ◌, ◌*ℤ◌}
use lib.Signed.{◌≤ℤ◌, ◌<ℤ◌}
use mir.Syntax.{w32}
use mir.Val.{SFits, to_z, of_z}
use lib.Ieee.{Float, nan, inf, fin, binary32, up, down, add, lt, to_signed, of_int, in_float, in_signed}
use lib.Ieee.Back.{positive_back}
use lib.Ieee.Casts.{to_signed_in}
use lib.Ieee.Nearest.{closest}
use Rattle.whole.specs.Fraction.{Frac, ◌≺◌, whole}
use Rattle.whole.proofs.Difference.{all, all3, ring}
use Rattle.whole.proofs.Order.{lt_le}
use Rattle.whole.proofs.Range.{abs_by, abs_add, fits, field}
use Rattle.whole.proofs.Fraction.{trans, le_then_lt, lt_then_le}
use Rattle.grid.specs.Number.{signed, value, Is, Bounded, AtOrBelow}
use Rattle.grid.proofs.Value.{minus_⊖, size_within, ≈-≼, ≈_sym, lt_yes, lt_no}
use Rattle.grid.proofs.Exact.{int_is}
use Rattle.grid.proofs.Raised.{raise, lifted, Raised, raised}

-- ---- its size
sized : (s : Bool) (m : ℕ) (e : ℤ) → Bounded (fin s m e) → m * up e ≤ 16384 * down e
sized s m e r =
    let v = value s m e in
    let w = r.worth in
    size_within 16383 s (m * up e) (down e)
    (trans (whole (negsuc 16383)) w v r.least (≈-≼ w v (≈_sym v w r.is)))
    (trans v w (whole (pos 16384)) (≈-≼ v w r.is) r.most)

-- ---- raised, and brought down again
-- t is less than one away
pub record Near (v : Frac) (t : ℤ) : Type 0 where
  pub small : nat_abs t ≤ 16384
  pub low : whole (t -ℤ pos 1) ≺ v
  pub high : v ≺ whole (t +ℤ pos 1)

-- the raised sum, as the cast reads it, and the whole number next to the scaled one
abbrev pub cast : Float → ℤ
cast g = to_signed 31 (add binary32 g raise)

abbrev pub next : Float → ℤ
next g = cast g -ℤ pos 12582912

-- (`pos q -ℤ pos 1` computes half way: so whole numbers stand in these)
down_low : (q d a : ℤ) → (q *ℤ d) <ℤ ((a +ℤ (pos 12582912 *ℤ d)) +ℤ d) → (((q -ℤ pos 12582912) -ℤ pos 1) *ℤ d) <ℤ (a *ℤ pos 1)
down_low = all3 _ λ q q' d d' a a'. simp ring (omega arith)

down_high : (q d a : ℤ) → (a +ℤ (pos 12582912 *ℤ d)) <ℤ ((q +ℤ pos 1) *ℤ d) → (a *ℤ pos 1) <ℤ (((q -ℤ pos 12582912) +ℤ pos 1) *ℤ d)
down_high = all3 _ λ q q' d d' a a'. simp ring (omega arith)

down_least : (q : ℤ) → pos 12566528 ≤ℤ q → negsuc 16383 ≤ℤ (q -ℤ pos 12582912)
down_least = all _ λ q q'. simp ring (omega arith)

down_most : (q : ℤ) → q ≤ℤ pos 12599296 → (q -ℤ pos 12582912) ≤ℤ pos 16384
down_most = all _ λ q q'. simp ring (omega arith)

-- the same of the sum over d
sum_low : (s : Bool) (a d q : ℕ) → a ≤ 16384 * d → q * d < lifted s a d + d → (pos q *ℤ pos d) <ℤ ((signed s a +ℤ (pos 12582912 *ℤ pos d)) +ℤ pos d)
sum_low true a d q k h = simp (minus_⊖, ring) (omega arith)
sum_low false a d q k h = simp ring (omega arith)

sum_high : (s : Bool) (a d q : ℕ) → a ≤ 16384 * d → lifted s a d < (q + 1) * d → (signed s a +ℤ (pos 12582912 *ℤ pos d)) <ℤ ((pos q +ℤ pos 1) *ℤ pos d)
sum_high true a d q k h = simp (minus_⊖, ring) (omega arith)
sum_high false a d q k h = simp ring (omega arith)

brought : (s : Bool) (m : ℕ) (e : ℤ) (q : ℕ) → m * up e ≤ 16384 * down e → Raised s m e q → Near (value s m e) (pos q -ℤ pos 12582912)
brought s m e q k r =
    let a = m * up e in
    let d = down e in
    let l = r.least in
    let h = r.most in
    record {
      small = abs_by 16384 (pos q -ℤ pos 12582912) (down_least (pos q) (simp ring (omega arith))) (down_most (pos q) (simp ring (omega arith)));
      low = down_low (pos q) (pos d) (signed s a) (sum_low s a d q k r.low);
      high = down_high (pos q) (pos d) (signed s a) (sum_high s a d q k r.high);
    }

-- what the cast asks, and what it reads
record Cast (q : ℕ) : Type 0 where
  asked : T (in_signed binary32 31 (of_int binary32 (pos q)))
  told : to_signed 31 (of_int binary32 (pos q)) ≡ pos q

cast_whole : (q : ℕ) → q ≤ 12599296 → Cast q
unfolding in_float
cast_whole q h = let b = positive_back binary32 31 q (le→leb q (2 ^ 24) (omega arith)) (omega arith) in record { asked = b.0; told = b.1 }

pub asks : (g : Float) → Bounded g → T (in_signed binary32 31 (add binary32 g raise))
asks nan r = absurd r.is
asks (inf s) r = absurd r.is
asks (fin s m e) r = let u = raised s m e (sized s m e r) in rw u.is (cast_whole _ u.most).asked

pub near : (g : Float) → Bounded g → (v : Frac) → Is g v → Near v (next g)
near nan r v i = absurd i
near (inf s) r v i = absurd i
near (fin s m e) r v i =
    let x = value s m e in
    let q = closest (lifted s (m * up e) (down e)) (down e) in
    let u = raised s m e (sized s m e r) in
    let n = brought s m e q (sized s m e r) u in
    rw (u.is, (cast_whole q u.most).told)
    record {
      small = n.small;
      low = lt_then_le (whole ((pos q -ℤ pos 12582912) -ℤ pos 1)) x v n.low (≈-≼ x v i);
      high = le_then_lt v x (whole ((pos q -ℤ pos 12582912) +ℤ pos 1)) (≈-≼ v x (≈_sym x v i)) n.high;
    }

-- ---- at or below: the number next to it, or the one before that
pub floor_next : (g : Float) (v : Frac) (t : ℤ) → Is g v → Near v t → lt g (of_int binary32 t) ≡ false → AtOrBelow v t
floor_next g v t i n e = record { low = lt_no v (whole t) g (of_int binary32 t) i (int_is t (omega arith)) e; high = n.high }

pub floor_less : (g : Float) (v : Frac) (t : ℤ) → Is g v → Near v t → lt g (of_int binary32 t) ≡ true → AtOrBelow v (t -ℤ pos 1)
floor_less g v t i n e =
    record {
      low = lt_le _ _ n.low;
      high = subst (λ (z : ℤ). v ≺ whole z) (sym (back t)) (lt_yes v (whole t) g (of_int binary32 t) i (int_is t (omega arith)) e);
    }
  where
    back : (t : ℤ) → (t -ℤ pos 1) +ℤ pos 1 ≡ t
    back = all _ λ a a'. simp ring (omega arith)

-- ---- what the machine makes of it: read back
pub next_small : (g : Float) → Bounded g → nat_abs (next g) ≤ 16384
next_small g r = (near g r r.worth r.is).small

pub cast_read : (g : Float) → to_z w32 (of_z w32 (cast g)) ≡ cast g
cast_read g = field w32 (cast g) (to_signed_in 31 (add binary32 g raise))

pub small_fits : (t : ℤ) → nat_abs t ≤ 16384 → SFits w32 t
small_fits t h = fits w32 t (omega arith)

pub in_float_lem : (t : ℤ) → nat_abs t ≤ 16384 → T (in_float binary32 t)
unfolding in_float
in_float_lem (pos n) h = le→leb n (2 ^ 24) (omega arith)
in_float_lem (negsuc n) h = lt→ltb n (2 ^ 24) (omega arith)

pub sum_fits : (t k : ℤ) → nat_abs t ≤ 16384 → nat_abs k ≤ 16384 → SFits w32 (t +ℤ k)
sum_fits t k h l = fits w32 (t +ℤ k) (omega (arith, abs_add t k))
