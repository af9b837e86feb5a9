-- The value of a binary32 number as a fraction: comparison is that of the values. Assumes nothing.
use mathlib.Core.Path.{◌≡◌, refl, sym, ap, ◌∙◌}
use mathlib.Core.Bool.{Bool, true, false, true≢false}
use Prim.Native.Nat.{ℕ, suc, ◌+◌, ◌*◌, ◌≤◌}
use native.Mathlib.Omega.{arith}
use lib.Dec.{T, eqb, eqb→eq}
use lib.IntN.{ℤ, pos, negsuc, neg_ℤ, ◌*ℤ◌}
use lib.Signed.{◌≤ℤ◌, ◌<ℤ◌}
use lib.Ieee.{Float, nan, inf, fin, below, level, lt, eq, up, down}
use lib.Ieee.Fits.{and_l, and_r, and_i, eq→eqb}
use borrow.Author.Tests.{ltb-true, ltb-false}
use Rattle.whole.specs.Fraction.{Frac, ◌≼◌, ◌≺◌, ◌≈◌, whole}
use Rattle.whole.proofs.Difference.{◌⊖◌, pos_⊖, neg_⊖, ring}
use Rattle.whole.proofs.Order.{antisym, eq_le}
use Rattle.whole.proofs.Flag.{yes_of, no_of}
use Rattle.whole.proofs.Fraction.{trans, le_then_lt, lt_then_le}
use Rattle.grid.specs.Number.{signed, value, Is, Within}

-- ---- a signed size
pub minus_⊖ : (a : ℕ) → signed true a ≡ 0 ⊖ a
minus_⊖ a = ap neg_ℤ (pos_⊖ a) ∙ neg_⊖ a 0

pub signed_mul : (s : Bool) (a d : ℕ) → signed s (a * d) ≡ signed s a *ℤ pos d
signed_mul false a d = refl
signed_mul true a d = simp (minus_⊖, ring) (omega arith)

-- a value between -n and n has a size of at most n
pub size_within : (n : ℕ) (s : Bool) (a d : ℕ) → (negsuc n *ℤ pos d) ≤ℤ (signed s a *ℤ pos 1) → (signed s a *ℤ pos 1) ≤ℤ (pos (suc n) *ℤ pos d) → a ≤ suc n * d
size_within n true a d h k = let l = simp (minus_⊖, ring) at h in omega arith
size_within n false a d h k = let l = simp ring at k in omega arith

-- ---- the machine's comparison of two sizes with signs
below_yes : (s : Bool) (a : ℕ) (t : Bool) (b : ℕ) → below s a t b ≡ true → signed s a <ℤ signed t b
below_yes false a false b e = let h = ltb-true a b e in simp ring (omega arith)
below_yes false a true b e = absurd (true≢false (sym e))
below_yes true a false b e = let h = ltb-true 0 (a + b) e in simp (minus_⊖, ring) (omega arith)
below_yes true a true b e = let h = ltb-true b a e in simp (minus_⊖, ring) (omega arith)

below_no : (s : Bool) (a : ℕ) (t : Bool) (b : ℕ) → below s a t b ≡ false → signed t b ≤ℤ signed s a
below_no false a false b e = let h = ltb-false a b e in simp ring (omega arith)
below_no false a true b e = simp (minus_⊖, ring) (omega arith)
below_no true a false b e = let h = ltb-false 0 (a + b) e in simp (minus_⊖, ring) (omega arith)
below_no true a true b e = let h = ltb-false b a e in simp (minus_⊖, ring) (omega arith)

level_yes : (s : Bool) (a : ℕ) (t : Bool) (b : ℕ) → T (level s a t b) → signed s a ≡ signed t b
level_yes false a false b h = ap pos (eqb→eq a b (and_l (eqb a b) true h))
level_yes true a true b h = ap (λ (n : ℕ). neg_ℤ (pos n)) (eqb→eq a b (and_l (eqb a b) true h))
level_yes false a true b h =
    let p : a ≡ b = eqb→eq a b (and_l (eqb a b) (eqb a 0) h) in
    let z : a ≡ 0 = eqb→eq a 0 (and_r (eqb a b) (eqb a 0) h) in
    simp (minus_⊖, ring) (omega arith)
level_yes true a false b h =
    let p : a ≡ b = eqb→eq a b (and_l (eqb a b) (eqb a 0) h) in
    let z : a ≡ 0 = eqb→eq a 0 (and_r (eqb a b) (eqb a 0) h) in
    simp (minus_⊖, ring) (omega arith)

unsigned : (s t : Bool) (a b : ℕ) → signed s a ≡ signed t b → a ≡ b
unsigned false false a b e = let h = simp ring at e in omega arith
unsigned true true a b e = let h = simp (minus_⊖, ring) at e in omega arith
unsigned false true a b e = let h = simp (minus_⊖, ring) at e in omega arith
unsigned true false a b e = let h = simp (minus_⊖, ring) at e in omega arith

unlike_zero : (a b : ℕ) → signed true a ≡ signed false b → a ≡ 0
unlike_zero a b e = let h = simp (minus_⊖, ring) at e in omega arith

level_back : (s : Bool) (a : ℕ) (t : Bool) (b : ℕ) → signed s a ≡ signed t b → T (level s a t b)
level_back false a false b e = and_i (eqb a b) true (eq→eqb (unsigned false false a b e)) tt
level_back true a true b e = and_i (eqb a b) true (eq→eqb (unsigned true true a b e)) tt
level_back false a true b e = and_i (eqb a b) (eqb a 0) (eq→eqb (unsigned false true a b e)) (eq→eqb (unsigned false true a b e ∙ unlike_zero b a (sym e)))
level_back true a false b e = and_i (eqb a b) (eqb a 0) (eq→eqb (unsigned true false a b e)) (eq→eqb (unlike_zero a b e))

-- ---- equal fractions
pub ≈-≼ : (s t : Frac) → s ≈ t → s ≼ t
≈-≼ s t e = eq_le _ _ e

pub ≈_sym : (s t : Frac) → s ≈ t → t ≈ s
≈_sym s t e = sym e

pub ≈_of : (s t : Frac) → s ≼ t → t ≼ s → s ≈ t
≈_of s t h k = antisym _ _ h k

pub ≈_trans : (s t u : Frac) → s ≈ t → t ≈ u → s ≈ u
≈_trans s t u h k = ≈_of s u (trans s t u (≈-≼ s t h) (≈-≼ t u k)) (trans u t s (≈-≼ u t (≈_sym t u k)) (≈-≼ t s (≈_sym s t h)))

module _ (x y u v : Frac) (p : x ≈ u) (q : y ≈ v) where
  pub ≺_by : x ≺ y → u ≺ v
  ≺_by h = le_then_lt u x v (≈-≼ u x (≈_sym x u p)) (lt_then_le x y v h (≈-≼ y v q))

  pub ≼_by : x ≼ y → u ≼ v
  ≼_by h = trans u x v (≈-≼ u x (≈_sym x u p)) (trans x y v h (≈-≼ y v q))

-- ---- a value may be written in any way
pub is_same : (x : Float) (u v : Frac) → u ≈ v → Is x u → Is x v
is_same nan u v e i = i
is_same (inf s) u v e i = i
is_same (fin s m e) u v h i = ≈_trans (value s m e) u v i h

pub within_same : (u v : Frac) → u ≈ v → Within u → Within v
within_same u v e w =
    record {
      least = trans (whole (negsuc 1023)) u v w.least (≈-≼ u v e);
      most = trans v u (whole (pos 1024)) (≈-≼ v u (≈_sym u v e)) w.most;
    }

-- ---- the comparison of two finite numbers is that of their values
cross : (s : Bool) (m : ℕ) (e d : ℤ) → signed s (m * up e * down d) ≡ (value s m e).num *ℤ pos (down d)
cross s m e d = signed_mul s (m * up e) (down d)

module _ (u v : Frac) where
  pub lt_yes : (x y : Float) → Is x u → Is y v → lt x y ≡ true → u ≺ v
  unfolding lt
  lt_yes (fin s m e) (fin t n d) p q h =
      ≺_by (value s m e) (value t n d) u v p q (rw (cross s m e d, cross t n d e) at (below_yes s (m * up e * down d) t (n * up d * down e) h))
  lt_yes (fin s m e) nan p q h = absurd q
  lt_yes (fin s m e) (inf t) p q h = absurd q
  lt_yes nan y p q h = absurd p
  lt_yes (inf s) y p q h = absurd p

  pub lt_no : (x y : Float) → Is x u → Is y v → lt x y ≡ false → v ≼ u
  unfolding lt
  lt_no (fin s m e) (fin t n d) p q h =
      ≼_by (value t n d) (value s m e) v u q p (rw (cross s m e d, cross t n d e) at (below_no s (m * up e * down d) t (n * up d * down e) h))
  lt_no (fin s m e) nan p q h = absurd q
  lt_no (fin s m e) (inf t) p q h = absurd q
  lt_no nan y p q h = absurd p
  lt_no (inf s) y p q h = absurd p

  pub eq_yes : (x y : Float) → Is x u → Is y v → eq x y ≡ true → u ≈ v
  unfolding eq
  eq_yes (fin s m e) (fin t n d) p q h =
      let x = value s m e in
      let y = value t n d in
      let w : x ≈ y = rw (cross s m e d, cross t n d e) at (level_yes s (m * up e * down d) t (n * up d * down e) (yes_of (eq (fin s m e) (fin t n d)) h)) in
      ≈_of u v (≼_by x y u v p q (≈-≼ x y w)) (≼_by y x v u q p (≈-≼ y x (≈_sym x y w)))
  eq_yes (fin s m e) nan p q h = absurd q
  eq_yes (fin s m e) (inf t) p q h = absurd q
  eq_yes nan y p q h = absurd p
  eq_yes (inf s) y p q h = absurd p

  pub eq_no : (x y : Float) → Is x u → Is y v → eq x y ≡ false → u ≼ v → v ≼ u → ⊥
  unfolding eq
  eq_no (fin s m e) (fin t n d) p q h i j =
      let x = value s m e in
      let y = value t n d in
      let w : x ≈ y = ≈_of x y (≼_by u v x y (≈_sym x u p) (≈_sym y v q) i) (≼_by v u y x (≈_sym y v q) (≈_sym x u p) j) in
      no_of (eq (fin s m e) (fin t n d)) h
      (level_back s (m * up e * down d) t (n * up d * down e) (cross s m e d ∙ w ∙ sym (cross t n d e)))
  eq_no (fin s m e) nan p q h i j = absurd q
  eq_no (fin s m e) (inf t) p q h i j = absurd q
  eq_no nan y p q h i j = absurd p
  eq_no (inf s) y p q h i j = absurd p
