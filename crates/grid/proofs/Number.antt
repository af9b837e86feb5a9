-- What the tests of one number say of its answer. Assumes nothing.
use mathlib.Core.Path.{◌≡◌, refl, sym}
use mathlib.Core.Bool.{true, false, true≢false}
use Prim.Native.Nat.{ℕ, ◌≤◌}
use native.Mathlib.Omega.{arith}
use lib.IntN.{ℤ, pos, negsuc, nat_abs, ◌+ℤ◌, ◌*ℤ◌}
use lib.Signed.{◌≤ℤ◌, ◌<ℤ◌}
use lib.Ieee.{Float, nan, inf, fin, binary32, lt, eq, is_nan, mul, of_int}
use Rattle.whole.specs.Fraction.{Frac, ◌≈◌, whole}
use Rattle.whole.proofs.Difference.{all, all2, all3, ring}
use Rattle.whole.proofs.Order.{cancel, cancel_next}
use Rattle.whole.proofs.Range.{abs_by}
use Rattle.whole.proofs.Fraction.{trans, less, apart, le_then_lt, lt_then_le}
use Rattle.rules.specs.Reach.{Reach}
use Rattle.grid.specs.declared.Taken.TheVariants.{Grid, OffGrid, NotNumber, Beyond}
use Rattle.grid.specs.declared.Taken.{Taken}
use Rattle.grid.specs.Number.{value, Is, grid, Within, Worth, Answer, sixteenfold, Scaled, Bounded, Floored}
use Rattle.grid.proofs.Value.{≈-≼, ≈_sym, ≈_trans, within_same, lt_yes, lt_no, eq_yes, eq_no}
use Rattle.grid.proofs.Exact.{int_is, export}

-- the numbers of the code, by their values
abbrev pub lowest : Float
lowest = fin true 1 (pos 10)

abbrev pub highest : Float
highest = fin false 1 (pos 10)

abbrev pub sixteenth : Float
sixteenth = fin false 1 (negsuc 3)

-- ---- the answer of a number is that of its value, however this is written
pub worth_same : (u v : Frac) → u ≈ v → (t : Taken) → Worth u t → Worth v t
worth_same u v e (Grid k) h = (within_same u v e h.0, ≈_trans (grid k) u v h.1 e)
worth_same u v e (OffGrid w) h =
    let o = h.1 in (
      within_same u v e h.0,
      record {
        k = o.k;
        above = lt_then_le (grid o.k) u v o.above (≈-≼ u v e);
        next = le_then_lt v u (grid (o.k +ℤ pos 1)) (≈-≼ v u (≈_sym u v e)) o.next;
        export = o.export;
      },
    )
worth_same u v e NotNumber h = h
worth_same u v e Beyond h = λ w. h (within_same v u (≈_sym u v e) w)

module _ (v : Frac) (t : Taken) where
  pub answer_of : (x : Float) → Is x v → Worth v t → Answer x t
  answer_of nan i h = absurd i
  answer_of (inf s) i h = absurd i
  answer_of (fin s m e) i h = worth_same v (value s m e) (≈_sym (value s m e) v i) t h

  pub answer_worth : (x : Float) → Is x v → Answer x t → Worth v t
  answer_worth nan i h = absurd i
  answer_worth (inf s) i h = absurd i
  answer_worth (fin s m e) i h = worth_same (value s m e) v i t h

-- ---- not a number, and out of reach
pub not_number : (x : Float) → is_nan x ≡ true → Answer x NotNumber
unfolding is_nan
not_number nan e = refl
not_number (inf s) e = absurd (true≢false (sym e))
not_number (fin s m e) h = absurd (true≢false (sym h))

pub below_reach : (x : Float) → lt x lowest ≡ true → Answer x Beyond
unfolding lt
below_reach nan e = absurd (true≢false (sym e))
below_reach (inf s) e = refl
below_reach (fin s m e) h =
    λ w. apart (value s m e) (whole (negsuc 1023)) (lt_yes (value s m e) (whole (negsuc 1023)) (fin s m e) lowest refl refl h) w.least

pub above_reach : (x : Float) → lt highest x ≡ true → Answer x Beyond
unfolding lt
above_reach nan e = absurd (true≢false (sym e))
above_reach (inf s) e = refl
above_reach (fin s m e) h =
    λ w. apart (whole (pos 1024)) (value s m e) (lt_yes (whole (pos 1024)) (value s m e) highest (fin s m e) refl refl h) w.most

-- ---- within reach
pub record Inside (x : Float) : Type 0 where
  pub worth : Frac
  pub is : Is x worth
  pub within : Within worth

pub inside : (x : Float) → is_nan x ≡ false → lt x lowest ≡ false → lt highest x ≡ false → Inside x
unfolding lt is_nan
inside nan n l h = absurd (true≢false n)
inside (inf true) n l h = absurd (true≢false l)
inside (inf false) n l h = absurd (true≢false h)
inside (fin s m e) n l h =
    let v = value s m e in
    record {
      worth = v;
      is = refl;
      within = record {
        least = lt_no v (whole (negsuc 1023)) (fin s m e) lowest refl refl l;
        most = lt_no (whole (pos 1024)) v highest (fin s m e) refl refl h;
      };
    }

-- ---- sixteen times it
times_low : (n d : ℤ) → (negsuc 1023 *ℤ d) ≤ℤ (n *ℤ pos 1) → (negsuc 16383 *ℤ d) ≤ℤ ((n *ℤ pos 16) *ℤ pos 1)
times_low = all2 _ λ n n' d d'. simp ring (omega arith)

times_high : (n d : ℤ) → (n *ℤ pos 1) ≤ℤ (pos 1024 *ℤ d) → ((n *ℤ pos 16) *ℤ pos 1) ≤ℤ (pos 16384 *ℤ d)
times_high = all2 _ λ n n' d d'. simp ring (omega arith)

pub bounded : (x g : Float) → Inside x → Scaled x g → Bounded g
bounded x g r sc =
    let v = r.worth in
    record {
      worth = sixteenfold v;
      is = sc v r.is r.within;
      least = times_low v.num v.den r.within.least;
      most = times_high v.num v.den r.within.most;
    }

-- ---- on the grid, and off it
times_eq : (k n d : ℤ) → k *ℤ d ≡ (n *ℤ pos 16) *ℤ pos 1 → k *ℤ d ≡ n *ℤ pos 16
times_eq = all3 _ λ k k' n n' d d'. simp ring (omega arith)

times_above : (k n d : ℤ) → (k *ℤ d) <ℤ ((n *ℤ pos 16) *ℤ pos 1) → (k *ℤ d) <ℤ (n *ℤ pos 16)
times_above = all3 _ λ k k' n n' d d'. simp ring (omega arith)

times_next : (k n d : ℤ) → ((n *ℤ pos 16) *ℤ pos 1) <ℤ (k *ℤ d) → (n *ℤ pos 16) <ℤ (k *ℤ d)
times_next = all3 _ λ k k' n n' d d'. simp ring (omega arith)

module _ (x g : Float) (k : ℤ) (r : Inside x) (sc : Scaled x g) (f : Floored g k) where
  abbrev v : Frac
  v = r.worth

  is_sixteenfold : Is g (sixteenfold v)
  is_sixteenfold = sc v r.is r.within

  pub floor_small : nat_abs k ≤ 16384
  floor_small =
      let b = bounded x g r sc in
      let w = b.worth in
      let h = f w b.is in
      abs_by 16384 k
      (cancel_next (negsuc 16383) k (pos 1) (whole k).some (le_then_lt (whole (negsuc 16383)) w (whole (k +ℤ pos 1)) b.least h.high))
      (cancel k (pos 16384) (pos 1) (whole k).some (trans (whole k) w (whole (pos 16384)) h.low b.most))

  is_whole_lem : Is (of_int binary32 k) (whole k)
  is_whole_lem = int_is k (omega (arith, floor_small))

  pub on_grid : eq (of_int binary32 k) g ≡ true → Answer x (Grid k)
  on_grid q =
      answer_of v (Grid k) x r.is
      (r.within, times_eq k v.num v.den (eq_yes (whole k) (sixteenfold v) (of_int binary32 k) g is_whole_lem is_sixteenfold q))

  pub off_grid : eq (of_int binary32 k) g ≡ false → Answer x (OffGrid (mul binary32 (of_int binary32 k) sixteenth))
  off_grid q =
      let b = f (sixteenfold v) is_sixteenfold in
      let apart' = eq_no (whole k) (sixteenfold v) (of_int binary32 k) g is_whole_lem is_sixteenfold q b.low in
      answer_of v (OffGrid (mul binary32 (of_int binary32 k) sixteenth)) x r.is (
        r.within,
        record {
          k = k;
          above = times_above k v.num v.den (less (whole k) (sixteenfold v) apart');
          next = times_next (k +ℤ pos 1) v.num v.den b.high;
          export = export k (omega (arith, floor_small));
        },
      )

-- ---- what is taken is within reach
reach_low : (k : ℤ) → (negsuc 1023 *ℤ pos 16) ≤ℤ (k *ℤ pos 1) → negsuc 16383 ≤ℤ k
reach_low = all _ λ k k'. simp ring (omega arith)

reach_high : (k : ℤ) → (k *ℤ pos 1) ≤ℤ (pos 1024 *ℤ pos 16) → k ≤ℤ pos 16384
reach_high = all _ λ k k'. simp ring (omega arith)

pub taken_reach : (x : Float) (k : ℤ) → Answer x (Grid k) → Reach k
taken_reach nan k h = absurd (let z : ◌≡◌ {A = ℕ} 0 1 = cc in omega arith)
taken_reach (inf s) k h = absurd (let z : ◌≡◌ {A = ℕ} 0 1 = cc in omega arith)
taken_reach (fin s m e) k h =
    let v = value s m e in
    let w = within_same v (grid k) (≈_sym (grid k) v h.1) h.0 in
    record { above = reach_low k w.least; below = reach_high k w.most }
