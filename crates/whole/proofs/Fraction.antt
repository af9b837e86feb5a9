-- The order of fractions: total, transitive, the same however a fraction is written; and 256 t rounded down. Assumes nothing.
use mathlib.Core.Logic.{◌⊎◌, ⊎_elim}
use Prim.Native.Nat.{ℕ, ◌*◌, ◌≤◌}
use native.Mathlib.Omega.{arith}
use lib.Dec.{leb→le, le→leb}
use lib.IntN.{ℤ, pos, ◌*ℤ◌, *ℤ_comm}
use lib.Signed.{◌≤ℤ◌, ◌<ℤ◌, quot_z}
use Rattle.whole.specs.Fraction.{Frac, ◌≼◌, ◌≺◌, whole, mark, Floor}
use Rattle.whole.proofs.Order.{mul_swap_r, le_or_lt, le_trans, lt_le, clash, mul_mono, cancel, nn_mul, pos_mul}
use Rattle.whole.proofs.Range.{quot}

-- ---- order
pub total : (s t : Frac) → (s ≼ t) ⊎ (t ≺ s)
total s t = le_or_lt (s.num *ℤ t.den) (t.num *ℤ s.den)

pub trans : (s t u : Frac) → s ≼ t → t ≼ u → s ≼ u
trans s t u h k =
    cancel _ _ t.den t.some
    (rw (mul_swap_r s.num u.den t.den, mul_swap_r u.num s.den t.den)
    (le_trans _ _ _ (mul_mono _ _ u.den h (lt_le _ _ u.some)) (rw (mul_swap_r t.num s.den u.den) (mul_mono _ _ s.den k (lt_le _ _ s.some)))))

pub less : (s t : Frac) → (t ≼ s → ⊥) → s ≺ t
less s t f = ⊎_elim (λ h. absurd (f h)) (λ h. h) (total t s)

pub apart : (s t : Frac) → s ≺ t → t ≼ s → ⊥
apart s t h k = clash _ _ h k

pub le_then_lt : (s t u : Frac) → s ≼ t → t ≺ u → s ≺ u
le_then_lt s t u h k = less s u (λ l. apart t u k (trans u s t l h))

pub lt_then_le : (s t u : Frac) → s ≺ t → t ≼ u → s ≺ u
lt_then_le s t u h k = less s u (λ l. apart s t h (trans t u s k l))

-- ---- written with c times the numbers
abbrev pub scaled : (c : ℤ) → pos 0 <ℤ c → Frac → Frac
scaled c l t = record { num = c *ℤ t.num; den = c *ℤ t.den; some = pos_mul c t.den l t.some }

-- ---- rounding down
-- a smaller mark begins no later
pub mark_mono : (c d : ℕ) → c ≤ d → mark (pos c) ≼ mark (pos d)
mark_mono c d h = record { le = le→leb (c * 256) (d * 256) (omega arith) }

-- a moment by n has a mark of at most 256 n
pub floor_most : (c n : ℕ) (t : Frac) → Floor (pos c) t → t ≼ whole (pos n) → c ≤ 256 * n
floor_most c n t f h = let l = leb→le (c * 1) (n * 256) (trans (mark (pos c)) t (whole (pos n)) f.low h).le in omega arith

-- for a moment at or after 0: the quotient that a division gives
pub floor_is : (t : Frac) → pos 0 ≤ℤ t.num → Floor (quot_z (pos 256 *ℤ t.num) t.den) t
floor_is t h =
    let q = quot (pos 256 *ℤ t.num) t.den (nn_mul (pos 256) t.num (record { le = tt }) h) t.some in
    record { low = rw (*ℤ_comm t.num (pos 256)) q.low; high = rw (*ℤ_comm t.num (pos 256)) q.high }
