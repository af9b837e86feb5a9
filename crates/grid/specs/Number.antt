-- "From the modelling package": what an exported number is worth, and its answer. Assumes nothing.
use Rattle.std.specs.Prelude.{◌≡◌, Bool, true, false, ℕ, ◌*◌, T, ℤ, pos, negsuc, neg_ℤ, ◌+ℤ◌, ◌*ℤ◌, Float}
use Rattle.std.proofs.Common.{lt→ltb}
use Rattle.std.specs.Float.{nan, inf, fin, binary32}
use Rattle.std.specs.Float.Ieee.{fits, up, down}
use Rattle.std.specs.Float.Ieee.Fits.{down_pos}
use Rattle.whole.specs.Fraction.{Frac, ◌≼◌, ◌≺◌, ◌≈◌, whole}
use Rattle.grid.specs.declared.Taken.{Taken}
use Rattle.grid.specs.declared.Taken.TheVariants.{Grid, OffGrid, NotNumber, Beyond}

-- n, or -n
abbrev pub signed : Bool → ℕ → ℤ
signed true n = neg_ℤ (pos n)
signed false n = pos n

-- the value of a finite number, ±m·2^e
abbrev pub value : Bool → ℕ → ℤ → Frac
value s m e = record { num = signed s (m * up e); den = pos (down e); some = record { lt = lt→ltb 0 (down e) (down_pos e) } }

-- x is finite, and v is its value
abbrev pub Is : Float → Frac → Type 0
Is nan v = ⊥
Is (inf s) v = ⊥
Is (fin s m e) v = value s m e ≈ v

-- k/16: the grid number k in the export's unit
abbrev pub grid : ℤ → Frac
grid k = record { num = k; den = pos 16; some = record { lt = tt } }

-- reach is -1,024 to 1,024
pub record Within (v : Frac) : Type 0 where
  pub least : whole (negsuc 1023) ≼ v
  pub most : v ≼ whole (pos 1024)

-- w is k/16 as binary32, zero given as plus zero
pub record Export (k : ℤ) (w : Float) : Type 0 where
  pub binary : T (fits binary32 w)
  pub worth : Is w (grid k)
  pub plus : k ≡ pos 0 → w ≡ fin false 0 (pos 0)

-- v is no grid value, and k/16, which is w, is the one below it
pub record Off (v : Frac) (w : Float) : Type 0 where
  pub k : ℤ
  pub above : grid k ≺ v
  pub next : v ≺ grid (k +ℤ pos 1)
  pub export : Export k w

-- the answer of a value
abbrev pub Worth : Frac → Taken → Type 0
Worth v (Grid k) = Within v × (grid k ≈ v)
Worth v (OffGrid w) = Within v × Off v w
Worth v NotNumber = ⊥
Worth v Beyond = Within v → ⊥

-- the answer of a number
abbrev pub Answer : Float → Taken → Type 0
Answer nan t = t ≡ NotNumber
Answer (inf s) t = t ≡ Beyond
Answer (fin s m e) t = Worth (value s m e) t

-- sixteen times a value
abbrev pub sixteenfold : Frac → Frac
sixteenfold v = record { num = v.num *ℤ pos 16; den = v.den; some = v.some }

-- where x is within reach, g is sixteen times x, exactly
abbrev pub Scaled : Float → Float → Type 0
Scaled x g = (v : Frac) → Is x v → Within v → Is g (sixteenfold v)

-- ---- the steps
-- g is finite, and from -16,384 to 16,384, as sixteen times a number within reach is
pub record Bounded (g : Float) : Type 0 where
  pub worth : Frac
  pub is : Is g worth
  pub least : whole (negsuc 16383) ≼ worth
  pub most : worth ≼ whole (pos 16384)

-- k is the whole number at or below v
pub record AtOrBelow (v : Frac) (k : ℤ) : Type 0 where
  pub low : whole k ≼ v
  pub high : v ≺ whole (k +ℤ pos 1)

-- k is the whole number at or below a finite g
abbrev pub Floored : Float → ℤ → Type 0
Floored g k = (v : Frac) → Is g v → AtOrBelow v k
