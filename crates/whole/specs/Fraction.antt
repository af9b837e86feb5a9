-- Fractions n/d of whole numbers, d at least 1, and their order. Assumes nothing.
use Rattle.std.specs.Prelude.{◌≡◌, ℤ, pos, ◌+ℤ◌, ◌*ℤ◌, ◌≤ℤ◌, ◌<ℤ◌}

pub record Frac : Type 0 where
  pub num : ℤ
  pub den : ℤ
  pub some : pos 0 <ℤ den

-- at most, and less: by cross multiplication
infix 40 ◌≼◌
abbrev pub ◌≼◌ : Frac → Frac → Type 0
s ≼ t = (s.num *ℤ t.den) ≤ℤ (t.num *ℤ s.den)

infix 40 ◌≺◌
abbrev pub ◌≺◌ : Frac → Frac → Type 0
s ≺ t = (s.num *ℤ t.den) <ℤ (t.num *ℤ s.den)

-- the same value
infix 40 ◌≈◌
abbrev pub ◌≈◌ : Frac → Frac → Type 0
s ≈ t = s.num *ℤ t.den ≡ t.num *ℤ s.den

-- z/1
abbrev pub whole : ℤ → Frac
whole z = record { num = z; den = pos 1; some = record { lt = tt } }

-- k/256, the moment of the mark k
abbrev pub mark : ℤ → Frac
mark k = record { num = k; den = pos 256; some = record { lt = tt } }

-- t lies in [k/256, (k + 1)/256): k is 256 t rounded down
pub record Floor (k : ℤ) (t : Frac) : Type 0 where
  pub low : mark k ≼ t
  pub high : t ≺ mark (k +ℤ pos 1)
