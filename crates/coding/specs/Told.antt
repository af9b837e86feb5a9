-- What a caller reads from a code with the macros of the header. Assumes nothing.
use Rattle.std.specs.Prelude.{◌≡◌, cond, ℕ, ◌^◌, ◌<◌, eqb}
use Rattle.rules.specs.Refusal.{Refusal}
use Rattle.coding.specs.Coded.{Meaning, value, remembered, refusal}
use Rattle.coding.specs.Macros as macro

-- each field is within the bits that it has
pub record Fits (s : Refusal) : Type 0 where
  pub number : s.number < 2 ^ 8
  pub block : s.block < 2 ^ 8
  pub a : s.a < 2 ^ 24
  pub b : s.b < 2 ^ 16

-- and so is a value
abbrev pub Within : Meaning → Type 0
Within (value n) = n < 2 ^ 32
Within (remembered n) = n < 2 ^ 32
Within (refusal s) = Fits s

-- refused or not, then remembered or not
unfoldable pub told : ℕ → Meaning
told c =
    cond (eqb (macro.refused c) 0)
    (cond (eqb (macro.remembered c) 0) (value (macro.value c)) (remembered (macro.value c)))
    (refusal (record { number = macro.number c; block = macro.block c; a = macro.a c; b = macro.b c }))

-- every macro that says something of an answer says it
pub record Valued (c bit n : ℕ) : Type 0 where
  pub refused : macro.refused c ≡ 0
  pub remembered : macro.remembered c ≡ bit
  pub value : macro.value c ≡ n

pub record Refuses (c : ℕ) (s : Refusal) : Type 0 where
  pub refused : macro.refused c ≡ 1
  pub number : macro.number c ≡ s.number
  pub block : macro.block c ≡ s.block
  pub a : macro.a c ≡ s.a
  pub b : macro.b c ≡ s.b

abbrev pub Macros : ℕ → Meaning → Type 0
Macros c (value n) = Valued c 0 n
Macros c (remembered n) = Valued c 1 n
Macros c (refusal s) = Refuses c s

-- m is what is read from c
pub record Reads (c : ℕ) (m : Meaning) : Type 0 where
  pub macros : Macros c m
  pub whole : told c ≡ m
