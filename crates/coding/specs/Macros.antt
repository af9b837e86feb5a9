-- The macros of include/baker.h, on the 64 bits that come back. Assumes nothing.
use Rattle.std.specs.Prelude.{ℕ, ◌/◌, ◌%◌, ◌^◌}

-- BAKER_REFUSED: bit 63, the highest
abbrev pub refused : ℕ → ℕ
refused c = c / 2 ^ 63

-- BAKER_NUMBER: bits 48 to 55
abbrev pub number : ℕ → ℕ
number c = c / 2 ^ 48 % 2 ^ 8

-- BAKER_BLOCK: bits 40 to 47
abbrev pub block : ℕ → ℕ
block c = c / 2 ^ 40 % 2 ^ 8

-- BAKER_A: bits 16 to 39
abbrev pub a : ℕ → ℕ
a c = c / 2 ^ 16 % 2 ^ 24

-- BAKER_B: bits 0 to 15
abbrev pub b : ℕ → ℕ
b c = c % 2 ^ 16

-- BAKER_VALUE: bits 0 to 31
abbrev pub value : ℕ → ℕ
value c = c % 2 ^ 32

-- BAKER_REMEMBERED: bit 32
abbrev pub remembered : ℕ → ℕ
remembered c = c / 2 ^ 32 % 2
