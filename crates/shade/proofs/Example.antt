-- The example's lines, computed. Assumes nothing.
use mathlib.Core.Path.{◌≡◌, refl}
use mathlib.Core.List.{List, [], ◌∷◌, ◌++◌}
use Prim.Native.Nat.{ℕ}
use Rattle.rules.specs.Verdict.{NONE}
use Rattle.print.specs.Digits.{digits_in}
use Rattle.notice.specs.Notice.{room_line}
use Rattle.shade.specs.Text.{piece_line, piece_lines, page}

-- pieces 2
abbrev count_line : List ℕ
count_line = 112 ∷ 105 ∷ 101 ∷ 99 ∷ 101 ∷ 115 ∷ 32 ∷ 50 ∷ 10 ∷ []

-- 0 blocked 1024
abbrev blocked_line : List ℕ
blocked_line = 48 ∷ 32 ∷ 98 ∷ 108 ∷ 111 ∷ 99 ∷ 107 ∷ 101 ∷ 100 ∷ 32 ∷ 49 ∷ 48 ∷ 50 ∷ 52 ∷ 10 ∷ []

-- 1 clear
abbrev clear_line : List ℕ
clear_line = 49 ∷ 32 ∷ 99 ∷ 108 ∷ 101 ∷ 97 ∷ 114 ∷ 10 ∷ []

pub example : page (1024 ∷ NONE ∷ []) 2 ≡ count_line ++ (blocked_line ++ clear_line)
unfolding digits_in piece_line piece_lines page
example = refl

-- refused 8
abbrev number_part : List ℕ
number_part = 114 ∷ 101 ∷ 102 ∷ 117 ∷ 115 ∷ 101 ∷ 100 ∷ 32 ∷ 56 ∷ []

--  block 3 at 0 2
abbrev places_part : List ℕ
places_part = 32 ∷ 98 ∷ 108 ∷ 111 ∷ 99 ∷ 107 ∷ 32 ∷ 51 ∷ 32 ∷ 97 ∷ 116 ∷ 32 ∷ 48 ∷ 32 ∷ 50 ∷ 10 ∷ []

pub refused : room_line (record { number = 8; block = 3; a = 0; b = 2 }) ≡ number_part ++ places_part
unfolding digits_in room_line
refused = refl
