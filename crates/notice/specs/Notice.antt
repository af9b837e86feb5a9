-- What a program prints of a refused run or room. Assumes nothing.
use Rattle.std.specs.Prelude.{List, [], ◌∷◌, ◌++◌, ℕ}
use Rattle.rules.specs.Refusal.{Refusal}
use Rattle.print.specs.Digits.{digits}

-- "refused ", "run ", " block ", " at "
abbrev pub refused : List ℕ
refused = 114 ∷ 101 ∷ 102 ∷ 117 ∷ 115 ∷ 101 ∷ 100 ∷ 32 ∷ []

abbrev pub run : List ℕ
run = 114 ∷ 117 ∷ 110 ∷ 32 ∷ []

abbrev pub block : List ℕ
block = 32 ∷ 98 ∷ 108 ∷ 111 ∷ 99 ∷ 107 ∷ 32 ∷ []

abbrev pub at : List ℕ
at = 32 ∷ 97 ∷ 116 ∷ 32 ∷ []

-- a line feed ends each line
abbrev pub feed : List ℕ
feed = 10 ∷ []

-- "refused run N"
unfoldable pub run_line : Refusal → List ℕ
run_line r = refused ++ (run ++ (digits r.number ++ feed))

-- "refused N block B at a b"
unfoldable pub room_line : Refusal → List ℕ
room_line r = refused ++ (digits r.number ++ (block ++ (digits r.block ++ (at ++ (digits r.a ++ (32 ∷ (digits r.b ++ feed)))))))
