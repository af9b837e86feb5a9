-- Worked examples of the definitions: one list of rows, one claim, computed. Assumes nothing.
use mathlib.Core.Path.{◌≡◌, refl}
use mathlib.Core.Bool.{Bool, true, false}
use mathlib.Core.List.{List, [], ◌∷◌}
use Prim.Native.Nat.{ℕ}
use lib.IntN.{pos, negsuc}
use lib.ListN.{length}
use Rattle.line.specs.Text.{parts, unreturned, ended, lines, filled, words}
use Rattle.line.specs.Number.{all_digits, amount, Decimal, is_decimal, decimal, gridded, is_corner, index}
use Rattle.line.specs.Line.{Point, passed, other, face, same, among, all_corners, line_of, names}
use Rattle.obj.specs.File.{above, LastFace, none, drawn, face_in, flat, corners}

-- what is computed, and what it is
infix 70 ◌is◌
pub data Row : Type 1 where
  ◌is◌ : {A : Type 0} → A → A → Row

abbrev pub AllTrue : List Row → Type 0
AllTrue [] = Unit {0}
AllTrue (x is y ∷ rs) = (x ≡ y) × AllTrue rs

-- minus or plus a whole number over ten to the places
abbrev pub over : Bool → ℕ → ℕ → Decimal
over s w n = record { negative = s; whole = w; places = n }

abbrev pub points_of : LastFace → List Point
points_of none = []
points_of (drawn ps) = ps

abbrev pub small : List ℕ
small =
    118 ∷ 32 ∷ 48 ∷ 32 ∷ 48 ∷ 32 ∷ 48 ∷ 10
    ∷ 118 ∷ 32 ∷ 52 ∷ 32 ∷ 48 ∷ 32 ∷ 48 ∷ 10
    ∷ 118 ∷ 32 ∷ 52 ∷ 32 ∷ 48 ∷ 32 ∷ 45 ∷ 52 ∷ 10
    ∷ 102 ∷ 32 ∷ 49 ∷ 32 ∷ 50 ∷ 32 ∷ 45 ∷ 49
    ∷ []

abbrev pub rows : List Row
rows =
    -- "a\r\nb\n\rc"
    lines (97 ∷ 13 ∷ 10 ∷ 98 ∷ 10 ∷ 13 ∷ 99 ∷ []) is ((97 ∷ []) ∷ (98 ∷ []) ∷ (13 ∷ 99 ∷ []) ∷ [])
    -- "a\r\r\nb\r"
    ∷ lines (97 ∷ 13 ∷ 13 ∷ 10 ∷ 98 ∷ 13 ∷ []) is ((97 ∷ 13 ∷ []) ∷ (98 ∷ 13 ∷ []) ∷ [])
    -- ""
    ∷ lines [] is ([] ∷ [])
    -- "\tv  1\t-2 "
    ∷ words (9 ∷ 118 ∷ 32 ∷ 32 ∷ 49 ∷ 9 ∷ 45 ∷ 50 ∷ 32 ∷ []) is ((118 ∷ []) ∷ (49 ∷ []) ∷ (45 ∷ 50 ∷ []) ∷ [])
    -- "-0.5"
    ∷ is_decimal (45 ∷ 48 ∷ 46 ∷ 53 ∷ []) is true
    -- "+1"
    ∷ is_decimal (43 ∷ 49 ∷ []) is true
    -- "1."
    ∷ is_decimal (49 ∷ 46 ∷ []) is false
    -- ".5"
    ∷ is_decimal (46 ∷ 53 ∷ []) is false
    -- "1234567890"
    ∷ is_decimal (49 ∷ 50 ∷ 51 ∷ 52 ∷ 53 ∷ 54 ∷ 55 ∷ 56 ∷ 57 ∷ 48 ∷ []) is false
    -- "-0.5" is minus 5 over ten
    ∷ decimal (45 ∷ 48 ∷ 46 ∷ 53 ∷ []) is over true 5 1
    -- 0.0625 and -1024
    ∷ gridded (over false 625 4) is pos 1
    ∷ gridded (over true 1024 0) is negsuc 16383
    -- "7//2"
    ∷ is_corner (55 ∷ 47 ∷ 47 ∷ 50 ∷ []) is true
    -- "-1/2/3"
    ∷ is_corner (45 ∷ 49 ∷ 47 ∷ 50 ∷ 47 ∷ 51 ∷ []) is true
    -- "1/"
    ∷ is_corner (49 ∷ 47 ∷ []) is false
    -- "1//"
    ∷ is_corner (49 ∷ 47 ∷ 47 ∷ []) is false
    -- "+1"
    ∷ is_corner (43 ∷ 49 ∷ []) is false
    -- "7//2" and "-1/2/3"
    ∷ index (55 ∷ 47 ∷ 47 ∷ 50 ∷ []) is pos 7
    ∷ index (45 ∷ 49 ∷ 47 ∷ 50 ∷ 47 ∷ 51 ∷ []) is negsuc 0
    -- 3, -1, 0 and 4, of three vertices
    ∷ names 3 (pos 3) is 2
    ∷ names 3 (negsuc 0) is 2
    ∷ names 3 (pos 0) is 3
    ∷ names 3 (pos 4) is 3
    -- "vn x"
    ∷ line_of (118 ∷ 110 ∷ 32 ∷ 120 ∷ []) is passed
    -- "# x"
    ∷ line_of (35 ∷ 32 ∷ 120 ∷ []) is passed
    -- " # x"
    ∷ line_of (32 ∷ 35 ∷ 32 ∷ 120 ∷ []) is other
    -- "v 1 2 3 4"
    ∷ line_of (118 ∷ 32 ∷ 49 ∷ 32 ∷ 50 ∷ 32 ∷ 51 ∷ 32 ∷ 52 ∷ []) is other
    -- "f 1 2 -1"
    ∷ line_of (102 ∷ 32 ∷ 49 ∷ 32 ∷ 50 ∷ 32 ∷ 45 ∷ 49 ∷ []) is face (pos 1 ∷ pos 2 ∷ negsuc 0 ∷ [])
    -- "v 0 0 0\nv 4 0 0\nv 4 0 -4\nf 1 2 -1"
    ∷ corners (points_of (face_in small (length (lines small)))) is (pos 0 ∷ pos 0 ∷ pos 64 ∷ pos 0 ∷ pos 64 ∷ pos 64 ∷ [])
    ∷ []

-- what is computed, in both places
abbrev computed : List Row → List Row
computed [] = []
computed (x is y ∷ rs) = x is x ∷ computed rs

computed_true : (rs : List Row) → AllTrue (computed rs)
computed_true [] = tt
computed_true (x is y ∷ rs) = (refl, computed_true rs)

-- every row is what is computed for it
pub examples : AllTrue rows
unfolding parts unreturned ended lines filled words all_digits amount is_decimal decimal gridded is_corner index same among all_corners line_of above names face_in flat
examples = computed_true rows
