-- Bytes put into the middle of a list: what stands up to their end. Assumes nothing.
use mathlib.Core.Path.{◌≡◌, refl, sym, ap, ◌∙◌}
use mathlib.Core.List.{List, [], ◌∷◌, ◌++◌, append_assoc}
use Prim.Native.Nat.{ℕ, suc, ◌+◌, ◌≤◌, ◌<◌}
use native.Mathlib.Omega.{arith}
use lib.ListN.{length, get_or, set, take, drop, get_or-append, length-set, length-append, length-take, length-drop}
use lib.Seq.{take_at, take-append-le, drop_at, get_or-take, get_or-drop, get_or-append-add}

-- ys in the place of the n bytes from byte a on
abbrev pub mid : ℕ → ℕ → List ℕ → List ℕ → List ℕ
mid a n l ys = take a l ++ (ys ++ drop n (drop a l))

module _ (l ys : List ℕ) (a n : ℕ) (h : a + n ≤ length l) (e : length ys ≡ n) where
  pub mid_length : length (mid a n l ys) ≡ length l
  mid_length = omega (arith, length-append (take a l) (ys ++ drop n (drop a l)), length-append ys (drop n (drop a l)), length-take a l, length-drop n (drop a l), length-drop a l)

  pub mid_front : take (a + n) (mid a n l ys) ≡ take a l ++ ys
  mid_front =
      ap (take (a + n)) (sym (append_assoc (take a l) ys (drop n (drop a l))))
      ∙ take_at (take a l ++ ys) (drop n (drop a l)) (a + n) (omega (arith, length-append (take a l) ys, length-take a l))

  pub mid_part : take n (drop a (mid a n l ys)) ≡ ys
  mid_part = ap (take n) (drop_at (take a l) (ys ++ drop n (drop a l)) a (omega (arith, length-take a l))) ∙ take_at ys (drop n (drop a l)) n e

-- byte by byte
module _ (l ys : List ℕ) (a n : ℕ) (h : a + n ≤ length l) (e : length ys ≡ n) where
  front : length (take a l) ≡ a
  front = omega (arith, length-take a l)

  pub mid_before : (i : ℕ) → i < a → get_or (mid a n l ys) i 0 ≡ get_or l i 0
  mid_before i g = get_or-append (take a l) (ys ++ drop n (drop a l)) 0 i (omega (arith, front)) ∙ get_or-take a l i 0 g

  past : (j : ℕ) → get_or (mid a n l ys) (a + j) 0 ≡ get_or (ys ++ drop n (drop a l)) j 0
  past j = ap (λ m. get_or (mid a n l ys) (m + j) 0) (sym front) ∙ get_or-append-add (take a l) (ys ++ drop n (drop a l)) j 0

  pub mid_in : (j : ℕ) → j < n → get_or (mid a n l ys) (a + j) 0 ≡ get_or ys j 0
  mid_in j g = past j ∙ get_or-append ys (drop n (drop a l)) 0 j (omega arith)

  pub mid_after : (j : ℕ) → get_or (mid a n l ys) (a + (n + j)) 0 ≡ get_or l (a + (n + j)) 0
  mid_after j =
      past (n + j)
      ∙ ap (λ m. get_or (ys ++ drop n (drop a l)) (m + j) 0) (sym e)
      ∙ get_or-append-add ys (drop n (drop a l)) j 0
      ∙ get_or-drop n (drop a l) j 0
      ∙ get_or-drop a l (n + j) 0

-- the bytes of a part
pub part_length : (l : List ℕ) (a n : ℕ) → a + n ≤ length l → length (take n (drop a l)) ≡ n
part_length l a n h = omega (arith, length-take n (drop a l), length-drop a l)

-- one first byte, and then others
module _ (l ys : List ℕ) (x n : ℕ) (h : 1 + n ≤ length l) (e : length ys ≡ n) where
  pub one_length : length (mid 1 n (set l 0 x) ys) ≡ length l
  one_length = mid_length (set l 0 x) ys 1 n (omega (arith, length-set l 0 x)) e ∙ length-set l 0 x

  one_is : (l : List ℕ) → 1 ≤ length l → mid 1 n (set l 0 x) ys ≡ x ∷ (ys ++ drop n (drop 1 l))
  one_is [] h = absurd (omega arith)
  one_is (a ∷ l) h = refl

  pub one_then : (m : ℕ) → m ≤ n → take (suc m) (mid 1 n (set l 0 x) ys) ≡ x ∷ take m ys
  one_then m g = ap (take (suc m)) (one_is l (omega arith)) ∙ ap (λ (r : List ℕ). x ∷ r) (take-append-le m ys (drop n (drop 1 l)) (omega arith))

-- two first bytes, and then others
two_first : (l : List ℕ) (x y : ℕ) → 2 ≤ length l → take 2 (set (set l 0 x) 1 y) ≡ x ∷ y ∷ []
two_first [] x y h = absurd (omega arith)
two_first (a ∷ []) x y h = absurd (omega arith)
two_first (a ∷ b ∷ l) x y h = refl

module _ (l ys : List ℕ) (x y n : ℕ) (h : 2 + n ≤ length l) (e : length ys ≡ n) where
  abbrev start : List ℕ
  start = set (set l 0 x) 1 y

  long : length start ≡ length l
  long = length-set (set l 0 x) 1 y ∙ length-set l 0 x

  pub two_length : length (mid 2 n start ys) ≡ length l
  two_length = mid_length start ys 2 n (omega (arith, long)) e ∙ long

  pub two_then : take (2 + n) (mid 2 n start ys) ≡ x ∷ y ∷ ys
  two_then = mid_front start ys 2 n (omega (arith, long)) e ∙ ap (λ (f : List ℕ). f ++ ys) (two_first l x y (omega arith))
