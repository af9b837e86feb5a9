-- A file has few lines, and its face few corners: none more than its bytes and one. Assumes nothing.
use mathlib.Core.Path.{◌≡◌, refl, ap, ◌∙◌}
use mathlib.Core.List.{List, [], ◌∷◌}
use Prim.Native.Nat.{ℕ, zero, suc, ◌≤◌}
use native.Mathlib.Omega.{arith}
use lib.IntN.{ℤ}
use lib.ListN.{length, get_or, length-map}
use Rattle.line.specs.Text.{feed, parts, ended, lines}
use Rattle.line.specs.Number.{index}
use Rattle.line.specs.Line.{Point, Line, passed, other, vertex, face}
use Rattle.obj.specs.File.{line_at, above, points, drawn, faced, face_in}
use Rattle.line.proofs.Told.{no}
use Rattle.line.proofs.Words.{size, parts_size, words_length}
use Rattle.line.proofs.Says.{face_words}
use Rattle.obj.proofs.Lines.{unreturned_size}

-- ---- lines
ended_size : (ps : List (List ℕ)) → size (ended ps) ≤ size ps
unfolding ended
ended_size [] = omega arith
ended_size (l ∷ []) = omega arith
ended_size (l ∷ (m ∷ ls)) = omega (arith, ended_size (m ∷ ls), unreturned_size l)

lines_size : (file : List ℕ) → size (lines file) ≤ suc (length file)
unfolding lines
lines_size file = omega (arith, ended_size (parts feed file), parts_size feed file)

count_size : (ps : List (List ℕ)) → length ps ≤ size ps
count_size [] = omega arith
count_size (p ∷ ps) = omega (arith, count_size ps)

each_size : (ps : List (List ℕ)) (n : ℕ) → length (get_or ps n []) ≤ size ps
each_size [] n = omega arith
each_size (p ∷ ps) zero = omega arith
each_size (p ∷ ps) (suc n) = omega (arith, each_size ps n)

pub lines_few : (file : List ℕ) → length (lines file) ≤ suc (length file)
lines_few file = omega (arith, count_size (lines file), lines_size file)

-- ---- corners
points_few : (file : List ℕ) (n : ℕ) (vs : List Point) (ns : List ℤ) → line_at file n ≡ face ns → length (points vs ns) ≤ suc (length file)
points_few file n vs ns e =
    let l = get_or (lines file) n [] in let w = face_words l ns e in
    let a : length ns ≡ length w.0 = ap length w.3 ∙ length-map w.0 index in
    let b : length (points vs ns) ≡ length ns = length-map ns _ in
    omega (arith, words_length l, ap length w.1, each_size (lines file) n, lines_size file)

pub face_few : (file : List ℕ) (n : ℕ) (ps : List Point) → face_in file n ≡ drawn ps → length ps ≤ suc (length file)
unfolding face_in
face_few file zero ps e = no (cc)
face_few file (suc n) ps e = by (line_at file n) refl (face_few file n ps) e
  where
    by : (l : Line) → line_at file n ≡ l → (face_in file n ≡ drawn ps → length ps ≤ suc (length file)) → faced (above file n) (face_in file n) l ≡ drawn ps → length ps ≤ suc (length file)
    by passed q h f = h f
    by other q h f = h f
    by (vertex p) q h f = h f
    by (face ns) q h f =
        let vs = above file n in let d : points vs ns ≡ ps = cc in
        omega (arith, points_few file n vs ns q, ap length d)
