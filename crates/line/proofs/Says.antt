-- What a line says, by its words, and from what was answered. Assumes nothing.
use mathlib.Core.Path.{◌≡◌, refl, sym, ap, ◌∙◌}
use mathlib.Core.Bool.{Bool, true, false, cond, ◌&&◌, and-true, and-false}
use mathlib.Core.Logic.{◌⊎◌, inl, inr, ⊎_elim}
use mathlib.Core.List.{List, [], ◌∷◌, map}
use Prim.Native.Nat.{ℕ, suc, ◌≤◌}
use native.Mathlib.Omega.{arith}
use lib.Dec.{eqb, ltb}
use lib.IntN.{ℤ}
use lib.ListN.{length}
use Rattle.std.proofs.Common.{Option, Some, None}
use Rattle.line.specs.declared.Said.{Said}
use Rattle.line.specs.declared.Said.TheVariants as says
use Rattle.line.specs.declared.Vertex.{Vertex}
use Rattle.line.specs.Text.{words}
use Rattle.line.specs.Number.{first, is_decimal, decimal, turned, is_corner, index}
use Rattle.line.specs.Line.{Point, Line, passed, other, vertex, face, same, among, passed_words, vertex_line, all_corners, face_line, by_words, line_of, names, all_named}
use Rattle.line.specs.Calls.{entry, said_of}
use Rattle.line.specs.Steps.{vertex_in}
use Rattle.line.proofs.Told.{no, there, otherwise}
use Rattle.line.proofs.Words.{words_length, same_is}

-- ---- the corners of a face, word by word
-- of the words of a face those that are left, where the others are corners, and `all` says whether those name vertices
pub record Left (k : ℕ) (ws rest : List (List ℕ)) (all : Bool) : Type 0 where
  pub corners : all_corners ws ≡ all_corners rest
  pub named : all_named k (map index ws) ≡ (all && all_named k (map index rest))

module _ (k : ℕ) (ws : List (List ℕ)) where
  module _ (w : List ℕ) (rest : List (List ℕ)) (all : Bool) (l : Left k ws (w ∷ rest) all) where
    pub left_next : is_corner w ≡ true → ltb (names k (index w)) k ≡ true → Left k ws rest all
    unfolding all_corners all_named
    left_next e f = record { corners = l.corners ∙ rw e; named = l.named ∙ rw f }

    pub left_unnamed : is_corner w ≡ true → ltb (names k (index w)) k ≡ false → Left k ws rest false
    unfolding all_corners all_named
    left_unnamed e f = record { corners = l.corners ∙ rw e; named = l.named ∙ rw f (and-false all) }

    pub left_other : is_corner w ≡ false → says.Other ≡ said_of k (face_line ws)
    unfolding all_corners
    left_other e = rw (l.corners, e)

  pub left_none : (all : Bool) → Left k ws [] all → says.Face all ≡ said_of k (face_line ws)
  unfolding all_corners all_named
  left_none all l = rw (l.corners, l.named, and-true all)

-- ---- the words of a vertex, and what they say
-- the words of a vertex are three, or they say nothing
vertex_line_lem : (ws : List (List ℕ)) → (vertex_line ws ≡ other) ⊎ ((length ws ≡ 3) × (p : Point) × (vertex_line ws ≡ vertex p))
vertex_line_lem [] = inl refl
vertex_line_lem (x ∷ []) = inl refl
vertex_line_lem (x ∷ (y ∷ [])) = inl refl
vertex_line_lem (x ∷ (y ∷ (z ∷ []))) = by (is_decimal x && (is_decimal y && is_decimal z)) (record { x = decimal x; y = turned (decimal z) })
  where
    by : (t : Bool) (p : Point) → (cond t (vertex p) other ≡ other) ⊎ ((length (x ∷ (y ∷ (z ∷ []))) ≡ 3) × (q : Point) × (cond t (vertex p) other ≡ vertex q))
    by true p = inr (refl, p, refl)
    by false p = inl refl
vertex_line_lem (x ∷ (y ∷ (z ∷ (w ∷ ws)))) = inl refl

-- whatever stands above
abbrev pub vertex_says : Option Vertex → Said
vertex_says None = says.Other
vertex_says (Some v) = says.Vertex v

pub vertex_said : (k : ℕ) (ws : List (List ℕ)) → said_of k (vertex_line ws) ≡ vertex_says (vertex_in (vertex_line ws))
vertex_said k ws = ⊎_elim (λ e. rw e) (λ v. rw v.2) (vertex_line_lem ws)

-- ---- a line by its first word
pub line_blank : (l : List ℕ) → words l ≡ [] → line_of l ≡ passed
unfolding line_of
line_blank l e = rw e (by (eqb (first l) 35))
  where
    by : (t : Bool) → cond t passed passed ≡ passed
    by true = refl
    by false = refl

pub line_noted : (l : List ℕ) → eqb (first l) 35 ≡ true → line_of l ≡ passed
unfolding line_of
line_noted l e = rw e

pub line_words : (l : List ℕ) → eqb (first l) 35 ≡ false → line_of l ≡ by_words (words l)
unfolding line_of
line_words l e = rw e

pub by_v : (ws : List (List ℕ)) → by_words ((118 ∷ []) ∷ ws) ≡ vertex_line ws
unfolding same
by_v ws = refl

pub by_f : (ws : List (List ℕ)) → by_words ((102 ∷ []) ∷ ws) ≡ face_line ws
unfolding same
by_f ws = refl

pub by_other : (w : List ℕ) (ws : List (List ℕ)) → same w (118 ∷ []) ≡ false → same w (102 ∷ []) ≡ false → by_words (w ∷ ws) ≡ cond (among w passed_words) passed other
by_other w ws e f = rw (e, f)

-- what is not passed over is said by the words
said_words : (l : List ℕ) (r : Line) → (r ≡ passed → ⊥) → line_of l ≡ r → r ≡ by_words (words l)
unfolding line_of
said_words l r h e = otherwise (eqb (first l) 35) passed (by_words (words l)) r (sym e) h

-- ---- a vertex has four words
no_vertex : (s t u : Bool) (ns : List ℤ) (p : Point) → vertex p ≡ cond s (cond t (face ns) other) (cond u passed other) → ⊥
no_vertex true true u ns p e = no (cc)
no_vertex true false u ns p e = no (cc)
no_vertex false t true ns p e = no (cc)
no_vertex false t false ns p e = no (cc)

four_words : (ws : List (List ℕ)) (p : Point) → vertex p ≡ by_words ws → length ws ≡ 4
four_words [] p e = cc
four_words (w ∷ ws) p e =
    let h = there (same w (118 ∷ [])) (vertex_line ws) _ (vertex p) e (no_vertex (same w (102 ∷ [])) (all_corners ws) (among w passed_words) (map index ws) p) in
    ⊎_elim (λ f. no (cc)) (λ v. ap suc v.0) (vertex_line_lem ws)

pub vertex_long : (l : List ℕ) (p : Point) → line_of l ≡ vertex p → 7 ≤ length l
vertex_long l p e =
    let h = four_words (words l) p (said_words l (vertex p) (λ f. no (cc)) e) in
    omega (arith, words_length l)

-- ---- a face has an f and corners
no_face : (t : Bool) (ns : List ℤ) → face ns ≡ cond t passed other → ⊥
no_face true ns e = no (cc)
no_face false ns e = no (cc)

no_face_vertex : (ws : List (List ℕ)) (ns : List ℤ) → face ns ≡ vertex_line ws → ⊥
no_face_vertex ws ns e = ⊎_elim (λ f. no (cc)) (λ v. no (cc v.2)) (vertex_line_lem ws)

corners : (vs : List (List ℕ)) (ns : List ℤ) → face ns ≡ by_words vs → (ws : List (List ℕ)) × (vs ≡ (102 ∷ []) ∷ ws) × (all_corners ws ≡ true) × (ns ≡ map index ws)
corners [] ns e = no (cc)
corners (w ∷ ws) ns e =
    let a = otherwise (same w (118 ∷ [])) (vertex_line ws) _ (face ns) e (no_face_vertex ws ns) in
    let b = there (same w (102 ∷ [])) (face_line ws) _ (face ns) a (no_face (among w passed_words) ns) in
    let h = there (all_corners ws) (face (map index ws)) other (face ns) b.1 (no_face false ns) in
    let f = same_is w (102 ∷ []) b.0 in
    (ws, rw f, h.0, cc)

pub face_words : (l : List ℕ) (ns : List ℤ) → line_of l ≡ face ns → (ws : List (List ℕ)) × (words l ≡ (102 ∷ []) ∷ ws) × (all_corners ws ≡ true) × (ns ≡ map index ws)
face_words l ns e = corners (words l) ns (said_words l (face ns) (no_face true ns) e)

-- ---- what a line says, from what was answered
module _ (k : ℕ) where
  pub said_passed : (l : Line) → said_of k l ≡ says.Passed → l ≡ passed
  said_passed passed e = refl
  said_passed other e = cc
  said_passed (vertex p) e = cc
  said_passed (face ns) e = cc

  pub said_other : (l : Line) → said_of k l ≡ says.Other → l ≡ other
  said_other passed e = cc
  said_other other e = refl
  said_other (vertex p) e = cc
  said_other (face ns) e = cc

  pub said_vertex : (l : Line) (v : Vertex) → said_of k l ≡ says.Vertex v → (p : Point) × (l ≡ vertex p) × (v.x ≡ entry p.x) × (v.y ≡ entry p.y)
  said_vertex passed v e = no (cc)
  said_vertex other v e = no (cc)
  said_vertex (vertex p) v e = (p, refl, cc, cc)
  said_vertex (face ns) v e = no (cc)

  pub said_face : (l : Line) (b : Bool) → said_of k l ≡ says.Face b → (ns : List ℤ) × (l ≡ face ns) × (all_named k ns ≡ b)
  said_face passed b e = no (cc)
  said_face other b e = no (cc)
  said_face (vertex p) b e = no (cc)
  said_face (face ns) b e = (ns, refl, cc)
