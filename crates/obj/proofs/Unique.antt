-- One file has one answer: two outcomes that both meet the contract are equal, answer and later list. Assumes nothing.
use Rattle.std.specs.Prelude.{Ok, Err}
use mathlib.Core.Path.{◌≡◌, sym, ap, ◌∙◌}
use mathlib.Core.List.{List}
use Prim.Native.Nat.{ℕ}
use lib.IntN.{ℤ}
use lib.ListN.{length, get_or}
use Rattle.whole.specs.Front.{fronted}
use Rattle.rules.specs.Reach.{Piece}
use Rattle.rules.specs.Refusal.{Check}
use Rattle.rules.specs.Good.{piece_checks}
use Rattle.rules.proofs.Checks.{AllDefinite, definite_demand, definite_append, definite_in_turn, never_both}
use Rattle.rules.proofs.Good.{definite_piece}
use Rattle.refusal.specs.Said.{said}
use Rattle.refusal.proofs.Unique.{refused_one}
use Rattle.obj.specs.File.{Outline}
use Rattle.line.specs.Text.{lines}
use Rattle.line.specs.Number.{Decimal}
use Rattle.line.specs.Line.{Point}
use Rattle.obj.specs.File.{LastFace, none, drawn, face_in, nowhere, corners, Drawn, ObjSays}
use Rattle.obj.specs.File.{line_checks, lines_checks, decimal_checks, point_checks, points_checks, corners_checks, face_checks, obj_checks}

definite_line : (file : List ℕ) (i : ℕ) → AllDefinite (line_checks file i)
unfolding line_checks
definite_line file i = (definite_demand _ _, (definite_demand _ _, (definite_demand _ _, tt)))

definite_decimal : (d : Decimal) (a b : ℕ) → AllDefinite (decimal_checks d a b)
unfolding decimal_checks
definite_decimal d a b = (definite_demand _ _, (definite_demand _ _, tt))

definite_point : (ps : List Point) (a : ℕ) → AllDefinite (point_checks ps a)
definite_point ps a = let p = get_or ps a nowhere in definite_append (decimal_checks p.x a 0) (decimal_checks p.y a 1) (definite_decimal p.x a 0) (definite_decimal p.y a 1)

module _ (k : List ℤ → Piece) (size : ℕ) where
  definite_corners : (ps : List Point) → AllDefinite (corners_checks k size ps)
  unfolding corners_checks
  definite_corners ps =
      definite_append (points_checks ps (length ps)) _ (definite_in_turn (point_checks ps) (definite_point ps) (length ps))
      (definite_append (piece_checks (k (corners ps))) _ (definite_piece (k (corners ps))) (definite_demand _ _, tt))

  definite_face : (f : LastFace) → AllDefinite (face_checks k size f)
  definite_face none = (definite_demand _ _, tt)
  definite_face (drawn ps) = definite_corners ps

  definite_obj : (file : List ℕ) → AllDefinite (obj_checks file k size)
  unfolding obj_checks
  definite_obj file =
      let n = length (lines file) in
      (definite_demand _ _, definite_append (lines_checks file n) _ (definite_in_turn (line_checks file) (definite_line file) n) (definite_face (face_in file n)))

module _ (file : List ℕ) (k : List ℤ → Piece) (before : List ℤ) where
  abbrev checks : List Check
  checks = obj_checks file k (length before)

  definite : AllDefinite checks
  definite = definite_obj k (length before) file

  -- the same face, the same corners
  drawn_one : (a b : List ℤ) (m n : ℕ) → Drawn file k before a m → Drawn file k before b n → (m ≡ n) × (a ≡ b)
  drawn_one a b m n f g =
      let e : f.points ≡ g.points = cc in
      (f.count ∙ ap length e ∙ sym g.count, f.list ∙ ap (λ ps. fronted (corners ps) before) e ∙ sym g.list)

  pub obj_one : (a b : List ℤ) (r s : Outline) → ObjSays file k before a r → ObjSays file k before b s → (r ≡ s) × (a ≡ b)
  obj_one a b (Ok m) (Ok n) f g = let d = drawn_one a b m n f g in (ap Ok d.0, d.1)
  obj_one a b (Ok m) (Err y) f g = absurd (never_both checks definite (said y) f.passes g.0)
  obj_one a b (Err x) (Ok n) f g = absurd (never_both checks definite (said x) g.passes f.0)
  obj_one a b (Err x) (Err y) f g = (ap Err (refused_one checks definite x y f.0 g.0), f.1 ∙ sym g.1)
