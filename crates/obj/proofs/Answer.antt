-- The answer for a file, from what is found of its lines, its face and the piece that it draws. Assumes nothing.
use Rattle.std.specs.Prelude.{Ok, Err}
use mathlib.Core.Path.{◌≡◌, refl, ap, ◌∙◌}
use mathlib.Core.Logic.{inl, inr}
use mathlib.Core.List.{List}
use Prim.Native.Nat.{ℕ, ◌*◌, ◌≤◌, ◌<◌}
use native.Mathlib.Omega.{arith}
use lib.IntN.{ℤ, pos}
use lib.ListN.{length, take}
use lib.Seq.{ext_get_or, get_or-take, length-take-le}
use Rattle.rules.specs.Reach.{Piece}
use Rattle.rules.specs.Refusal as rules
use Rattle.rules.specs.Refusal.{Passes, Fault, refuse}
use Rattle.rules.specs.Good.{sized_check, piece_checks}
use Rattle.rules.proofs.Checks.{passes_append, fault_left, fault_right}
use Rattle.refusal.specs.Said.{said}
use Rattle.obj.specs.File.{Outline}
use Rattle.line.specs.Text.{lines}
use Rattle.line.specs.Number.{gridded}
use Rattle.line.specs.Line.{Point}
use Rattle.obj.specs.File.{LastFace, none, drawn, face_in, lines_checks, points_checks, corners, corners_checks, face_checks, obj_checks, ObjSays}
use Rattle.obj.specs.Steps.{Gathered, draw_checks, Draws}
use Rattle.obj.proofs.Points.{flat_size}

-- how many lines, their checks, and the face
abbrev count : List ℕ → ℕ
count file = length (lines file)

abbrev Lined : List ℕ → Type 0
Lined file = Passes (lines_checks file (count file))

abbrev FaceIs : List ℕ → LastFace → Type 0
FaceIs file f = face_in file (count file) ≡ f

module _ (file : List ℕ) (k : List ℤ → Piece) (size : ℕ) where
  pub too_long : (length file ≤ 65536 → ⊥) → Fault (obj_checks file k size) (refuse 1 0 0)
  unfolding obj_checks
  too_long h = inl (h, refl)

  module _ (short : length file ≤ 65536) where
    pub line_fault : (r : rules.Refusal) → Fault (lines_checks file (count file)) r → Fault (obj_checks file k size) r
    unfolding obj_checks
    line_fault r f = inr (short, fault_left (lines_checks file (count file)) _ r f)

    -- every line passes
    module _ (lined : Lined file) where
      face_fault : (f : LastFace) (r : rules.Refusal) → FaceIs file f → Fault (face_checks k size f) r → Fault (obj_checks file k size) r
      unfolding obj_checks
      face_fault f r e g = inr (short, fault_right (lines_checks file (count file)) _ r lined (rw e g))

      pub no_face : FaceIs file none → Fault (obj_checks file k size) (refuse 16 0 0)
      no_face e = face_fault none (refuse 16 0 0) e (inl (λ z. z, refl))

      -- and the face has these corners
      module _ (ps : List Point) (e : FaceIs file (drawn ps)) where
        pub point_fault : (r : rules.Refusal) → Fault (points_checks ps (length ps)) r → Fault (obj_checks file k size) r
        unfolding corners_checks
        point_fault r f = face_fault (drawn ps) r e (fault_left (points_checks ps (length ps)) _ r f)

        module _ (taken : Passes (points_checks ps (length ps))) where
          draw_fault : (r : rules.Refusal) → Fault (draw_checks k (corners ps) size) r → Fault (obj_checks file k size) r
          unfolding corners_checks
          draw_fault r f = face_fault (drawn ps) r e (fault_right (points_checks ps (length ps)) _ r taken (rw (flat_size gridded ps) at f))

          pub too_many : ((l : List ℤ) → (k l).corners ≡ l) → 64 < length ps → Fault (obj_checks file k size) (refuse 5 0 0)
          unfolding piece_checks sized_check
          too_many h g = draw_fault (refuse 5 0 0) (inl (λ s. let m = s.corners.most in let q = ap length (h (corners ps)) ∙ flat_size gridded ps in omega arith, refl))

          draw_passes : Passes (draw_checks k (corners ps) size) → Passes (obj_checks file k size)
          unfolding obj_checks corners_checks
          draw_passes p = (
            short,
            passes_append (lines_checks file (count file)) _ lined
                (rw e (passes_append (points_checks ps (length ps)) _ taken (rw (flat_size gridded ps) at p))),
          )

-- the corners that were gathered
pub gathered_corners : (ps : List Point) (n : ℕ) (list : List ℤ) → Gathered ps n list → n ≤ 64 → take (2 * n) list ≡ corners ps
gathered_corners ps n list g h =
    let z = g.size in let c = g.count in let s = flat_size gridded ps in
    let l : length (take (2 * n) list) ≡ 2 * n = length-take-le (2 * n) list (omega arith) in
    ext_get_or (pos 0) (take (2 * n) list) (corners ps) (omega arith) λ j q. get_or-take (2 * n) list j (pos 0) (omega arith) ∙ g.numbers j (omega arith) (omega arith)

-- what drawing them answers is the answer
pub draws_says : (file : List ℕ) (k : List ℤ → Piece) (before after : List ℤ) → length file ≤ 65536 → Lined file
    → (ps : List Point) → FaceIs file (drawn ps) → Passes (points_checks ps (length ps)) → (r : Outline) → Draws k (corners ps) before after r → ObjSays file k before after r
draws_says file k before after short lined ps e taken (Ok n) d =
    record {
      passes = draw_passes file k (length before) short lined ps e taken d.0;
      points = ps;
      face = e;
      count = let z = flat_size gridded ps in let q = d.1 in omega arith;
      list = d.2;
    }
draws_says file k before after short lined ps e taken (Err x) d = (draw_fault file k (length before) short lined ps e taken (said x) d.0, d.1)
