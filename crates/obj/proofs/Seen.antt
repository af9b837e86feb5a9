-- Line after line of a file: what the checks find, and what is seen. Assumes nothing.
use mathlib.Core.Path.{◌≡◌, refl, sym, ap, subst, ◌∙◌}
use mathlib.Core.Bool.{true, false}
use mathlib.Core.Logic.{inl, inr}
use mathlib.Core.List.{List, [], ◌∷◌}
use Prim.Native.Nat.{ℕ, suc, ◌+◌, ◌*◌, ◌≤◌, ◌<◌}
use native.Mathlib.Omega.{arith}
use native.Mathlib.Numerals.{add-one}
use lib.IntN.{ℤ}
use lib.ListN.{length, drop, get_or, set, length-append}
use Rattle.std.proofs.Common.{Option, Some, None, is_some}
use Rattle.rules.specs.Refusal.{Refusal, Passes, Fault, refuse, in_turn}
use Rattle.rules.proofs.Checks.{passes_append, in_turn_fault}
use Rattle.line.specs.Text.{lines}
use Rattle.line.specs.Line.{Point, Line, passed, other, vertex, face, line_of, all_named}
use Rattle.line.proofs.Told.{no}
use Rattle.line.proofs.Parts.{drop_none}
use Rattle.obj.specs.declared.table.Entry.{Entry}
use Rattle.obj.specs.declared.pass.Face.{Face}
use Rattle.obj.specs.declared.pass.Seen.{Seen}
use Rattle.obj.specs.File.{line_at, more, above, none, faced, face_in, line_checks, lines_checks}
use Rattle.obj.specs.Steps.{lines_in, taken_by, FirstLine, entered, Tabled, FaceSeen, SeenTo, Room, Gone, Scanned, Faced}
use Rattle.obj.proofs.Lines.{line_at_lem}
use Rattle.obj.proofs.Points.{Keeps, kept_past, tabled_more}

-- what was seen, with some number of vertices; with a face
abbrev counting : ℕ → Seen → Seen
counting v s = record { vertices = v; face = s.face }

abbrev facing : Face → Seen → Seen
facing f s = record { vertices = s.vertices; face = Some f }

-- ---- a line that is not refused
module _ (file : List ℕ) (n : ℕ) where
  -- the face seen before stays, whatever vertices come
  face_on : (k v : ℕ) (table after : List Entry) (o : Option Face) → face_in file (suc n) ≡ face_in file n → k ≤ v
      → Keeps k table after → FaceSeen file n k table o → FaceSeen file (suc n) v after o
  face_on k v table after None e h keep f = e ∙ f
  face_on k v table after (Some g) e h keep f =
      let few = f.few in
      let count = f.count in
      record {
        indices = f.indices;
        vertices = f.vertices;
        line = f.line;
        count = f.count;
        few = omega arith;
        named = f.named;
        tabled = keep f.vertices (omega arith) f.tabled;
        face = e ∙ f.face;
      }

  module _ (l : Line) (e : line_at file n ≡ l) where
    above_next : above file (suc n) ≡ more l (above file n)
    unfolding above
    above_next = ap (λ q. more q (above file n)) e

    face_next : face_in file (suc n) ≡ faced (above file n) (face_in file n) l
    unfolding face_in
    face_next = ap (faced (above file n) (face_in file n)) e

    -- a line that is neither refused nor a face passes
    pub plain_passes : (l ≡ other → ⊥) → ((ns : List ℤ) → l ≡ face ns → ⊥) → Passes (line_checks file n)
    unfolding line_checks
    plain_passes f g = (λ q. f (sym e ∙ q), (λ s. g s.indices (sym e ∙ s.line), (λ ns q. absurd (g ns (sym e ∙ q)), tt)))

  module _ (seen : Seen) (table : List Entry) (holds : SeenTo file n seen table) where
    pub passed_holds : line_at file n ≡ passed → SeenTo file (suc n) seen table
    passed_holds e = record {
      count = holds.count ∙ sym (ap length (above_next passed e));
      tabled = subst (λ vs. Tabled vs table) (sym (above_next passed e)) holds.tabled;
      face = face_on seen.vertices seen.vertices table table seen.face (face_next passed e) (omega arith) (λ vs h t. t) holds.face;
    }

    pub vertex_holds : (p : Point) → line_at file n ≡ vertex p → seen.vertices < length table → SeenTo file (suc n) (counting (seen.vertices + 1) seen) (set table seen.vertices (entered p))
    vertex_holds p e room =
        let c = holds.count in
        let l = length-append (above file n) (p ∷ []) in
        let q = above_next (vertex p) e in
        record {
          count = let s = ap length q in omega arith;
          tabled = rw (q, c) (tabled_more (above file n) p table (omega arith) holds.tabled);
          face = face_on seen.vertices (seen.vertices + 1) table _ seen.face (face_next (vertex p) e) (omega arith) (kept_past table seen.vertices (entered p)) holds.face;
        }

    -- a face
    module _ (ns : List ℤ) (e : line_at file n ≡ face ns) where
      pub face_passes : face_in file n ≡ none → all_named seen.vertices ns ≡ true → Passes (line_checks file n)
      unfolding line_checks
      face_passes f g = (
        λ q. no (cc),
        (λ s. no (cc), (λ ms q. let d : ns ≡ ms = cc in subst (λ l. all_named (length (above file n)) l ≡ true) d (rw holds.count at g), tt)),
      )

      pub face_holds : (f : Face) → line_of f.line.now ≡ face ns → f.above ≡ seen.vertices → all_named seen.vertices ns ≡ true → SeenTo file (suc n) (facing f seen) table
      face_holds f s k g = record {
        count = holds.count ∙ sym (ap length (above_next (face ns) e));
        tabled = subst (λ vs. Tabled vs table) (sym (above_next (face ns) e)) holds.tabled;
        face = record {
          indices = ns;
          vertices = above file n;
          line = s;
          count = k ∙ holds.count;
          few = omega arith;
          named = rw k g;
          tabled = holds.tabled;
          face = face_next (face ns) e;
        };
      }

      pub second_fault : (f : Face) → Faced file n seen.vertices f table → Fault (line_checks file n) (refuse 16 (suc n) 0)
      unfolding line_checks
      second_fault h f = inr (λ q. no (cc), inl (λ q. q (record { indices = ns; line = e; corners = _; above = f.face }), refl))

      pub unnamed_fault : face_in file n ≡ none → all_named seen.vertices ns ≡ false → Fault (line_checks file n) (refuse 15 (suc n) 0)
      unfolding line_checks
      unnamed_fault f g = inr (λ q. no (cc), inr (λ s. no (cc), inl (λ q. no (let t = q ns e in let u = rw holds.count at g in cc), refl)))

  pub other_fault : line_at file n ≡ other → Fault (line_checks file n) (refuse 14 (suc n) 0)
  unfolding line_checks
  other_fault e = inl (λ f. f e, refl)

-- no face was seen, or one
module _ (file : List ℕ) (n k : ℕ) (table : List Entry) where
  pub none_seen : (o : Option Face) → is_some o ≡ false → FaceSeen file n k table o → face_in file n ≡ none
  none_seen None e f = f
  none_seen (Some g) e f = cc

  pub face_seen : (o : Option Face) → is_some o ≡ true → FaceSeen file n k table o → (g : Face) × Faced file n k g table
  face_seen (Some g) e f = (g, f)
  face_seen None e f = no (cc)

-- ---- the lines before what is left: they pass, and are seen
pub record Under (file : List ℕ) (table : List Entry) (seen : Seen) (left : Option (List ℕ)) (n : ℕ) : Type 0 where
  pub size : length table ≡ 8192
  pub number : n + taken_by left ≤ suc (length file)
  pub count : n ≤ length (lines file)
  pub bytes : 8 * seen.vertices + taken_by left ≤ suc (length file)
  pub rest : drop n (lines file) ≡ lines_in left
  pub passes : Passes (lines_checks file n)
  pub holds : SeenTo file n seen table

pub under_start : (file : List ℕ) (table : List Entry) → length table ≡ 8192 → Under file table (record { vertices = 0; face = None }) (Some file) 0
unfolding in_turn above face_in
under_start file table h = record {
  size = h;
  number = omega arith;
  count = omega arith;
  bytes = omega arith;
  rest = refl;
  passes = tt;
  holds = record { count = refl; tabled = λ j k. absurd (omega arith); face = refl };
}

module _ (file : List ℕ) (table : List Entry) (seen : Seen) (n : ℕ) where
  -- at its end all lines are seen
  pub under_end : Under file table seen None n → Scanned file seen table
  under_end u =
      let l = drop_none (lines file) n u.rest in
      let m = u.count in let e : n ≡ length (lines file) = omega arith in
      record { passes = rw e at u.passes; bytes = let r = u.bytes in omega arith; holds = rw e at u.holds }

  module _ (text line : List ℕ) (rest : Option (List ℕ)) (f : FirstLine text line rest) (u : Under file table seen (Some text) n) where
    pub under_room : length file ≤ 65536 → Room line n seen table
    under_room short = let m = u.number in let b = u.bytes in let s = f.shorter in record { number = omega arith; size = u.size; bytes = omega arith }

    pub under_line : get_or (lines file) n [] ≡ line
    under_line = (line_at_lem file n text line rest f u.rest).0

    pub under_fault : (r : Refusal) → Fault (line_checks file n) r → Fault (lines_checks file (length (lines file))) r
    under_fault r g = in_turn_fault (line_checks file) r n (length (lines file)) (line_at_lem file n text line rest f u.rest).2 u.passes g

    pub under_next : (after : List Entry) (next : Seen) → length after ≡ length table → Gone file n (8 * seen.vertices + suc (length line)) next after → Under file after next rest (n + 1)
    unfolding in_turn
    under_next after next e g =
        let m = u.number in let b = u.bytes in let t = f.shorter in let z = u.size in let w = g.bytes in
        let s = add-one n in
        record {
          size = omega arith;
          number = omega arith;
          count = let l = (line_at_lem file n text line rest f u.rest).2 in omega arith;
          bytes = omega arith;
          rest = rw s (line_at_lem file n text line rest f u.rest).1;
          passes = rw s (passes_append (lines_checks file n) (line_checks file n) u.passes g.passes);
          holds = rw s g.holds;
        }
