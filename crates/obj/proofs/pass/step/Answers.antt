-- `obj::pass::step` meets its contract: each kind of line is seen, or refused in its order. Assumes nothing.
use mathlib.Core.Path.{◌≡◌, refl, sym, ap, ◌∙◌}
use mathlib.Core.Bool.{Bool}
use mathlib.Core.List.{List, []}
use Prim.Native.Nat.{ℕ, ◌≤◌}
use native.Mathlib.Omega.{arith}
use native.Mathlib.Numerals.{add-one}
use lib.IntN.{ℤ}
use lib.ListN.{length, get_or}
use Rattle.std.proofs.Common.{Result, IfOk}
use Rattle.rules.specs.Reach.{Reach}
use Rattle.line.specs.declared.Missed.{Missed}
use Rattle.line.specs.declared.Vertex.{Vertex}
use Rattle.line.specs.declared.Said.TheVariants as said
use Rattle.line.specs.Text.{lines}
use Rattle.line.specs.Line.{Point, Line, passed, vertex, face, line_of, all_named}
use Rattle.line.specs.Calls.{vertex_of, said_of}
use Rattle.line.proofs.Told.{no}
use Rattle.line.proofs.Says.{said_passed, said_other, said_vertex, said_face, vertex_long}
use Rattle.obj.specs.File.{line_at}
use Rattle.obj.proofs.Exact.{entry_reach}
use Rattle.obj.proofs.Seen.{plain_passes, passed_holds, vertex_holds, face_passes, face_holds, other_fault, second_fault, unnamed_fault, none_seen, face_seen}
use Rattle.obj.proofs.pass.step.Goals as goal

-- what the line says is what line n of the file is
is_line : (file line : List ℕ) (n : ℕ) (l : Line) → get_or (lines file) n [] ≡ line → line_of line ≡ l → line_at file n ≡ l
is_line file line n l e f = ap line_of e ∙ f

both : (v : Vertex) (x y : Result ℤ Missed) → v.x ≡ x → v.y ≡ y → v ≡ record { x = x; y = y }
both v x y e f = rw (← e, ← f)

-- a vertex, and room for it
module _ (line : List ℕ) (k : ℕ) (v : Vertex) (e : said.Vertex v ≡ said_of k (line_of line)) where
  vertex_in : (p : Point) × (line_of line ≡ vertex p) × (v ≡ vertex_of p)
  vertex_in = let w = said_vertex k (line_of line) v (sym e) in (w.0, w.1, both v _ _ w.2 w.3)

  long : 7 ≤ length line
  long = vertex_long line vertex_in.0 vertex_in.1

  near : IfOk v.x Reach × IfOk v.y Reach
  near = rw vertex_in.2 (entry_reach vertex_in.0.x, entry_reach vertex_in.0.y)

-- a face
face_in : (line : List ℕ) (k : ℕ) (b : Bool) → said.Face b ≡ said_of k (line_of line) → (ns : List ℤ) × (line_of line ≡ face ns) × (all_named k ns ≡ b)
face_in line k b e = said_face k (line_of line) b (sym e)

pub entry_of-requires : goal.entry_of-requires
entry_of-requires c = near _ _ _ c.in-Vertex.ensures

pub bounds-table-above : goal.bounds-table-above
bounds-table-above c = let h = long _ _ _ c.in-Vertex.ensures in let r = c.requires in omega arith

pub returns-in-Face : goal.returns-in-Face
returns-in-Face c file e h =
    let f = face_in _ _ _ c.in-Face.ensures in
    let s = face_seen file c.args.i c.args.seen.vertices c.args.table.now c.args.seen.face (sym c.is_some.ensures ∙ c.if-is_some.true) h.face in
    rw (add-one c.args.i) (second_fault _ _ _ _ h f.0 (is_line file _ _ _ e f.1) s.0 s.1)

pub returns-in-Face-false : goal.returns-in-Face-false
returns-in-Face-false c file e h =
    let f = face_in _ _ _ c.in-Face.ensures in
    let none = none_seen file c.args.i c.args.seen.vertices c.args.table.now c.args.seen.face (sym c.is_some.ensures ∙ c.if-is_some.false) h.face in
    rw (add-one c.args.i) (unnamed_fault _ _ _ _ h f.0 (is_line file _ _ _ e f.1) none (f.2 ∙ c.in-Face-false.field-0-test))

pub returns-in-Face-true : goal.returns-in-Face-true
returns-in-Face-true c file e h =
    let f = face_in _ _ _ c.in-Face.ensures in
    let l = is_line file _ c.args.i (face f.0) e f.1 in
    let all = f.2 ∙ c.in-Face-true.field-0-test in
    let none = none_seen file c.args.i c.args.seen.vertices c.args.table.now c.args.seen.face (sym c.is_some.ensures ∙ c.if-is_some.false) h.face in
    record {
      passes = face_passes _ _ _ _ h f.0 l none all;
      bytes = omega arith;
      holds = face_holds _ _ _ _ h f.0 l _ f.1 refl all;
    }

pub returns-in-Passed : goal.returns-in-Passed
returns-in-Passed c file e h =
    let l = is_line file _ c.args.i passed e (said_passed _ _ (sym c.in-Passed.ensures)) in
    record { passes = plain_passes _ _ passed l (λ q. no (cc)) (λ ns q. no (cc)); bytes = omega arith; holds = passed_holds _ _ _ _ h l }

pub returns-in-Other : goal.returns-in-Other
returns-in-Other c file e h = rw (add-one c.args.i) (other_fault _ _ (is_line file _ _ _ e (said_other _ _ (sym c.in-Other.ensures))))

pub returns-in-Vertex : goal.returns-in-Vertex
returns-in-Vertex c file e h =
    let v = vertex_in _ _ _ c.in-Vertex.ensures in let s = long _ _ _ c.in-Vertex.ensures in let r = c.requires in
    let l = is_line file _ c.args.i (vertex v.0) e v.1 in
    record {
      passes = plain_passes _ _ (vertex v.0) l (λ q. no (cc)) (λ ns q. no (cc));
      bytes = omega arith;
      holds = rw (c.entry_of.ensures, v.2) (vertex_holds _ _ _ _ h v.0 l (omega arith));
    }
