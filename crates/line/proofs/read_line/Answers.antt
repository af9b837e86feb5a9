-- `line::read_line` meets its contract: a line is blank, noted, or told by its first word. Assumes nothing.
use mathlib.Core.Path.{◌≡◌, sym, ap, ◌∙◌}
use mathlib.Core.Bool.{false, cond}
use mathlib.Core.List.{List, [], ◌∷◌}
use Prim.Native.Nat.{ℕ, ◌≤◌, ◌<◌}
use native.Mathlib.Omega.{arith}
use borrow.Author.Tests.{eq-eqb, ne_eqb}
use lib.ListN.{length, get_or}
use Rattle.std.proofs.Common.{rules}
use Rattle.line.specs.Text.{words}
use Rattle.line.specs.Line.{passed, other, same, among, passed_words, vertex_line, face_line, line_of}
use Rattle.line.specs.Calls.{said_of}
use Rattle.line.specs.Steps.{Taken}
use Rattle.line.proofs.Words.{taken_words, words_none, one_byte, other_byte}
use Rattle.line.proofs.Says.{vertex_says, vertex_said, line_blank, line_noted, line_words, by_v, by_f, by_other}
use Rattle.line.proofs.read_line.Goals as goal
use Rattle.line.proofs.read_line.Goals.{After-is_passed, in_default-first-via-then-first-lt1}
use Rattle.line.proofs.read_line.Goals.{in_default-first-via-else-first-lt1+then-first-lt2+in_default-1, in_default-first-via-else-first-lt1+else-first-lt2}

pub returns-in_default : goal.returns-in_default
returns-in_default c = rw (line_blank c.args.line.now (words_none _ c.in_default.ensures))

pub returns-then-line-eq35 : goal.returns-then-line-eq35
returns-then-line-eq35 c = rw (line_noted _ (eq-eqb _ _ c.if-line-eq35.true))

-- past the first two tests there is a first word, and it tells
module _ (line first rest : List ℕ) (t : Taken line first rest) (plain : get_or line 0 0 ≡ 35 → ⊥) where
  is_v : length first ≡ 1 → get_or first 0 0 ≡ 118 → line_of line ≡ vertex_line (words rest)
  is_v l e = line_words line (ne_eqb _ _ plain) ∙ rw (taken_words line first rest t, one_byte first 118 l e) (by_v (words rest))

  is_f : length first ≡ 1 → get_or first 0 0 ≡ 102 → line_of line ≡ face_line (words rest)
  is_f l e = line_words line (ne_eqb _ _ plain) ∙ rw (taken_words line first rest t, one_byte first 102 l e) (by_f (words rest))

  -- neither of them
  abbrev Neither : Type 0
  Neither = (same first (118 ∷ []) ≡ false) × (same first (102 ∷ []) ≡ false)

  neither : (length first ≡ 1 → (get_or first 0 0 ≡ 118 → ⊥) × (get_or first 0 0 ≡ 102 → ⊥)) → Neither
  neither h = (other_byte first 118 (λ l e. (h l).0 e), other_byte first 102 (λ l e. (h l).1 e))

  not_vf : Neither → line_of line ≡ cond (among first passed_words) passed other
  not_vf n = line_words line (ne_eqb _ _ plain) ∙ rw (taken_words line first rest t) (by_other first (words rest) n.0 n.1)

pub returns-in-Some-read_vertex : goal.returns-in-Some-read_vertex
returns-in-Some-read_vertex c =
    let told = is_v _ _ _ c.in-Some.ensures c.if-line-eq35.false (omega arith) (search rules) in
    ap vertex_says c.in-Some-read_vertex.ensures ∙ (sym (vertex_said c.args.above (words c.in-Some.rest.now)) ∙ ap (said_of c.args.above) (sym told))

pub returns-in-None : goal.returns-in-None
returns-in-None c =
    let told = is_v _ _ _ c.in-Some.ensures c.if-line-eq35.false (omega arith) (search rules) in
    ap vertex_says c.in-None.ensures ∙ (sym (vertex_said c.args.above (words c.in-Some.rest.now)) ∙ ap (said_of c.args.above) (sym told))

pub returns-in-f : goal.returns-in-f
returns-in-f c =
    let told = is_f _ _ _ c.in-Some.ensures c.if-line-eq35.false (omega arith) (search rules) in
    c.read_face.ensures ∙ ap (said_of c.args.above) (sym told)

neither_one : (c : After-is_passed) → Neither _ _ _ c.in-Some.ensures c.if-line-eq35.false
neither_one c =
    let n = neither _ _ _ c.in-Some.ensures c.if-line-eq35.false in
    let first = c.in-Some.first.now in
    elim c.in_default-first.branch [
      | in_default-first-via-then-first-lt1 w ↦ let h : length first < 1 = search rules in n (λ l. absurd (omega arith))
      | in_default-first-via-else-first-lt1+then-first-lt2+in_default-1 w ↦ n (λ l. (search rules, search rules))
      | in_default-first-via-else-first-lt1+else-first-lt2 w ↦ let h : 2 ≤ length first = search rules in n (λ l. absurd (omega arith))
    ]

pub returns-then-is_passed : goal.returns-then-is_passed
returns-then-is_passed c =
    let n = neither_one (goal.at.returns-then-is_passed c).After-is_passed in
    rw (not_vf _ _ _ c.in-Some.ensures c.if-line-eq35.false n, sym c.if-is_passed.ensures)

pub returns-else-is_passed : goal.returns-else-is_passed
returns-else-is_passed c =
    let n = neither_one (goal.at.returns-else-is_passed c).After-is_passed in
    rw (not_vf _ _ _ c.in-Some.ensures c.if-line-eq35.false n, sym c.if-is_passed.ensures)
