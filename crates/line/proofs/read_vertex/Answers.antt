-- `line::read_vertex` meets its contract: a word that is no decimal ends it, however many words there are. Assumes nothing.
use mathlib.Core.Path.{◌≡◌, refl, sym, ◌∙◌}
use mathlib.Core.Bool.{false, and-false}
use mathlib.Core.List.{List, [], ◌∷◌}
use Prim.Native.Nat.{ℕ}
use Rattle.std.proofs.Common.{None}
use Rattle.line.specs.Text.{words}
use Rattle.line.specs.Number.{is_decimal}
use Rattle.line.specs.Line.{vertex_line}
use Rattle.line.specs.Steps.{vertex_in}
use Rattle.line.proofs.Told.{missing}
use Rattle.line.proofs.Words.{taken_words}
use Rattle.line.proofs.read_vertex.Goals as goal

no_height : (x h : List ℕ) (ws : List (List ℕ)) → is_decimal h ≡ false → vertex_in (vertex_line (x ∷ (h ∷ ws))) ≡ None
no_height x h [] e = refl
no_height x h (z ∷ []) e = rw (e, and-false (is_decimal x))
no_height x h (z ∷ (w ∷ ws)) e = refl

no_z : (x h z : List ℕ) (ws : List (List ℕ)) → is_decimal z ≡ false → vertex_in (vertex_line (x ∷ (h ∷ (z ∷ ws)))) ≡ None
no_z x h z [] e = rw (e, and-false (is_decimal h), and-false (is_decimal x))
no_z x h z (w ∷ ws) e = refl

pub returns-in_err-decimal : goal.returns-in_err-decimal
returns-in_err-decimal c =
    let x = c.in_ok-x in let h = c.in_ok-height in
    let e = missing _ _ c.in_err-decimal.ensures in
    c.from_residual-in_err-decimal.ensures ∙ rw (taken_words _ _ _ x.ensures, taken_words _ _ _ h.ensures) (sym (no_height x.x.now h.height.now (words h.rest.now) e))

pub returns-in_err-y : goal.returns-in_err-y
returns-in_err-y c =
    let x = c.in_ok-x in let h = c.in_ok-height in let z = c.in_ok-z in
    let e = missing _ _ c.in_err-y.ensures in
    c.from_residual-in_err-y.ensures ∙ rw (taken_words _ _ _ x.ensures, taken_words _ _ _ h.ensures, taken_words _ _ _ z.ensures)
    (sym (no_z x.x.now h.height.now z.z.now (words z.rest.now) e))
