-- `line::next_corner` meets its contract: the next word of what stands from here on. Assumes nothing.
use mathlib.Core.Path.{refl, ap, ◌∙◌}
use native.Mathlib.Omega.{arith}
use Rattle.line.specs.Calls.{corner_or}
use Rattle.line.proofs.Parts.{suffix}
use Rattle.line.proofs.Words.{no_word_from, word_from}
use Rattle.line.proofs.next_corner.Goals as goal

pub returns-in_err-w : goal.returns-in_err-w
returns-in_err-w c =
    let line = c.args.line.now in
    rw (c.from_residual.ensures, ← c.within-at.ensures) (no_word_from line c.within-at.result (omega arith) (rw suffix at c.in_err-w.ensures))

pub returns : goal.returns
returns c =
    let line = c.args.line.now in
    let at = c.within-at.result in
    let p = word_from line at (omega arith) c.in_ok-w.w.now c.in_ok-w.rest.now _ _ (rw suffix at c.in_ok-w.ensures) refl refl in
    record { some = p.0; word = rw (← c.within-at.ensures) p.1; vertex = c.corner-vertex.ensures ∙ ap (corner_or c.args.above) p.2 }
