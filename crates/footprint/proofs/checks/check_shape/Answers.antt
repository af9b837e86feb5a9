-- `checks::check_shape` finds what the checks say: a number out of reach that `draw` came to, or what `settle` finds in its drawing. Assumes nothing.
use Rattle.std.proofs.lemmas.Result.{err_from_is_err_and}
use Rattle.footprint.proofs.Finds.{found_stray}
use Rattle.footprint.proofs.checks.check_shape.Goals as goal

pub returns-in_err-drawing : goal.returns-in_err-drawing
returns-in_err-drawing c = let p = err_from_is_err_and c.from_residual.result c.from_residual.ensures.1 in rw (p.1, p.2) (found_stray _ _ c.in_err-drawing.ensures)
