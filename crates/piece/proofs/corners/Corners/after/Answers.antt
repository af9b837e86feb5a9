-- `Corners::after` is the next corner, the way round that the code takes. Assumes nothing.
use mathlib.Core.Path.{ap, ◌∙◌}
use Prim.Native.Nat.{ℕ}
use Rattle.rules.specs.Ring.{ring}
use Rattle.footprint.proofs.Back.{around_next}
use Rattle.piece.proofs.corners.Corners.after.Goals as goal

pub returns : goal.returns
returns c = c.at.ensures ∙ ap (λ (k : ℕ). (ring c.args.self.list.now).at k) (c.around.ensures ∙ rw c.count.ensures (around_next _ c.args.i))
