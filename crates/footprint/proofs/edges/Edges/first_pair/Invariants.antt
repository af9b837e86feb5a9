-- The loop of `edges::Edges::first_pair`: no edge passed meets a later one. Assumes nothing.
use Rattle.std.proofs.Common.{ℕ, ◌<◌}
use Rattle.rules.specs.Ring.{ring}
use Rattle.rules.specs.Good.{Meet}
use Rattle.footprint.proofs.edges.Edges.first_pair.Given as goal

abbrev pub invariant-loop-i : goal.invariant-loop-i
invariant-loop-i l = (h k : ℕ) → h < l.i → Meet (ring l.self.corners.list.now) h k → ⊥
