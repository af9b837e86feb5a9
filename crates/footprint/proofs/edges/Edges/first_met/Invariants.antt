-- The loop of `edges::Edges::first_met`: the edges passed share no point with edge i. Assumes nothing.
use Rattle.std.proofs.Common.{◌≡◌, false, ℕ, ◌+◌, ◌≤◌, ◌<◌}
use Rattle.rules.specs.Ring.{ring}
use Rattle.footprint.specs.Shape.{edges_share}
use Rattle.footprint.proofs.edges.Edges.first_met.Given as goal

abbrev pub invariant-loop-j : goal.invariant-loop-j
invariant-loop-j l = (m : ℕ) → l.i + 2 ≤ m → m < l.j → edges_share (ring l.self.corners.list.now) l.i m ≡ false
