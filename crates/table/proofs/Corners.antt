-- Every corner of a footprint, and every point of its edges, is on it. Assumes nothing.
use Prim.Native.Nat.{ℕ, ◌<◌}
use Rattle.rules.specs.Ring.{Pt, Ring, from, to, On}
use Rattle.rules.specs.Place.{on, Place}
use Rattle.decide.proofs.Share.{on_start}

pub edge_on : (r : Ring) (p : Pt) (i : ℕ) → i < r.size → On p (from r i) (to r i) → Place r p on
edge_on r p i h o = record { edge = i; below = h; on = o }

pub corner_on : (r : Ring) (i : ℕ) → i < r.size → Place r (r.at i) on
corner_on r i h = edge_on r (r.at i) i h (on_start (from r i) (to r i))
