-- The point that a corner within reach is. Assumes nothing.
use Rattle.rules.specs.Ring.{Pt}
use Rattle.footprint.specs.declared.point.Point.{Point}

abbrev pub pt : Point → Pt
pt p = record { x = p.x; y = p.y }
