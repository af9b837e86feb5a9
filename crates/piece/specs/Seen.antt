-- The points and spans that the structs say. Assumes nothing.
use Rattle.rules.specs.Ring.{Pt}
use Rattle.decide.specs.Span as decide
use Rattle.good.specs.Numbers.{pt}
use Rattle.piece.specs.declared.point.Point.{Point}
use Rattle.piece.specs.declared.span.Span.{Span}

abbrev pub pt_of : Point → Pt
pt_of p = pt p.x p.y

abbrev pub span_of : Span → decide.Span
span_of s = record { low_n = s.low.n; low_d = s.low.d; high_n = s.high.n; high_d = s.high.d }
