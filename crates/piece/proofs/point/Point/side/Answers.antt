-- `Point::side` is side_of: the four differences and what comes of them fit. Assumes nothing.
use mir.Syntax.{w64}
use Rattle.whole.proofs.Range.{read}
use Rattle.piece.specs.Seen.{pt_of}
use Rattle.piece.proofs.Steps.{side_steps, side_said}
use Rattle.piece.proofs.point.Point.side.Goals as goal

pub cross-requires : goal.cross-requires
cross-requires c = side_steps (pt_of c.args.a) (pt_of c.args.b) (pt_of c.args.self) c.args.a.far c.args.b.far c.args.self.far

pub returns : goal.returns
returns c = read w64 c.cross.type_inv (side_said (pt_of c.args.a) (pt_of c.args.b) (pt_of c.args.self) c.args.a.far c.args.b.far c.args.self.far _ c.cross.ensures)
