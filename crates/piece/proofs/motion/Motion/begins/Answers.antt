-- `Motion::begins` places the point: its coordinates as the span begins, over that moment's denominator, are near enough for `place_at`. Assumes nothing.
use mathlib.Core.Path.{◌≡◌}
use native.Mathlib.Omega.{arith}
use mir.Syntax.{w64}
use Rattle.whole.proofs.Range.{read}
use Rattle.rules.specs.Ring.{Pt}
use Rattle.decide.specs.Touch.{start_point}
use Rattle.good.specs.Numbers.{pt}
use Rattle.piece.specs.Seen.{pt_of, span_of}
use Rattle.piece.specs.Sizes.{Far}
use Rattle.piece.proofs.Steps.{word, back}
use Rattle.piece.proofs.Touch.{along_steps, along_said, along_most}
use Rattle.piece.proofs.motion.Motion.begins.Goals as goal
use Rattle.piece.proofs.motion.Motion.begins.Goals.{After-along-2}

pub along-requires : goal.along-requires
along-requires c =
    let m = c.args.self in
    let s = c.args.s in
    along_steps s.low.d m.start.x s.low.n m.speed.x c.requires.low_d m.close.x c.requires.low_n m.slow.x

pub along-requires-2 : goal.along-requires-2
along-requires-2 c =
    let m = c.args.self in
    let s = c.args.s in
    along_steps s.low.d m.start.y s.low.n m.speed.y c.requires.low_d m.close.y c.requires.low_n m.slow.y

-- what is known when both coordinates are made
module _ (c : After-along-2) where
  abbrev p : Pt
  p = start_point (pt_of c.args.self.start) (pt_of c.args.self.speed) (span_of c.args.s)

  x : word c.along.result ≡ p.x
  x =
      let m = c.args.self in
      let s = c.args.s in
      read w64 c.along.type_inv (along_said s.low.d m.start.x s.low.n m.speed.x c.requires.low_d m.close.x c.requires.low_n m.slow.x _ c.along.ensures)

  y : word c.along-2.result ≡ p.y
  y =
      let m = c.args.self in
      let s = c.args.s in
      read w64 c.along-2.type_inv (along_said s.low.d m.start.y s.low.n m.speed.y c.requires.low_d m.close.y c.requires.low_n m.slow.y _ c.along-2.ensures)

  far : Far (pt (word c.along.result) (word c.along-2.result))
  far =
      let m = c.args.self in
      let s = c.args.s in
      rw (x, y) (record {
        x = along_most s.low.d m.start.x s.low.n m.speed.x c.requires.low_d m.close.x c.requires.low_n m.slow.x;
        y = along_most s.low.d m.start.y s.low.n m.speed.y c.requires.low_d m.close.y c.requires.low_n m.slow.y;
      })

pub invariant_of-p : goal.invariant_of-p
invariant_of-p c = record { far = far (goal.at.invariant_of-p c).After-along-2 }

pub returns : goal.returns
returns c =
    let k = (goal.at.returns c).After-along-2 in
    rw (x k, y k, back c.args.s.low.d (let h = c.requires.low_d in omega arith)) at c.place_at.ensures
