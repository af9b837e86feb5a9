-- `Motion::on_line` is on_line: clipped by the side and its swing, and again with both turned, which fit. Assumes nothing.
use mathlib.Core.Path.{◌≡◌, ap, ◌∙◌}
use Prim.Native.Nat.{◌≤◌}
use native.Mathlib.Omega.{arith}
use lib.IntN.{ℤ, pos, neg_ℤ, nat_abs, ◌-ℤ◌}
use mir.Syntax.{w64}
use mir.Val.{SFits}
use Rattle.whole.proofs.Range.{read}
use Rattle.rules.specs.Ring.{Pt}
use Rattle.decide.specs.Side.{side_of}
use Rattle.decide.specs.Span.{Span, clip}
use Rattle.decide.specs.Touch.{swing, on_line}
use Rattle.piece.specs.Seen.{pt_of, span_of}
use Rattle.piece.specs.Sizes.{Slope}
use Rattle.piece.proofs.Steps.{word}
use Rattle.piece.proofs.Moving.{turned, turned_fits}
use Rattle.piece.proofs.Touch.{line, line'}
use Rattle.piece.proofs.motion.Motion.on_line.Goals as goal
use Rattle.piece.proofs.motion.Motion.on_line.Goals.{After-swing-b}

-- what is known when the side and the swing are taken
module _ (c : After-swing-b) where
  abbrev p : Pt
  p = pt_of c.args.self.start

  abbrev w : Pt
  w = pt_of c.args.self.speed

  abbrev s : Span
  s = span_of c.args.s

  abbrev a : Pt
  a = pt_of c.args.e.from

  abbrev b : Pt
  b = pt_of c.args.e.to

  -- the side and the swing, as a call reads them
  abbrev i : ℤ
  i = word c.side-a.result

  abbrev j : ℤ
  j = word c.swing-b.result

  e : i ≡ side_of a b p
  e = read w64 c.side-a.type_inv c.side-a.ensures

  f : j ≡ swing a b w
  f = read w64 c.swing-b.type_inv c.swing-b.ensures

  fits_line : Slope (side_of a b p) (swing a b w)
  fits_line = line p w a b c.args.self.close c.args.self.slow c.args.e.close.0 c.args.e.close.1

  steep : nat_abs (swing a b w) ≤ 8589934592
  steep = omega (arith, fits_line.slope)

  asked : Slope i j
  asked = rw (e, f) fits_line

  side_turns : SFits w64 (pos 0 -ℤ i)
  side_turns = rw e (turned_fits (side_of a b p) fits_line.base)

  swing_turns : SFits w64 (pos 0 -ℤ j)
  swing_turns = rw f (turned_fits (swing a b w) steep)

  side_back : word (pos 0 -ℤ i) ≡ neg_ℤ (side_of a b p)
  side_back = rw e (turned (side_of a b p) fits_line.base)

  swing_back : word (pos 0 -ℤ j) ≡ neg_ℤ (swing a b w)
  swing_back = rw f (turned (swing a b w) steep)

  -- what the first clip gives
  first : (t : Span) → t ≡ clip s i j → t ≡ clip s (side_of a b p) (swing a b w)
  first t q = rw (e, f) at q

  again : Slope (word (pos 0 -ℤ i)) (word (pos 0 -ℤ j))
  again = rw (side_back, swing_back) (line' p w a b c.args.self.close c.args.self.slow c.args.e.close.0 c.args.e.close.1)

  second : (t r : Span) → t ≡ clip s i j → r ≡ clip t (word (pos 0 -ℤ i)) (word (pos 0 -ℤ j)) → r ≡ on_line p w s a b
  unfolding on_line
  second t r q n = rw (side_back, swing_back) at n ∙ ap (λ (t : Span). clip t (neg_ℤ (side_of a b p)) (neg_ℤ (swing a b w))) (first t q)

pub clip-requires : goal.clip-requires
clip-requires c = asked (goal.at.clip-requires c).After-swing-b

pub overflow_sub-a : goal.overflow_sub-a
overflow_sub-a c = side_turns (goal.at.overflow_sub-a c).After-swing-b

pub overflow_sub-b : goal.overflow_sub-b
overflow_sub-b c = swing_turns (goal.at.overflow_sub-b c).After-swing-b

pub clip-requires-2 : goal.clip-requires-2
clip-requires-2 c = again (goal.at.clip-requires-2 c).After-swing-b

pub returns : goal.returns
returns c = second (goal.at.returns c).After-swing-b _ _ c.clip.ensures c.clip-2.ensures
