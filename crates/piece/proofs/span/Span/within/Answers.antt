-- `Span::within` is within: clipped from the least of the two and then up to the most, whose differences fit. Assumes nothing.
use mathlib.Core.Path.{◌≡◌, ap, ◌∙◌}
use native.Mathlib.Omega.{arith}
use lib.IntN.{ℤ, pos, neg_ℤ, ◌-ℤ◌}
use mir.Facts.{to_z-of_z}
use mir.Syntax.{w64}
use mir.Val.{SFits}
use Rattle.whole.proofs.Range.{read}
use Rattle.decide.specs.Span.{Span, clip}
use Rattle.decide.specs.Touch.{least, most, within}
use Rattle.piece.specs.Seen.{span_of}
use Rattle.piece.specs.Sizes.{Slope}
use Rattle.piece.proofs.Steps.{word}
use Rattle.piece.proofs.Moving.{turned}
use Rattle.piece.proofs.Touch.{low, high, low_fits, high_fits}
use Rattle.piece.proofs.span.Span.within.Goals as goal
use Rattle.piece.proofs.span.Span.within.Goals.{After-least, After-most}

-- the least or the most, read back
ends : (f : ℤ → ℤ → ℤ) (a b : ℤ) → SFits w64 a → SFits w64 b → f (word a) (word b) ≡ f a b
ends f a b h k = rw (to_z-of_z h, to_z-of_z k)

-- what is known when the least of the two is taken
module _ (c : After-least) where
  abbrev p : ℤ
  p = c.args.p

  abbrev w : ℤ
  w = c.args.w

  abbrev s : Span
  s = span_of c.args.self

  abbrev a : ℤ
  a = c.args.a

  abbrev b : ℤ
  b = c.args.b

  -- p, w and the least, as a call reads them
  abbrev i : ℤ
  i = word p

  abbrev j : ℤ
  j = word w

  abbrev u : ℤ
  u = word c.least.result

  e : i ≡ p
  e = to_z-of_z c.ranges.p

  f : j ≡ w
  f = to_z-of_z c.ranges.w

  k : u ≡ least a b
  k = read w64 c.least.type_inv (c.least.ensures ∙ ends least _ _ c.ranges.a c.ranges.b)

  from_fits : SFits w64 (i -ℤ u)
  from_fits = rw (e, k) (low_fits _ _ _ _ c.requires)

  from : word (i -ℤ u) ≡ p -ℤ least a b
  from = rw (e, k) (to_z-of_z (low_fits _ _ _ _ c.requires))

  asked : Slope (word (i -ℤ u)) j
  asked = rw (from, f) (low _ _ _ _ c.requires)

  -- what the first clip gives
  first : (t : Span) → t ≡ clip s (word (i -ℤ u)) j → t ≡ clip s (p -ℤ least a b) w
  first t q = rw (from, f) at q

  back : word (pos 0 -ℤ j) ≡ neg_ℤ w
  back = rw f (turned w (omega (arith, c.requires.speed)))

  -- the most, as a call reads it
  module _ (v : ℤ) (l : word v ≡ most a b) where
    to_fits : SFits w64 (word v -ℤ i)
    to_fits = rw (e, l) (high_fits _ _ _ _ c.requires)

    to : word (word v -ℤ i) ≡ most a b -ℤ p
    to = rw (e, l) (to_z-of_z (high_fits _ _ _ _ c.requires))

    slope : Slope (word (word v -ℤ i)) (word (pos 0 -ℤ j))
    slope = rw (to, back) (high _ _ _ _ c.requires)

    second : (t r : Span) → t ≡ clip s (word (i -ℤ u)) j → r ≡ clip t (word (word v -ℤ i)) (word (pos 0 -ℤ j)) → r ≡ within p w s a b
    unfolding within
    second t r q n = rw (to, back) at n ∙ ap (λ (t : Span). clip t (most a b -ℤ p) (neg_ℤ w)) (first t q)

top : (c : After-most) → word c.most.result ≡ most c.args.a c.args.b
top c = read w64 c.most.type_inv (c.most.ensures ∙ ends most _ _ c.ranges.a c.ranges.b)

pub overflow_sub-p : goal.overflow_sub-p
overflow_sub-p c = from_fits (goal.at.overflow_sub-p c).After-least

pub clip-requires : goal.clip-requires
clip-requires c = asked (goal.at.clip-requires c).After-least

pub overflow_sub-most : goal.overflow_sub-most
overflow_sub-most c =
    let t = goal.at.overflow_sub-most c in
    to_fits t.After-least c.most.result (top t.After-most)

pub clip-requires-2 : goal.clip-requires-2
clip-requires-2 c =
    let t = goal.at.clip-requires-2 c in
    slope t.After-least c.most.result (top t.After-most)

pub returns : goal.returns
returns c =
    let t = goal.at.returns c in
    second t.After-least c.most.result (top t.After-most) _ _ c.clip.ensures c.clip-2.ensures
