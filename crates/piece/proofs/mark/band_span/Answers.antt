-- `mark::band_span` is band_span: the ticks, clipped by the height above the bottom and by that under the top, with the rise turned. Assumes nothing.
use mathlib.Core.Path.{◌≡◌, ap, ◌∙◌}
use native.Mathlib.Omega.{arith}
use borrow.Author.Rules.{rules}
use Rattle.std.specs.Prelude.{[]}
use Prim.Native.Nat.{◌≤◌}
use lib.IntN.{ℤ, pos, neg_ℤ, nat_abs, ◌-ℤ◌}
use mir.Facts.{to_z_pos}
use mir.Syntax.{w64}
use mir.Val.{SFits}
use Rattle.whole.proofs.Range.{read}
use Rattle.rules.specs.Reach.{Run, Piece}
use Rattle.decide.specs.Span.{Span, ticks, clip}
use Rattle.decide.specs.Touch.{band_span}
use Rattle.good.specs.Numbers.{run_of, piece_of}
use Rattle.piece.specs.Sizes.{Slope}
use Rattle.piece.proofs.Steps.{word}
use Rattle.piece.proofs.Moving.{turned, turned_fits}
use Rattle.piece.proofs.Touch.{climb, over_bottom, under_top, slope_of}
use Rattle.piece.proofs.mark.band_span.Goals as goal
use Rattle.piece.proofs.mark.band_span.Goals.{After-gap-2}

-- what is known when the three differences are taken
module _ (c : After-gap-2) where
  abbrev r : Run
  r = run_of c.args.run

  abbrev k : Piece
  k = piece_of c.args.slab []

  -- the run's length, the rise, the height above the bottom and that under the top, as a call reads them
  abbrev n : ℤ
  n = word (pos r.ticks)

  abbrev i : ℤ
  i = word c.gap-w.result

  abbrev u : ℤ
  u = word c.gap.result

  abbrev v : ℤ
  v = word c.gap-2.result

  o : n ≡ pos r.ticks
  o = to_z_pos w64 (omega (arith, c.requires.ticks))

  e : i ≡ climb r k
  e = read w64 c.gap-w.type_inv (c.gap-w.ensures ∙ search rules)

  f : u ≡ r.start.z -ℤ k.bottom
  f = read w64 c.gap.type_inv (c.gap.ensures ∙ search rules)

  g : v ≡ k.top -ℤ r.start.z
  g = read w64 c.gap-2.type_inv (c.gap-2.ensures ∙ search rules)

  bottom : Slope (r.start.z -ℤ k.bottom) (climb r k)
  bottom = slope_of _ _ (over_bottom r k c.requires)

  steep : nat_abs (climb r k) ≤ 8589934592
  steep = omega (arith, bottom.slope)

  turns : SFits w64 (pos 0 -ℤ i)
  turns = rw e (turned_fits (climb r k) steep)

  back : word (pos 0 -ℤ i) ≡ neg_ℤ (climb r k)
  back = rw e (turned (climb r k) steep)

  -- what the first clip gives
  first : (t : Span) → t ≡ clip (ticks n) u i → t ≡ clip (ticks (pos r.ticks)) (r.start.z -ℤ k.bottom) (climb r k)
  first t q = rw (o, f, e) at q

  again : Slope v (word (pos 0 -ℤ i))
  again = rw (g, back) (slope_of _ _ (under_top r k c.requires))

  second : (t s : Span) → t ≡ clip (ticks n) u i → s ≡ clip t v (word (pos 0 -ℤ i)) → s ≡ band_span r k
  unfolding band_span
  second t s q l = rw (g, back) at l ∙ ap (λ (t : Span). clip t (k.top -ℤ r.start.z) (neg_ℤ (climb r k))) (first t q)

pub overflow_sub-w : goal.overflow_sub-w
overflow_sub-w c = turns (goal.at.overflow_sub-w c).After-gap-2

pub clip-requires-2 : goal.clip-requires-2
clip-requires-2 c = again (goal.at.clip-requires-2 c).After-gap-2

pub returns : goal.returns
returns c = second (goal.at.returns c).After-gap-2 _ _ c.clip.ensures c.clip-2.ensures
