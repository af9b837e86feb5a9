-- `mark::mark` is the code of the verdict: the first mark of the motion and of the span that the calls before it gave. Assumes nothing.
use mathlib.Core.Path.{◌≡◌, refl, ◌∙◌}
use mathlib.Core.List.{List, []}
use Prim.Native.Nat.{ℕ}
use lib.IntN.{ℤ}
use Rattle.std.proofs.Common.{Option}
use Rattle.rules.specs.Reach.{Run, Piece}
use Rattle.rules.specs.Ring.{Pt, ring}
use Rattle.decide.specs.Span.{Span}
use Rattle.decide.specs.Touch.{point_of, motion, band_span, first_mark, code}
use Rattle.good.specs.declared.Slab.{Slab}
use Rattle.good.specs.Numbers.{run_of, piece_of}
use Rattle.piece.specs.Tells.{Marks}
use Rattle.piece.proofs.Touch.{level, begins_close, motion_slow, tame_band}
use Rattle.piece.proofs.mark.mark.Goals as goal
use Rattle.piece.proofs.mark.mark.Goals.{After-band_span}

-- the span is of the heights and speeds alone
band_alone : (r : Run) (b : Slab) (l : List ℤ) → band_span r (piece_of b []) ≡ band_span r (piece_of b l)
unfolding band_span
band_alone r b l = refl

-- the point, the motion and the span of a run and a piece
coded : (r : Run) (k : Piece) (p w : Pt) (s : Span) (o : Option ℕ) → p ≡ point_of r → w ≡ motion r k → s ≡ band_span r k
    → Marks o (first_mark (ring k.corners) p w s) → Marks o (code r k)
unfolding code
coded r k p w s o e f g m = rw (e, f, g) at m

pub motion_of-requires : goal.motion_of-requires
motion_of-requires c =
    let k = piece_of c.args.slab c.args.corners.now in
    (begins_close (run_of c.args.run) k c.requires.0 c.requires.1, motion_slow (run_of c.args.run) k c.requires.0 c.requires.1)

pub band_span-requires : goal.band_span-requires
band_span-requires c =
    let h = level (run_of c.args.run) (piece_of c.args.slab c.args.corners.now) c.requires.0 c.requires.1 in
    record { start = h.start; bottom = h.bottom; top = h.top; rise = h.rise; lift = h.lift; ticks = h.ticks }

pub first_mark-requires : goal.first_mark-requires
first_mark-requires c =
    let r = run_of c.args.run in
    let k = piece_of c.args.slab c.args.corners.now in
    rw (c.band_span.ensures ∙ band_alone r c.args.slab c.args.corners.now) (tame_band r k (level r k c.requires.0 c.requires.1))

pub returns : goal.returns
returns c =
    let r = run_of c.args.run in
    let l = c.args.corners.now in
    coded r (piece_of c.args.slab l) _ _ _ c.first_mark.result
    c.motion_of.ensures.0 c.motion_of.ensures.1 (c.band_span.ensures ∙ band_alone r c.args.slab l) (rw c.new.ensures at c.first_mark.ensures)
