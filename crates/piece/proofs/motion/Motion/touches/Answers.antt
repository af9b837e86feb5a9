-- `Motion::touches` is touches over all edges: `best` is that of the edges passed, and corner i is carried with its side. Assumes nothing.
use mathlib.Core.Path.{◌≡◌, refl, ap, ◌∙◌}
use Prim.Native.Nat.{ℕ, ◌+◌, ◌≤◌, ◌<◌}
use native.Mathlib.Omega.{arith}
use native.Mathlib.Numerals.{add-one}
use lib.IntN.{ℤ}
use mir.Syntax.{w64}
use Rattle.std.proofs.Common.{Option}
use Rattle.whole.proofs.Range.{read}
use Rattle.rules.specs.Ring.{Pt, Ring, ring, next}
use Rattle.rules.proofs.Ring.{next_inner}
use Rattle.decide.specs.Span.{Span}
use Rattle.decide.specs.Touch.{across, touch, touches}
use Rattle.piece.specs.Seen.{pt_of, span_of}
use Rattle.piece.specs.Tells.{Marks, earlier}
use Rattle.piece.proofs.Tells.{marks_earlier}
use Rattle.piece.proofs.Steps.{word, close_at, close_after}
use Rattle.piece.proofs.motion.Motion.touches.Invariants.{Kept}
use Rattle.piece.proofs.motion.Motion.touches.Goals as goal
use Rattle.piece.proofs.motion.Motion.touches.Goals.{After-across-d}

-- one edge more
module _ (r : Ring) (p w : Pt) (s : Span) (i : ℕ) (best t : Option ℕ) (a b : Pt) (c d : ℤ) where
  step : Kept r p w s best a c i → i < r.size → b ≡ r.at (next r.size i) → d ≡ across p w b → Marks t (touch p w s a b) → Kept r p w s (earlier best t) b d (i + 1)
  unfolding touches
  step k h e f m = record {
    first = rw (add-one i) (marks_earlier best t _ _ k.first (rw ((k.here h).corner, e) at m));
    here = λ l. record { corner = rw (add-one i) (e ∙ ap (λ (j : ℕ). r.at j) (next_inner r.size i (rw (add-one i) at l))); side = f };
  }

-- every edge passed
all : (r : Ring) (p w : Pt) (s : Span) (i : ℕ) (best : Option ℕ) → i ≤ r.size → r.size ≤ i → Marks best (touches r p w s i) → Marks best (touches r p w s r.size)
all r p w s i best h k m = let e : i ≡ r.size = omega arith in rw e at m

pub across-c-requires : goal.across-c-requires
across-c-requires c = close_at c.args.l.list.now c.args.l.held _ 0 (let k = c.args.l.held.holds.corners.least in omega (arith, k)) c.at-a.ensures

pub loop-i-init : goal.loop-i-init
unfolding touches
loop-i-init c = record { first = refl; here = λ h. record { corner = c.at-a.ensures; side = read w64 c.across-c.type_inv c.across-c.ensures } }

pub across-d-requires : goal.across-d-requires
across-d-requires c = close_after c.args.l.list.now c.args.l.held _ c.loop-i.i (rw c.count-i-end.ensures at c.loop-i-test.true) c.after-b.ensures

-- the corners of a turn, and its sides
module _ (c : After-across-d) where
  below : c.loop-i.i < (ring c.args.l.list.now).size
  below = rw c.count-i-end.ensures at c.loop-i-test.true

  side : word c.across-d.result ≡ across (pt_of c.args.self.start) (pt_of c.args.self.speed) (pt_of c.after-b.result)
  side = read w64 c.across-d.type_inv c.across-d.ensures

pub invariant_of-e : goal.invariant_of-e
invariant_of-e c =
    let k = (goal.at.invariant_of-e c).After-across-d in
    let l = c.args.l.list.now in
    record {
      close = (
        close_at l c.args.l.held (pt_of c.loop-i.a) c.loop-i.i (below k) (c.loop-i.invariant.here (below k)).corner,
        close_after l c.args.l.held (pt_of c.after-b.result) c.loop-i.i (below k) c.after-b.ensures,
      );
    }

pub touch-requires : goal.touch-requires
touch-requires c = let k = (goal.at.touch-requires c).After-across-d in ((c.loop-i.invariant.here (below k)).side, side k)

pub loop-i-preserved : goal.loop-i-preserved
loop-i-preserved c =
    let k = (goal.at.loop-i-preserved c).After-across-d in
    rw c.earlier-best.ensures (step _ _ _ _ c.loop-i.i c.loop-i.best c.touch.result _ _ _ _ c.loop-i.invariant (below k) c.after-b.ensures (side k) c.touch.ensures)

pub returns : goal.returns
returns c =
    let r = ring c.args.l.list.now in
    let m = c.args.self in
    all r (pt_of m.start) (pt_of m.speed) (span_of c.args.s) c.loop-i.i c.loop-i.best
    (rw c.count-i-end.ensures at c.loop-i.auto.i-end) (rw c.count-i-end.ensures at c.loop-i-test.false) c.loop-i.invariant.first
