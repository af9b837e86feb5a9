-- The loop of `Motion::touches`: `best` is the first mark on the edges passed, and corner i is carried with its side. Assumes nothing.
use Rattle.std.proofs.Common.{◌≡◌, ℕ, ◌<◌, ℤ, Option}
use Rattle.rules.specs.Ring.{Pt, Ring, ring}
use Rattle.decide.specs.Span.{Span}
use Rattle.decide.specs.Touch.{across, touches}
use Rattle.piece.specs.Seen.{pt_of, span_of}
use Rattle.piece.specs.Tells.{Marks}
use Rattle.piece.proofs.motion.Motion.touches.Given as goal

-- corner i, and its side
pub record At (r : Ring) (p w : Pt) (i : ℕ) (a : Pt) (c : ℤ) : Type 0 where
  pub corner : a ≡ r.at i
  pub side : c ≡ across p w a

pub record Kept (r : Ring) (p w : Pt) (s : Span) (best : Option ℕ) (a : Pt) (c : ℤ) (i : ℕ) : Type 0 where
  pub first : Marks best (touches r p w s i)
  pub here : i < r.size → At r p w i a c

abbrev pub invariant-loop-i : goal.invariant-loop-i
invariant-loop-i l = Kept (ring l.l.list.now) (pt_of l.self.start) (pt_of l.self.speed) (span_of l.s) l.best (pt_of l.a) l.c l.i
