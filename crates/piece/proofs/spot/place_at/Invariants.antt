-- `spot::place_at` computes the place: no edge passed has the point on it, `odd` is the parity of those counted, and corner i is carried. Assumes nothing.
use Rattle.std.proofs.Common.{◌≡◌, ◌<◌}
use Rattle.rules.specs.Ring.{ring}
use Rattle.decide.specs.Touch.{over}
use Rattle.piece.specs.Seen.{pt_of}
use Rattle.piece.proofs.Scan.{Scan}
use Rattle.piece.proofs.spot.place_at.Given as goal

-- i edges passed, and corner i carried
abbrev pub invariant-loop-i : goal.invariant-loop-i
invariant-loop-i l = record {
  scan : Scan (over l.d (ring l.l.list.now)) (pt_of l.p) (ring l.l.list.now).size l.i l.odd;
  here : l.i < (ring l.l.list.now).size → pt_of l.a ≡ (over l.d (ring l.l.list.now)).at l.i;
}
