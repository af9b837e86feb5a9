-- `spot::is_on` is is_on: in the box the line decides, and off it nothing is on. Assumes nothing.
use mathlib.Core.Path.{◌≡◌, ◌∙◌}
use mathlib.Core.Bool.{Bool, ◌&&◌}
use lib.IntN.{pos}
use mir.Syntax.{w64}
use mir.Val.{of_z}
use Rattle.std.proofs.Common.{nat_eq}
use Rattle.rules.specs.Ring.{Pt}
use Rattle.decide.specs.Side.{side_of}
use Rattle.decide.specs.Touch.{least, most, ranged}
use Rattle.piece.specs.Seen.{pt_of}
use Rattle.piece.proofs.Scan.{on_boxed, on_line}
use Rattle.piece.proofs.spot.is_on.Goals as goal

abbrev line : Pt → Pt → Pt → Bool
line a b p = ranged (pos 0) (side_of a b p) (pos 0)

abbrev box : Pt → Pt → Pt → Bool
box a b p = ranged (least a.x b.x) p.x (most a.x b.x) && ranged (least a.y b.y) p.y (most a.y b.y)

pub returns-then-in_box : goal.returns-then-in_box
returns-then-in_box c =
    let a = pt_of c.args.a in
    let b = pt_of c.args.b in
    let p = pt_of c.args.p in
    let said : nat_eq (of_z w64 c.side.result) 0 ≡ line a b p = rw (← c.side.ensures) (on_line c.side.result (record { sfits = c.side.type_inv })) in
    let e : nat_eq (of_z w64 c.side.result) 0 ≡ (box a b p && line a b p) = rw (← c.in_box.ensures, c.if-in_box.true) said in
    e ∙ on_boxed (box a b p) (line a b p)

pub returns-else-in_box : goal.returns-else-in_box
returns-else-in_box c =
    let a = pt_of c.args.a in
    let b = pt_of c.args.b in
    let p = pt_of c.args.p in
    let e : c.in_box.result ≡ (box a b p && line a b p) = rw (← c.in_box.ensures, c.if-in_box.false) in
    e ∙ on_boxed (box a b p) (line a b p)
