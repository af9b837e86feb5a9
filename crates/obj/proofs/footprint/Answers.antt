-- `obj::footprint` meets its contract: each refusal in its order, and else what drawing the corners answers. Assumes nothing.
use Rattle.std.proofs.Common.{refl, arith, subst}
use Rattle.std.proofs.lemmas.Result.{err_from_is_err_and}
use Rattle.good.specs.Numbers.{piece_of}
use Rattle.obj.specs.Steps.{Draws}
use Rattle.obj.proofs.Answer.{too_long, line_fault, no_face, point_fault, too_many, gathered_corners, draws_says}
use Rattle.obj.proofs.footprint.Goals as goal

pub returns-then-file-gt65536 : goal.returns-then-file-gt65536
returns-then-file-gt65536 c = (too_long _ _ _ (λ h. omega arith), refl)

pub returns-in_err-seen : goal.returns-in_err-seen
returns-in_err-seen c =
    let p = err_from_is_err_and c.from_residual.result c.from_residual.ensures.1 in
    rw (p.1, p.2) (line_fault _ _ _ c.if-file-gt65536.false _ c.in_err-seen.ensures, refl)

pub returns-in_default : goal.returns-in_default
returns-in_default c =
    let s = c.in_ok-seen.ensures in
    (no_face _ _ _ c.if-file-gt65536.false s.passes (rw c.in_default.is at s.holds.face), refl)

pub gather-requires : goal.gather-requires
gather-requires c =
    let s = c.in_ok-seen.ensures in let f = rw c.in-Some.is at s.holds.face in
    let few = f.few in let bytes = s.bytes in
    record { indices = f.indices; says = f.line; named = f.named; fits = omega arith }

pub returns-in_err-n : goal.returns-in_err-n
returns-in_err-n c =
    let p = err_from_is_err_and c.from_residual-in_err-n.result c.from_residual-in_err-n.ensures.1 in
    let s = c.in_ok-seen.ensures in let f = rw c.in-Some.is at s.holds.face in
    rw (p.1, p.2) (point_fault _ _ _ c.if-file-gt65536.false s.passes _ f.face _ (c.in_err-n.ensures f.vertices f.indices f.count f.line f.tabled), refl)

pub returns-then-n-gt64 : goal.returns-then-n-gt64
returns-then-n-gt64 c =
    let s = c.in_ok-seen.ensures in let f = rw c.in-Some.is at s.holds.face in
    let w = c.in_ok-n.ensures f.vertices f.indices f.count f.line f.tabled in let m = w.count in
    (too_many _ _ _ c.if-file-gt65536.false s.passes _ f.face w.passes (λ l. refl) (omega arith), refl)

pub returns : goal.returns
returns c =
    let s = c.in_ok-seen.ensures in let f = rw c.in-Some.is at s.holds.face in
    let w = c.in_ok-n.ensures f.vertices f.indices f.count f.line f.tabled in
    let k = piece_of c.args.slab in let before = c.args.list.now in let after = c.draw.new.list in let r = c.draw.result in
    draws_says _ k before after c.if-file-gt65536.false s.passes _ f.face w.passes r
    (subst (λ l. Draws k l before after r) (gathered_corners _ _ _ w c.if-n-gt64.false) c.draw.ensures)
