-- `room::pass::codes_of` meets its contract: each piece has its code, or the first that is refused its refusal. Assumes nothing.
use Rattle.std.proofs.Common.{◌≡◌, ◌∙◌, arith, subst}
use Rattle.std.proofs.Math.ListN.{length-set}
use Rattle.std.proofs.lemmas.Result.{err_from_is_err_and}
use Rattle.good.specs.Numbers.{run_of}
use Rattle.room.specs.Image.{count}
use Rattle.room.specs.Codes.{CodesTo, CodeFound}
use Rattle.room.proofs.Images.{head_few}
use Rattle.room.proofs.Coding.{codes_more, codes_pass, codes_stop}
use Rattle.room.proofs.pass.codes_of.Goals as goal

pub bounds-codes-i : goal.bounds-codes-i
bounds-codes-i c = let h = head_few c.args.image.now c.requires.1.passes in omega (arith, c.requires.1.pieces)

pub returns-in_err-codes : goal.returns-in_err-codes
returns-in_err-codes c =
    let r = run_of c.args.run in let image = c.args.image.now in let i = c.loop-i.i in let h = c.requires.1 in let told = c.in_err-codes.ensures in
    let p = err_from_is_err_and c.from_residual.result c.from_residual.ensures.1 in
    rw (p.1, p.2)
    (codes_stop r image c.loop-i.codes i _ (record { head = h.passes; below = omega (arith, h.pieces) }) c.loop-i.invariant.0 told.1 (subst (CodeFound r image i) told.0 c.code_of.ensures))

pub loop-i-preserved : goal.loop-i-preserved
loop-i-preserved c =
    let r = run_of c.args.run in let image = c.args.image.now in let i = c.loop-i.i in let codes = c.loop-i.codes in
    let h = head_few image c.requires.1.passes in let inv = c.loop-i.invariant in let x = c.in_ok-codes.field-0 in (
      codes_more r image codes i x (omega (arith, inv.1, c.requires.1.pieces)) inv.0 (subst (CodeFound r image i) c.in_ok-codes.ensures c.code_of.ensures),
      length-set codes i x ∙ inv.1,
    )

pub returns : goal.returns
returns c =
    let r = run_of c.args.run in let image = c.args.image.now in let codes = c.loop-i.codes in let h = c.requires.1 in
    let e : c.loop-i.i ≡ count image = omega (arith, h.pieces) in
    let all : CodesTo r image codes (count image) = subst (CodesTo r image codes) e c.loop-i.invariant.0 in
    record { room = omega (arith, head_few image h.passes, c.loop-i.invariant.1); passes = codes_pass r image codes h.passes all; coded = all }
