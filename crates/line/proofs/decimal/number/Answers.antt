-- `line::decimal::number` meets its contract: the bytes passed are digits, and what they say and those left make the number. Assumes nothing.
use mathlib.Core.Path.{◌≡◌, sym, ap, ◌∙◌}
use mathlib.Core.List.{List, []}
use Prim.Native.Nat.{ℕ, ◌+◌, ◌*◌, ◌-◌, ◌^◌, ◌≤◌, ◌<◌}
use native.Mathlib.Omega.{arith}
use borrow.Author.Tests.{eqb-false}
use lib.ListN.{length, get_or, drop, drop_of_length-le}
use Rattle.std.proofs.Common.{Some}
use Rattle.line.specs.Number.{digit, all_digits, amount, number}
use Rattle.line.specs.Steps.{saturated, number_or}
use Rattle.line.proofs.Told.{given, missing}
use Rattle.line.proofs.Digits.{next_digit, next_saturated, saturated_few, digits_yes, digits_end}
use Rattle.line.proofs.decimal.number.Goals as goal

pub returns-in_err-digit : goal.returns-in_err-digit
returns-in_err-digit c =
    let e = missing _ _ c.in_err-digit.ensures in
    c.from_residual.ensures ∙ rw (digits_end c.args.w.now c.loop-b.b-index c.loop-b-test.true c.loop-b.invariant.digits e)

pub loop-b-preserved : goal.loop-b-preserved
loop-b-preserved c =
    let w = c.args.w.now in
    let i = c.loop-b.b-index in
    let h : i < length w = c.loop-b-test.true in
    let d = given (digit (get_or w i 0)) (get_or w i 0 - 48) _ c.in_ok-digit.ensures in
    let e : c.min-n.result ≡ saturated (10 * c.loop-b.n + (get_or w i 0 - 48)) = omega (arith, d.1, c.from.ensures, c.min-n.ensures) in
    record {
      small = omega arith;
      digits = c.loop-b.invariant.digits ∙ next_digit w i h d.0;
      said = c.loop-b.invariant.said ∙ (next_saturated w i h c.loop-b.n ∙ ap (λ m. saturated (amount m (drop (i + 1) w))) (sym e));
    }

-- past the last byte
all_read : (w : List ℕ) (n i : ℕ) → (length w ≡ 0 → ⊥) → n < 2 ^ 32 → length w ≤ i → all_digits w ≡ all_digits (drop i w) → saturated (number w) ≡ saturated (amount n (drop i w))
    → Some n ≡ number_or w
unfolding all_digits amount
all_read w n i s m l d e =
    let done : drop i w ≡ [] = drop_of_length-le w l in
    rw (digits_yes w s (d ∙ rw done)) (ap Some (sym (e ∙ rw done (saturated_few n (omega arith)))))

pub returns : goal.returns
returns c =
    let l = c.loop-b in
    all_read c.args.w.now l.n l.b-index (eqb-false _ _ (sym c.if-is_empty.ensures)) l.invariant.small c.loop-b-test.false l.invariant.digits l.invariant.said
