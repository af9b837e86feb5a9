-- `line::decimal::few` meets its contract: the bytes passed are digits, and what they say and those left make the number. Assumes nothing.
use mathlib.Core.Path.{◌≡◌, sym, ap, ◌∙◌}
use mathlib.Core.List.{List, []}
use Prim.Native.Nat.{ℕ, ◌+◌, ◌*◌, ◌-◌, ◌^◌, ◌≤◌, ◌<◌}
use native.Mathlib.Omega.{arith}
use borrow.Author.Tests.{le-leb, eqb-false}
use lib.ListN.{length, get_or, drop, drop_of_length-le}
use Rattle.std.proofs.Common.{Some}
use Rattle.line.specs.Number.{digit, all_digits, amount, number}
use Rattle.line.specs.Steps.{few_or}
use Rattle.line.proofs.Told.{given, missing}
use Rattle.line.proofs.Digits.{digit_small, next_digit, next_amount, pow_more, pow_most, digits_yes, digits_end}
use Rattle.line.proofs.decimal.few.Goals as goal

-- what was read is of eight digits at most
few_read : (n i : ℕ) → n < 10 ^ i → i < 9 → n < 100000000
few_read n i h g = omega (arith, pow_most i 8 (omega arith))

pub overflow_mul-n : goal.overflow_mul-n
overflow_mul-n c = omega (arith, few_read c.loop-b.n c.loop-b.b-index c.loop-b.invariant.small (omega arith))

pub returns-in_err-n : goal.returns-in_err-n
returns-in_err-n c =
    let e = missing _ _ c.in_err-n.ensures in
    c.from_residual.ensures ∙ rw (digits_end c.args.w.now c.loop-b.b-index c.loop-b-test.true c.loop-b.invariant.digits e)

pub loop-b-preserved : goal.loop-b-preserved
loop-b-preserved c =
    let w = c.args.w.now in
    let i = c.loop-b.b-index in
    let h : i < length w = c.loop-b-test.true in
    let d = given (digit (get_or w i 0)) (get_or w i 0 - 48) _ c.in_ok-n.ensures in
    record {
      small = omega (arith, pow_more i, digit_small (get_or w i 0) d.0, d.1);
      digits = c.loop-b.invariant.digits ∙ next_digit w i h d.0;
      said = c.loop-b.invariant.said ∙ (next_amount w i h c.loop-b.n ∙ ap (λ m. amount (10 * c.loop-b.n + m) (drop (i + 1) w)) (sym d.1));
    }

-- past the last byte
all_read : (w : List ℕ) (n i : ℕ) → (length w ≡ 0 → ⊥) → length w ≤ 9 → length w ≤ i → all_digits w ≡ all_digits (drop i w) → number w ≡ amount n (drop i w) → Some n ≡ few_or w
unfolding all_digits amount
all_read w n i s m l d e =
    let done : drop i w ≡ [] = drop_of_length-le w l in
    rw (digits_yes w s (d ∙ rw done), le-leb (length w) 9 m) (ap Some (sym (e ∙ rw done)))

pub returns : goal.returns
returns c =
    let l = c.loop-b in
    all_read c.args.w.now l.n l.b-index (eqb-false _ _ (sym c.if-is_empty.ensures)) (omega arith) c.loop-b-test.false l.invariant.digits l.invariant.said
