-- `line::decimal::unsigned` meets its contract: the digits before the point, then those after it. Assumes nothing.
use mathlib.Core.Path.{◌≡◌, refl, sym, ap, ◌∙◌}
use mathlib.Core.Bool.{true}
use mathlib.Core.List.{List}
use Prim.Native.Nat.{ℕ, ◌+◌, ◌*◌, ◌^◌, ◌≤◌, ◌<◌}
use native.Mathlib.Omega.{arith}
use lib.ListN.{length}
use Rattle.std.proofs.Common.{Some}
use Rattle.line.specs.Text.{point}
use Rattle.line.specs.Number.{few, number}
use Rattle.line.specs.Calls.{entry}
use Rattle.line.proofs.Told.{given, missing}
use Rattle.line.proofs.Parts.{cut_none, cut_some}
use Rattle.line.proofs.Digits.{pow_most, number_small, few_digits}
use Rattle.line.proofs.Decimals.{first_entry, no_second, both_entry}
use Rattle.line.proofs.decimal.unsigned.Goals as goal

pub returns-in-None : goal.returns-in-None
returns-in-None c =
    let m = c.args.minus in
    let f = given _ _ _ c.in_ok-n.ensures in
    let e : c.in_ok-n.n * 1 + 0 ≡ number c.cut.result.0.now = omega (arith, f.1) in
    ap Some (c.grid_of.ensures 0 refl ∙ ap (λ n. entry (record { negative = m; whole = n; places = 0 })) e)
    ∙ sym (first_entry m c.args.w.now _ (cut_none point _ _ c.cut.ensures c.in-None.is) f.0)

pub returns-in_err-few-in-Some : goal.returns-in_err-few-in-Some
returns-in_err-few-in-Some c =
    c.from_residual-in_err-few-in-Some.ensures
    ∙ sym (no_second c.args.minus c.args.w.now _ _ (cut_some point _ _ c.cut.ensures _ c.in-Some.is) (missing _ _ c.in_err-few-in-Some.ensures))

-- digits say a number that is below its power of ten
below_power : (b : List ℕ) (n p : ℕ) → (few b ≡ true) × (n ≡ number b) → p ≡ 10 ^ length b → (n < p) × (p ≤ 1000000000)
below_power b n p f e =
    let d = few_digits b f.0 in
    let h = number_small b d.0 in
    let k = pow_most (length b) 9 d.1 in
    (omega arith, omega arith)

pub grid_of-requires-in-Some : goal.grid_of-requires-in-Some
grid_of-requires-in-Some c = below_power c.in-Some.part.now _ _ (given _ _ _ c.in_ok-few-in-Some.ensures) c.power.ensures

whole_is : {a b s t p q : ℕ} → a ≡ b → s ≡ t → p ≡ q → a * s + p ≡ b * t + q
whole_is e f g = cc

pub returns-in_ok-few-in-Some : goal.returns-in_ok-few-in-Some
returns-in_ok-few-in-Some c =
    let m = c.args.minus in
    let b = c.in-Some.part.now in
    let f = given _ _ _ c.in_ok-n.ensures in
    let g = given _ _ _ c.in_ok-few-in-Some.ensures in
    let e = whole_is f.1 c.power.ensures g.1 in
    ap Some (c.grid_of-in-Some.ensures (length b) c.power.ensures ∙ ap (λ n. entry (record { negative = m; whole = n; places = length b })) e)
    ∙ sym (both_entry m c.args.w.now _ b (cut_some point _ _ c.cut.ensures _ c.in-Some.is) f.0 g.0)
