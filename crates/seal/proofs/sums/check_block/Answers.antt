-- `seal::sums::check_block` meets its contract: the check is wrong where either byte is not its sum. Assumes nothing.
use Rattle.std.proofs.Common.{refl, sym, ◌∙◌, ◌≡◌, arith, length}
use borrow.Author.Tests.{not-true, not-false}
use mathlib.Core.Logic.{inl, inr}
use Rattle.whole.proofs.Decide.{yes, no}
use Rattle.seal.specs.Seal.{block_size, block_checks}
use Rattle.seal.proofs.Bytes.{sealed_by}
use Rattle.seal.proofs.sums.check_block.Goals as goal

pub returns-in_default : goal.returns-in_default
unfolding block_checks
returns-in_default c = inl (c.in_default.ensures.cases, refl)

pub returns-then-ne : goal.returns-then-ne
unfolding block_checks
returns-then-ne c =
    let l = c.args.block.now in let b = c.in-Some.block.now in
    let same : b ≡ l = grind arith in let long : length l ≡ block_size = grind arith in
    let d = rw same at (sealed_by b b _ _ _ _ c.told.ensures c.of.ensures) in
    inr (long, inl (no _ _ d (not-true _ (sym c.ne.ensures ∙ c.if-ne.true)), refl))

pub returns : goal.returns
unfolding block_checks
returns c =
    let l = c.args.block.now in let b = c.in-Some.block.now in
    let same : b ≡ l = grind arith in let long : length l ≡ block_size = grind arith in
    let d = rw same at (sealed_by b b _ _ _ _ c.told.ensures c.of.ensures) in
    (long, (yes _ _ d (not-false _ (sym c.ne.ensures ∙ c.if-ne.false)), tt))
