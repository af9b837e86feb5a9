-- `seal::parts::write_parts` meets its contract: the lengths, then the parts laid and their check after them; it is that of the bytes laid. Assumes nothing.
use Rattle.std.proofs.Common.{rules, refl, sym, ap, ◌∙◌, ◌++◌, ◌+◌, arith, set}
use Rattle.std.specs.Prelude.{Ok}
use mathlib.Core.Logic.{inl}
use Rattle.seal.specs.Seal.{body_size, plain_sum, filled}
use Rattle.seal.specs.Parts.{PartsFit, parts_asked, WritePartsSays}
use Rattle.seal.proofs.Bytes.{plain_below, weighed_below, plain_same, weighed_same, sealing_is}
use Rattle.seal.proofs.PartLaws.{both_few}
use Rattle.seal.proofs.parts.write_parts.Goals as goal

pub returns-then-block-ne-SIZE : goal.returns-then-block-ne-SIZE
unfolding parts_asked
returns-then-block-ne-SIZE c = (inl (c.if-block-ne-SIZE.true, refl), refl)

pub returns-in_err-parts : goal.returns-in_err-parts
unfolding parts_asked
returns-in_err-parts c = search rules

pub overflow_cast-block : goal.overflow_cast-block
overflow_cast-block c = let p = c.in_ok-parts.parts in omega (arith, c.sums-right.ensures.0, plain_below (filled p.at p.first.now ++ p.last.now))

pub overflow_cast-block-2 : goal.overflow_cast-block-2
overflow_cast-block-2 c = let p = c.in_ok-parts.parts in omega (arith, c.sums-right.ensures.1, weighed_below (filled p.at p.first.now ++ p.last.now))

pub returns : goal.returns
unfolding parts_asked
returns c =
    let p = c.in_ok-parts.parts in let n = c.if-block-ne-SIZE.false in let e = c.in_ok-parts.ensures in
    let fit : PartsFit p.first.now p.last.now p.at = record { begin = p.begin; end = p.end } in
    let l = filled p.at p.first.now ++ p.last.now in let s = c.sums-right in let w = c.lay in let m = w.new.block in
    let r : WritePartsSays p.first.now p.last.now p.at c.args.block.now (set (set m body_size s.result.plain) (body_size + 1) s.result.weighed) (Ok tt) = (
      (n, (fit, tt)),
      ap (λ x. set (set m body_size x) (body_size + 1) s.result.weighed) (s.ensures.0 ∙ sym (plain_same m l w.ensures))
          ∙ ap (λ x. set (set m body_size (plain_sum m)) (body_size + 1) x) (s.ensures.1 ∙ sym (weighed_same m l w.ensures))
          ∙ sealing_is m (w.auto.block ∙ n) l (both_few p.first.now p.last.now p.at fit) w.ensures,
    ) in
    rw (e.0, e.1, e.2) at r
