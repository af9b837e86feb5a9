-- `seal::scan::check_unnamed` tells the first byte: what is sought from here on is sought in that part of the block. Assumes nothing.
use Rattle.std.proofs.Common.{Some, None, ◌-◌, arith}
use mathlib.Core.Logic.{inl, inr}
use Rattle.rules.proofs.Checks.{each_fails}
use Rattle.seal.specs.Seal.{body_size}
use Rattle.seal.proofs.Unnamed.{sought_part}
use Rattle.seal.proofs.scan.check_unnamed.Goals as goal

pub returns-in-Some : goal.returns-in-Some
returns-in-Some c =
    let a = c.args in let s = c.in-Some in
    inr (c.if-block-ne-SIZE.false, inl (each_fails _ (sought_part a.block.now a.from (body_size - a.from) (omega arith) (Some s.j) s.ensures)))

pub returns-in-None : goal.returns-in-None
returns-in-None c = let a = c.args in (c.if-block-ne-SIZE.false, (sought_part a.block.now a.from (body_size - a.from) (omega arith) None c.in-None.ensures, tt))
