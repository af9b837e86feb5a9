-- `piece_block::pieces::wide_in` meets its contract: the band's numbers first, and then the corners'. Assumes nothing.
use Rattle.std.specs.Prelude.{None}
use Rattle.std.proofs.Common.{subst, length}
use Rattle.rules.specs.Refusal.{Sought}
use Rattle.pair.specs.Pair.{Wide}
use Rattle.piece_block.proofs.PieceLaws.{slab_numbers, wide_late, wide_none}
use Rattle.piece_block.proofs.pieces.wide_in.Goals as goal

pub returns-in_err-wide : goal.returns-in_err-wide
returns-in_err-wide c =
    let a = c.args in
    let band = subst (λ zs. Sought (Wide zs) (length zs) None) c.slab_numbers-numbers.ensures c.in_default.ensures in
    rw c.from_residual.ensures (wide_none (slab_numbers a.slab) a.corners.now band c.in_err-wide.ensures)

pub returns : goal.returns
returns c =
    let a = c.args in
    let band = subst (λ zs. Sought (Wide zs) (length zs) None) c.slab_numbers-numbers.ensures c.in_default.ensures in
    wide_late (slab_numbers a.slab) a.corners.now band c.in_ok-wide.wide c.in_ok-wide.ensures
