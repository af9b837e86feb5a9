-- `pair::write::lay` meets its contract: each turn lays one number's two bytes after those before them. Assumes nothing.
use Rattle.std.proofs.Common.{◌∙◌, arith, get_or}
use lib.IntN.{pos}
use mir.Facts.{to_z-of_z}
use Rattle.pair.proofs.Bits.{half_fits}
use Rattle.pair.proofs.Laid.{laid_more}
use Rattle.pair.proofs.write.lay.Goals as goal

pub loop-j-preserved : goal.loop-j-preserved
loop-j-preserved c =
    let v = c.loop-j in let n = c.args.numbers.now in
    laid_more n c.args.bytes.now v.bytes c.copy_from_slice.new.self v.j _ (omega arith) c.requires.0 v.invariant (omega arith)
    (c.copy_from_slice.ensures.after ∙ rw (to_z-of_z (half_fits (get_or n v.j (pos 0)) (c.requires.1 v.j (omega arith)))) at c.bytes_of.ensures)
