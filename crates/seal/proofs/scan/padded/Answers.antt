-- `seal::scan::padded` decides: the bytes begin with the part, and the others are zero. Assumes nothing.
use Rattle.std.proofs.Common.{sym, ◌∙◌}
use Rattle.std.proofs.lemmas.Bool.Decides.{Decides-eqb}
use Rattle.std.proofs.lemmas.Slice.Eq.{slice_eq-Decides}
use Rattle.whole.proofs.Flag.{false_true}
use Rattle.seal.proofs.Clean.{padded_by, padded_not}
use Rattle.seal.proofs.scan.padded.Goals as goal

pub returns-then-eq : goal.returns-then-eq
returns-then-eq c =
    let a = c.args in let s = c.split_at.ensures in
    padded_by a.bytes.now a.part.now c.clean.result (sym s.front ∙ (slice_eq-Decides Decides-eqb _ _ _ c.eq.ensures).0 c.if-eq.true) (rw s.back at c.clean.ensures)

pub returns-else-eq : goal.returns-else-eq
returns-else-eq c =
    let a = c.args in let s = c.split_at.ensures in
    rw c.if-eq.false (padded_not a.bytes.now a.part.now (λ e. false_true (sym c.if-eq.false ∙ (slice_eq-Decides Decides-eqb _ _ _ c.eq.ensures).1 (s.front ∙ e))))
