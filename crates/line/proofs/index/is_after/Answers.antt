-- `line::index::is_after` meets its contract: what stands past the first slash must be whole, and so has no other. Assumes nothing.
use mathlib.Core.Path.{◌≡◌, refl, sym, ◌∙◌}
use mathlib.Core.Bool.{true, ◌||◌, or-true}
use mathlib.Core.List.{List, [], ◌∷◌}
use Prim.Native.Nat.{ℕ}
use native.Mathlib.Omega.{arith}
use borrow.Author.Tests.{eqb-true}
use lib.ListN.{length}
use Rattle.line.specs.Text.{slash}
use Rattle.line.specs.Number.{empty, is_whole}
use Rattle.line.proofs.Parts.{cut_some}
use Rattle.line.proofs.Corners.{whole_told, after_is}
use Rattle.line.proofs.index.is_after.Goals as goal
use Rattle.line.proofs.index.is_after.Goals.{then-is_empty, else-is_empty}

no_bytes : (w : List ℕ) → length w ≡ 0 → empty w ≡ true
no_bytes [] e = refl
no_bytes (b ∷ w) e = absurd (omega arith)

some_left : (t : List ℕ) → is_whole t ≡ true → (empty t || is_whole t) ≡ true
some_left t e = rw e (or-true (empty t))

pub returns-then-is_some : goal.returns-then-is_some
returns-then-is_some c =
    let t = c.cut.result.0.now in
    let m = c.in-Some.m.now in
    let h : (empty t || is_whole t) ≡ true =
    elim c.if-is_empty.branch [
      | then-is_empty w ↦ rw (no_bytes t (eqb-true (length t) 0 (sym w.if-is_empty.ensures)))
      | else-is_empty w ↦ some_left t (cc (whole_told t))
    ]
    in
    let r : c.is_some-then-is_some.result ≡ is_whole m = cc (whole_told m) in
    r ∙ sym (rw (cut_some slash c.args.rest.now t c.cut.ensures _ c.in-Some.is, after_is t m, h))
