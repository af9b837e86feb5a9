-- Two outcomes that both meet a public contract, answer and later bytes, are equal. Assumes nothing.
use Rattle.std.specs.Prelude.{Ok, Err}
use mathlib.Core.Path.{◌≡◌, sym, ap, subst, ◌∙◌}
use mathlib.Core.List.{List, ◌++◌}
use Prim.Native.Nat.{ℕ}
use Rattle.rules.specs.Reach as rules
use Rattle.rules.specs.Refusal.{Passes}
use Rattle.rules.proofs.Checks.{never_both}
use Rattle.refusal.specs.Said.{said, Finds}
use Rattle.refusal.proofs.Unique.{refused_one, finds_one, writes_one}
use Rattle.refusal.specs.Said.{Checked}
use Rattle.good.specs.declared.Run.{Run}
use Rattle.good.specs.Numbers.{run_of}
use Rattle.seal.specs.Seal.{block_checks}
use Rattle.block.specs.declared.kind.Kind.{Kind}
use Rattle.block.specs.Reading.{HeaderRead}
use Rattle.block.specs.Reading.{RunRead}
use Rattle.block.specs.Layout.{header_block, run_body, run_block}
use Rattle.block.specs.Reading.{bytes_of, header_checks, run_block_checks, header_asked, run_body_asked, run_asked, HeaderSays, RunSays, WriteHeaderSays, WriteRunSays, WriteRunBodySays}
use Rattle.block.proofs.Headers.{header_passes, header_one}
use Rattle.block.proofs.RunLaws as runs
use Rattle.block.proofs.OneFault.{definite_kind, definite_header, definite_run_block, definite_run_body_asked, definite_header_asked, definite_run_asked}

-- ---- check_kind
pub check_kind_one : (k : Kind) (l : List ℕ) (r s : Checked) → Finds (block_checks l ++ bytes_of k l) r → Finds (block_checks l ++ bytes_of k l) s → r ≡ s
check_kind_one k l r s = finds_one (block_checks l ++ bytes_of k l) (definite_kind k l) r s

-- ---- writers
pub write_run_body_one : (run : rules.Run) (before a b : List ℕ) (r s : Checked) → WriteRunBodySays run before a r → WriteRunBodySays run before b s → (r ≡ s) × (a ≡ b)
write_run_body_one run before a b r s = writes_one (run_body_asked before run) (definite_run_body_asked before run) (run_body run) before a b r s

pub write_header_one : (n : ℕ) (before a b : List ℕ) (r s : Checked) → WriteHeaderSays n before a r → WriteHeaderSays n before b s → (r ≡ s) × (a ≡ b)
write_header_one n before a b r s = writes_one (header_asked before n) (definite_header_asked before n) (header_block n) before a b r s

pub write_run_one : (run : Run) (before a b : List ℕ) (r s : Checked) → WriteRunSays (run_of run) before a r → WriteRunSays (run_of run) before b s → (r ≡ s) × (a ≡ b)
write_run_one run before a b r s = writes_one (run_asked before (run_of run)) (definite_run_asked before (run_of run)) (run_block (run_of run)) before a b r s

-- ---- read_header
pub read_header_one : (l : List ℕ) (r s : HeaderRead) → HeaderSays l r → HeaderSays l s → r ≡ s
read_header_one l (Ok m) (Ok n) f g = ap Ok (header_one m n (sym f.1 ∙ g.1))
read_header_one l (Ok m) (Err y) f g =
    absurd (never_both (header_checks l) (definite_header l) (said y) (subst (λ l. Passes (header_checks l)) (sym f.1) (header_passes m f.0)) g)
read_header_one l (Err x) (Ok n) f g =
    absurd (never_both (header_checks l) (definite_header l) (said x) (subst (λ l. Passes (header_checks l)) (sym g.1) (header_passes n g.0)) f)
read_header_one l (Err x) (Err y) f g = ap Err (refused_one (header_checks l) (definite_header l) x y f g)

-- ---- read_run
-- plain numbers are told by the run that they say
run_of_one : (r s : Run) → run_of r ≡ run_of s → r ≡ s
run_of_one r s e = λ i. record {
  x = (e i).start.x;
  y = (e i).start.y;
  z = (e i).start.z;
  vx = (e i).speed.x;
  vy = (e i).speed.y;
  vz = (e i).speed.z;
  ticks = (e i).ticks;
}

pub read_run_one : (l : List ℕ) (r s : RunRead) → RunSays l r → RunSays l s → r ≡ s
read_run_one l (Ok r) (Ok s) f g = ap Ok (run_of_one r s (runs.run_one l (run_of r) (run_of s) (runs.block_in l (run_of r) f) (runs.block_in l (run_of s) g)))
read_run_one l (Ok r) (Err y) f g = absurd (never_both (run_block_checks l) (definite_run_block l) (said y) (runs.block_passes l (run_of r) f) g)
read_run_one l (Err x) (Ok s) f g = absurd (never_both (run_block_checks l) (definite_run_block l) (said x) (runs.block_passes l (run_of s) g) f)
read_run_one l (Err x) (Err y) f g = ap Err (refused_one (run_block_checks l) (definite_run_block l) x y f g)
