-- There and back: what a writer made reads back as it, and what a reader accepted is what the writer makes of it. Assumes nothing.
use Rattle.std.specs.Prelude.{Ok}
use mathlib.Core.Path.{◌≡◌}
use mathlib.Core.List.{List}
use Prim.Native.Nat.{ℕ}
use lib.ListN.{length}
use Rattle.refusal.specs.Said.{Checked}
use Rattle.good.specs.declared.Run.{Run}
use Rattle.good.specs.Numbers.{run_of}
use Rattle.block.specs.Reading.{HeaderRead}
use Rattle.block.specs.Reading.{RunRead}
use Rattle.seal.specs.Seal.{block_size}
use Rattle.block.specs.Reading.{header_asked, run_asked, HeaderSays, RunSays, WriteHeaderSays, WriteRunSays}
use Rattle.block.proofs.Unique.{write_header_one, write_run_one, read_header_one, read_run_one}

-- ---- header
-- a header that was written reads back as its count
pub written_header : (n : ℕ) (before after : List ℕ) (r : HeaderRead) → WriteHeaderSays n before after (Ok tt) → HeaderSays after r → r ≡ Ok n
unfolding header_asked
written_header n before after r w f = read_header_one after r (Ok n) f (w.0.1.0, w.1)

-- an accepted header is what is written for its count
pub accepted_header : (l : List ℕ) (n : ℕ) (before after : List ℕ) (r : Checked) → HeaderSays l (Ok n) → length before ≡ block_size → WriteHeaderSays n before after r → (r ≡ Ok tt) × (after ≡ l)
unfolding header_asked
accepted_header l n before after r f e w = write_header_one n before after l r (Ok tt) w ((e, (f.0, tt)), f.1)

-- ---- run
pub written_run : (run : Run) (before after : List ℕ) (r : RunRead) → WriteRunSays (run_of run) before after (Ok tt) → RunSays after r → r ≡ Ok run
unfolding run_asked
written_run run before after r w f = read_run_one after r (Ok run) f (record { good = w.0.1; same = w.1 })

pub accepted_run : (l : List ℕ) (run : Run) (before after : List ℕ) (r : Checked) → RunSays l (Ok run) → length before ≡ block_size
    → WriteRunSays (run_of run) before after r → (r ≡ Ok tt) × (after ≡ l)
unfolding run_asked
accepted_run l run before after r f e w = write_run_one run before after l r (Ok tt) w ((e, f.good), f.same)
