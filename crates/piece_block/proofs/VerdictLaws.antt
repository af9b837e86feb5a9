-- A verdict on the piece in a block: which answers the run, the bytes and the piece's numbers give. Assumes nothing.
use Rattle.std.specs.Prelude.{Ok, Err, Some, None}
use Rattle.std.specs.Result.{result_and}
use mathlib.Core.Path.{◌≡◌, refl}
use mathlib.Core.Logic.{inl, inr}
use mathlib.Core.List.{List, ◌∷◌, ◌++◌}
use Prim.Native.Nat.{ℕ}
use lib.ListN.{length}
use Rattle.rules.specs.Reach.{Run, Piece}
use Rattle.rules.specs.Refusal.{Check, Passes, Fault}
use Rattle.rules.specs.Good.{run_checks, piece_checks}
use Rattle.rules.specs.Verdict as rules
use Rattle.rules.specs.Verdict.{Answer, clear, blocked, verdict_checks}
use Rattle.rules.proofs.Checks.{definite_demand, passes_left, passes_right, fault_left, fault_right, fault_past, fault_then}
use Rattle.rules.proofs.Good.{definite_run}
use Rattle.refusal.specs.Said.{said, Checked, Finds}
use Rattle.refusal.specs.declared.Refusal as enum
use Rattle.refusal.specs.declared.Refusal.TheVariants.{Length}
use Rattle.piece.specs.Tells.{Verdict}
use Rattle.piece.specs.Tells.{Tells}
use Rattle.seal.specs.Seal.{block_size, length_check, block_checks}
use Rattle.block.specs.Reading.{piece_bytes}
use Rattle.piece_block.specs.Reading.{piece_block_checks, PieceIn}
use Rattle.piece_block.specs.Verdicts.{VerdictOn, verdict_in_checks, VerdictInSays}
use Rattle.piece_block.proofs.PieceLaws.{block_long, bytes_fault, inside_fault}

module _ (r : Run) (l : List ℕ) where
  pub length_refused : (length l ≡ block_size → ⊥) → VerdictInSays r l (Err Length)
  unfolding verdict_in_checks
  length_refused f = inl (f, refl)

  module _ (long : length l ≡ block_size) where
    -- length and run
    first : List Check
    first = length_check l ∷ run_checks r

    pub run_refused : (x : enum.Refusal) → Fault (run_checks r) (said x) → VerdictInSays r l (Err x)
    unfolding verdict_in_checks first
    run_refused x f = fault_left first (piece_block_checks l) (said x) (inr (long, f))

    pub bytes_refused : (x : enum.Refusal) → Passes (run_checks r) → Fault (block_checks l ++ piece_bytes l) (said x) → VerdictInSays r l (Err x)
    unfolding verdict_in_checks first
    bytes_refused x good f = fault_right first (piece_block_checks l) (said x) (long, good) (bytes_fault l (said x) f)

    -- a refusal of the bytes waits for the run
    pub late_refused : (x : enum.Refusal) (q : Checked) → Finds (run_checks r) q → Fault (block_checks l ++ piece_bytes l) (said x) → VerdictInSays r l (result_and q (Err x))
    late_refused x (Ok _) good f = bytes_refused x good f
    late_refused x (Err y) f _ = run_refused y f

    -- where the run is good, a refusal is the block's
    pub block_refused : (x : enum.Refusal) → Passes (run_checks r) → VerdictInSays r l (Err x) → Fault (piece_block_checks l) (said x)
    unfolding verdict_in_checks first
    block_refused x good f = fault_past first (piece_block_checks l) (definite_demand _ _, definite_run r) (said x) (long, good) f

  -- the piece that the bytes hold was judged
  module _ (bytes : Passes (block_checks l ++ piece_bytes l)) (k : Piece) (held : PieceIn l k) where
    judged : (a : Answer) → Passes (verdict_checks r k) × rules.Verdict r k a → VerdictOn r l a
    unfolding verdict_checks
    judged a h = record {
      run = passes_left (run_checks r) (piece_checks k) h.0;
      piece = k;
      same = held.same;
      good = passes_right (run_checks r) (piece_checks k) h.0;
      verdict = h.1;
    }

    pub block_says : (v : Verdict) → Tells r k v → VerdictInSays r l v
    unfolding verdict_checks verdict_in_checks
    block_says (Ok None) h = judged clear h
    block_says (Ok (Some m)) h = judged (blocked m) h
    block_says (Err x) h =
        inr (block_long l bytes, fault_then (run_checks r) (piece_checks k) (piece_block_checks l) (said x) (inside_fault l k (said x) bytes held) h)
