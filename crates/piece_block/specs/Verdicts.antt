-- The verdict of a run on the piece in a block: the order of refusals, and what is answered. Assumes nothing.
use Rattle.std.specs.Prelude.{Ok, Err, Some, None}
use Rattle.std.specs.Prelude.{◌≡◌, List, ◌∷◌, ◌++◌, ℕ}
use Rattle.rules.specs.Reach.{Run, Piece}
use Rattle.rules.specs.Refusal.{Check, Passes, Fault}
use Rattle.rules.specs.Good.{run_checks, piece_checks}
use Rattle.rules.specs.Verdict as rules
use Rattle.rules.specs.Verdict.{Answer, clear, blocked}
use Rattle.refusal.specs.Said.{said}
use Rattle.piece.specs.Tells.{Verdict}
use Rattle.piece_block.specs.Layout.{piece_block}
use Rattle.seal.specs.Seal.{length_check}
use Rattle.piece_block.specs.Reading.{piece_block_checks}

-- l is the block of a good piece, and a is the answer to a good run on it
pub record VerdictOn (r : Run) (l : List ℕ) (a : Answer) : Type 0 where
  pub run : Passes (run_checks r)
  pub piece : Piece
  pub same : l ≡ piece_block piece
  pub good : Passes (piece_checks piece)
  pub verdict : rules.Verdict r piece a

-- the block's length, then the run, and then all else of the block
unfoldable pub verdict_in_checks : Run → List ℕ → List Check
verdict_in_checks r l = (length_check l ∷ run_checks r) ++ piece_block_checks l

abbrev pub VerdictInSays : Run → List ℕ → Verdict → Type 0
VerdictInSays r l (Ok None) = VerdictOn r l clear
VerdictInSays r l (Ok (Some m)) = VerdictOn r l (blocked m)
VerdictInSays r l (Err x) = Fault (verdict_in_checks r l) (said x)
