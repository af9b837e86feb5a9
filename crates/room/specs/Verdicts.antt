-- The verdicts of a run on each piece of a room, in a lent list. Assumes nothing.
use Rattle.std.specs.Prelude.{◌≡◌, List, [], ◌∷◌, ◌++◌, ℕ, suc, ◌≤◌, ◌<◌, length, get_or, Ok, Err}
use Rattle.whole.specs.Front.{Stays}
use Rattle.rules.specs.Reach.{Run}
use Rattle.rules.specs.Refusal.{refuse, Check, Passes, Fault, demand}
use Rattle.rules.specs.Good.{run_checks}
use Rattle.rules.specs.Verdict.{answer}
use Rattle.seal.specs.Seal.{block_at}
use Rattle.piece_block.specs.Verdicts.{VerdictOn}
use Rattle.room.specs.Image.{count, room_checks, room_said, Counted}

-- the run, the room, and at last the lent list
unfoldable pub verdicts_checks : Run → List ℕ → List ℕ → List Check
verdicts_checks r image list = run_checks r ++ (room_checks image ++ (demand (count image ≤ length list) (refuse 10 0 0) ∷ []))

-- c is the coded verdict on the piece of block i + 1
abbrev pub CodeOf : Run → List ℕ → ℕ → ℕ → Type 0
CodeOf r image i c = VerdictOn r (block_at image (suc i)) (answer c)

-- one verdict for each piece, later elements unchanged
pub record Filled (r : Run) (image before after : List ℕ) (n : ℕ) : Type 0 where
  pub passes : Passes (verdicts_checks r image before)
  pub pieces : n ≡ count image
  pub verdicts : (i : ℕ) → i < count image → CodeOf r image i (get_or after i 0)
  pub stays : Stays 0 (count image) before after

abbrev pub VerdictsSay : Run → List ℕ → List ℕ → List ℕ → Counted → Type 0
VerdictsSay r image before after (Ok n) = Filled r image before after n
VerdictsSay r image before after (Err x) = Fault (verdicts_checks r image before) (room_said x) × (after ≡ before)
