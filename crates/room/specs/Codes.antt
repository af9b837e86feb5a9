-- What the pass over a room finds: a code for each piece, or the first refusal. Assumes nothing.
use Rattle.std.specs.Prelude.{List, ℕ, suc, ◌≤◌, ◌<◌, length, get_or, Result, Ok, Err}
use Rattle.rules.specs.Reach.{Run}
use Rattle.rules.specs.Refusal.{Passes, Fault}
use Rattle.refusal.specs.Said.{said}
use Rattle.piece.specs.Tells.{Coded}
use Rattle.piece_block.specs.Reading.{piece_block_checks}
use Rattle.room.specs.declared.RoomRefusal.{RoomRefusal}
use Rattle.seal.specs.Seal.{block_at}
use Rattle.room.specs.Image.{count, room_checks, room_said}
use Rattle.room.specs.Verdicts.{CodeOf}

-- piece i
abbrev pub CodeFound : Run → List ℕ → ℕ → Coded → Type 0
CodeFound r image i (Ok c) = CodeOf r image i c
CodeFound r image i (Err x) = Fault (piece_block_checks (block_at image (suc i))) (said x)

-- the pieces below n have their codes
abbrev pub CodesTo : Run → List ℕ → List ℕ → ℕ → Type 0
CodesTo r image codes n = (i : ℕ) → i < n → CodeOf r image i (get_or codes i 0)

-- a code for every piece
pub record AllCoded (r : Run) (image codes : List ℕ) : Type 0 where
  pub room : count image ≤ length codes
  pub passes : Passes (room_checks image)
  pub coded : CodesTo r image codes (count image)

abbrev pub CodesSay : Run → List ℕ → Result (List ℕ) RoomRefusal → Type 0
CodesSay r image (Ok codes) = AllCoded r image codes
CodesSay r image (Err x) = Fault (room_checks image) (room_said x)
