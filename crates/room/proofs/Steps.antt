-- Laws of steps: a fault of the block at a place. Assumes nothing.
use mathlib.Core.Path.{◌≡◌, refl, ◌∙◌}
use mathlib.Core.List.{List}
use Prim.Native.Nat.{ℕ, suc, ◌+◌}
use native.Mathlib.Numerals.{add-one}
use Rattle.rules.specs.Refusal.{Fault}
use Rattle.refusal.specs.Said.{said}
use Rattle.piece_block.specs.Reading.{piece_block_checks}
use Rattle.seal.specs.Seal.{block_at}
use Rattle.room.specs.declared.RoomRefusal.{RoomRefusal}
use Rattle.room.specs.Image.{Has, room_said}
use Rattle.room.specs.Step.{StepFault, block}

pub block_fault : (image : List ℕ) (place : ℕ) → Has image place → (r : RoomRefusal) → r.block ≡ place + 1 → Fault (piece_block_checks (block_at image (suc place))) (said r.refusal)
    → StepFault image place (room_said r)
block_fault image place has r e f = rw (e ∙ add-one place) (block has.head has.below (said r.refusal) f refl)
