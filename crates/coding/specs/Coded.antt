-- One number for each answer of the library, and what a call promises by it. Each `code` of the crate answers what a definition here makes of what it is
-- given: by that equality nothing else meets its contract. Assumes nothing.
use Rattle.std.specs.Prelude.{◌≡◌, ℕ, ◌+◌, ◌*◌, ◌%◌, ◌^◌, Option, None, Some, Result, Ok, Err}
use Rattle.rules.specs.Refusal.{Refusal}
use Rattle.rules.specs.Verdict.{NONE}
use Rattle.refusal.specs.declared.Refusal as declared
use Rattle.refusal.specs.Said.{said, Checked}
use Rattle.piece.specs.Place.{Placed}
use Rattle.piece.specs.Tells.{Verdict}
use Rattle.piece.specs.declared.spot.Spot.{Spot}
use Rattle.piece.specs.declared.spot.Spot.TheVariants.{On, Inside, Outside}
use Rattle.block.specs.Reading.{HeaderRead}
use Rattle.room.specs.Image.{Counted, room_said}
use Rattle.room.specs.declared.RoomRefusal.{RoomRefusal}
use Rattle.obj.specs.File.{Outline}
use Rattle.book.specs.declared.Asked.{Asked}
use Rattle.book.specs.declared.Asked.TheVariants as asked

-- what comes back is what f makes of the answer that S says
pub record Coded {A B : Type 0} (S : A → Type 0) (f : A → B) (c : B) : Type 0 where
  pub answer : A
  pub says : S answer
  pub code : c ≡ f answer

-- what an answer says to a caller: a value, one that the book remembered, or a refusal
pub data Meaning : Type 0 where
  value : ℕ → Meaning
  remembered : ℕ → Meaning
  refusal : Refusal → Meaning

-- a refusal: bit 63 is set, bits 48 to 55 have the number, 40 to 47 the block, 16 to 39 a, 0 to 15 b
unfoldable pub refusal_code : Refusal → ℕ
refusal_code s = 2 ^ 63 + s.number % 2 ^ 8 * 2 ^ 48 + s.block % 2 ^ 8 * 2 ^ 40 + s.a % 2 ^ 24 * 2 ^ 16 + s.b % 2 ^ 16

-- a value is its own code; bit 32 is set where it is remembered
abbrev pub code_of : Meaning → ℕ
code_of (value n) = n
code_of (remembered n) = 2 ^ 32 + n
code_of (refusal s) = refusal_code s

-- ---- what each answer says, and its code
-- an answer, or a refusal
abbrev pub result_means : {A E : Type 0} → (A → Meaning) → (E → Meaning) → Result A E → Meaning
result_means f g (Ok x) = f x
result_means f g (Err x) = g x

abbrev pub refusal_means : declared.Refusal → Meaning
refusal_means x = refusal (said x)

-- with its block
abbrev pub room_refusal_means : RoomRefusal → Meaning
room_refusal_means x = refusal (room_said x)

-- where there is nothing more to say
abbrev pub nothing_means : Unit {0} → Meaning
nothing_means x = value 0

abbrev pub checked_means : Checked → Meaning
checked_means = result_means nothing_means refusal_means

abbrev pub checked_code : Checked → ℕ
checked_code r = code_of (checked_means r)

abbrev pub spot_means : Spot → Meaning
spot_means Outside = value 0
spot_means Inside = value 1
spot_means On = value 2

abbrev pub placed_means : Placed → Meaning
placed_means = result_means spot_means refusal_means

abbrev pub placed_code : Placed → ℕ
placed_code r = code_of (placed_means r)

-- the code of a verdict
abbrev pub mark_means : Option ℕ → Meaning
mark_means None = value NONE
mark_means (Some m) = value m

abbrev pub verdict_means : Verdict → Meaning
verdict_means = result_means mark_means refusal_means

abbrev pub verdict_code : Verdict → ℕ
verdict_code r = code_of (verdict_means r)

-- a count
abbrev pub count_means : ℕ → Meaning
count_means n = value n

-- the piece count
abbrev pub header_means : HeaderRead → Meaning
header_means = result_means count_means refusal_means

abbrev pub header_code : HeaderRead → ℕ
header_code r = code_of (header_means r)

-- the piece count, or a refusal with its block
abbrev pub counted_means : Counted → Meaning
counted_means = result_means count_means room_refusal_means

abbrev pub counted_code : Counted → ℕ
counted_code r = code_of (counted_means r)

-- the code of an entry
abbrev pub entry_means : Asked → Meaning
entry_means (asked.Remembered c) = remembered c
entry_means (asked.Worked c) = value c

abbrev pub asked_means : Result Asked declared.Refusal → Meaning
asked_means = result_means entry_means refusal_means

abbrev pub asked_code : Result Asked declared.Refusal → ℕ
asked_code r = code_of (asked_means r)

-- the corner count
abbrev pub outline_means : Outline → Meaning
outline_means = result_means count_means refusal_means

abbrev pub outline_code : Outline → ℕ
outline_code r = code_of (outline_means r)

-- ---- calls that lend numbers for what was found
-- what is said, and what the caller lent, afterwards
pub record Out (C L : Type 0) : Type 0 where
  pub says : C
  pub after : L

abbrev pub out : {C L : Type 0} → C → L → Out C L
out c l = record { says = c; after = l }

abbrev pub coded : {L : Type 0} → Out Meaning L → Out ℕ L
coded o = out (code_of o.says) o.after
