-- Numbers of two bytes, low byte first, and what writing and reading them answers. Assumes nothing.
use Rattle.std.specs.Prelude.{◌≡◌, List, [], ◌∷◌, ℕ, ◌+◌, ◌*◌, ◌-◌, ◌/◌, ◌%◌, ◌<◌, ℤ, pos, negsuc, length, get_or, Ok, Err}
use Rattle.rules.specs.Reach.{Between}
use Rattle.rules.specs.Refusal.{refuse, Check, Passes, Fault, demand, each}
use Rattle.refusal.specs.Said.{said, Writes, Checked}

-- ---- one number
-- what two bytes hold, signed
abbrev pub Half : ℤ → Type 0
Half z = Between (negsuc 32767) (pos 32767) z

-- two's complement of two bytes
abbrev pub word : ℤ → ℕ
word (pos n) = n
word (negsuc n) = 65535 - n

-- z is the signed number of these two bytes
pub record Spelt (low high : ℕ) (z : ℤ) : Type 0 where
  pub half : Half z
  pub bits : word z ≡ low + 256 * high

-- ---- numbers in a row
-- their bytes, low byte first
abbrev pub words : List ℤ → List ℕ
words [] = []
words (z ∷ zs) = word z % 256 ∷ word z / 256 ∷ words zs

-- two bytes do not hold number j
abbrev pub Wide : List ℤ → ℕ → Type 0
Wide numbers j = Half (get_or numbers j (pos 0)) → ⊥

-- two bytes hold each
abbrev pub Halves : List ℤ → Type 0
Halves numbers = (j : ℕ) → j < length numbers → Half (get_or numbers j (pos 0))

-- the numbers of these bytes
pub record NumbersOf (bytes : List ℕ) (numbers : List ℤ) : Type 0 where
  pub halves : Halves numbers
  pub same : words numbers ≡ bytes

-- ---- what the calls answer and leave
-- two bytes for each number
abbrev pub paired_check : List ℕ → List ℤ → Check
paired_check bytes numbers = demand (length bytes ≡ 2 * length numbers) (refuse 1 0 0)

-- writing: and two bytes hold each; number i stands at byte 2·i
unfoldable pub pairs_asked : List ℕ → List ℤ → List Check
pairs_asked bytes numbers = paired_check bytes numbers ∷ each (Wide numbers) (length numbers) (λ i. refuse 4 (2 * i) 0) ∷ []

abbrev pub WritePairsSays : List ℤ → List ℕ → List ℕ → Checked → Type 0
WritePairsSays numbers before after r = Writes (pairs_asked before numbers) (words numbers) before after r

-- reading: as many numbers as there were, those of the bytes; otherwise all is as it was
abbrev pub ReadPairsSays : List ℕ → List ℤ → List ℤ → Checked → Type 0
ReadPairsSays bytes before after (Ok _) = Passes (paired_check bytes before ∷ []) × (length after ≡ length before) × NumbersOf bytes after
ReadPairsSays bytes before after (Err x) = Fault (paired_check bytes before ∷ []) (said x) × (after ≡ before)
