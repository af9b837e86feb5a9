-- A text put into a lent buffer at a place. Assumes nothing.
use Rattle.std.specs.Prelude.{◌≡◌, List, ℕ, ◌+◌, ◌≤◌, ◌<◌, min, length, get_or}

-- the last place that a number of the machine can name
abbrev pub LAST : ℕ
LAST = 18446744073709551615

-- next is the place after the text; from at up to it stands the text, as far as the buffer goes, and all else stays
pub record Puts (before : List ℕ) (at : ℕ) (text after : List ℕ) (next : ℕ) : Type 0 where
  pub end : next ≡ min (at + length text) LAST
  pub size : length after ≡ length before
  pub within : (k : ℕ) → at + k < next → at + k < length before → get_or after (at + k) 0 ≡ get_or text k 0
  pub lower : (k : ℕ) → k < at → get_or after k 0 ≡ get_or before k 0
  pub upper : (k : ℕ) → next ≤ k → get_or after k 0 ≡ get_or before k 0
