-- "What comes back when it can't be done": refusals, and the order in which checks are made. Assumes nothing.
use Rattle.std.specs.Prelude.{◌≡◌, ◌⊎◌, List, [], ◌∷◌, ◌++◌, ℕ, zero, suc, ◌<◌, Option, Some, None}

-- a number, a block and two places
pub record Refusal : Type 0 where
  pub number : ℕ
  pub block : ℕ
  pub a : ℕ
  pub b : ℕ

-- outside a room the block is 0
abbrev pub refuse : ℕ → ℕ → ℕ → Refusal
refuse n a b = record { number = n; block = 0; a = a; b = b }

-- the same in block n of a room: a refusal of piece i is one of block i + 1
abbrev pub in_block : ℕ → Refusal → Refusal
in_block n r = record { number = r.number; block = n; a = r.a; b = r.b }

-- a check: when it passes, and which refusal it gives when not
pub record Check : Type 1 where
  pub passes : Type 0
  pub fails : Refusal → Type 0

-- every check passes
abbrev pub Passes : List Check → Type 0
Passes [] = Unit {0}
Passes (c ∷ cs) = c.passes × Passes cs

-- r is what the first check that does not pass gives
abbrev pub Fault : List Check → Refusal → Type 0
Fault [] r = ⊥
Fault (c ∷ cs) r = c.fails r ⊎ (c.passes × Fault cs r)

-- one demand, one refusal
abbrev pub demand : Type 0 → Refusal → Check
demand P r = record { passes = P; fails = λ s. (P → ⊥) × (s ≡ r) }

-- the first of n numbers that is Bad
pub record First (Bad : ℕ → Type 0) (n i : ℕ) : Type 0 where
  pub below : i < n
  pub bad : Bad i
  pub before : (j : ℕ) → j < i → Bad j → ⊥

-- what a search for the first of n numbers that is Bad finds
abbrev pub Sought : (ℕ → Type 0) → ℕ → Option ℕ → Type 0
Sought Bad n None = (j : ℕ) → j < n → Bad j → ⊥
Sought Bad n (Some i) = First Bad n i

-- none of n numbers is Bad; otherwise the first one gives the refusal
abbrev pub each : (ℕ → Type 0) → ℕ → (ℕ → Refusal) → Check
each Bad n r = record { passes = (j : ℕ) → j < n → Bad j → ⊥; fails = λ s. (i : ℕ) × First Bad n i × (s ≡ r i) }

-- one list of checks after the other, the first n
unfoldable pub in_turn : (ℕ → List Check) → ℕ → List Check
in_turn f zero = []
in_turn f (suc n) = in_turn f n ++ f n
