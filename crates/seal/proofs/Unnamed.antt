-- Bytes that have no name: when they are zero, and that they are in the block of its first bytes. Assumes nothing.
use Rattle.std.specs.Prelude.{Option}
use mathlib.Core.Path.{◌≡◌, sym, ◌∙◌}
use mathlib.Core.Logic.{⊎_elim}
use mathlib.Core.List.{List}
use Prim.Native.Nat.{ℕ, ◌+◌, ◌≤◌, ◌<◌}
use native.Mathlib.Omega.{arith}
use lib.ListN.{length, take, drop, get_or-eq_default}
use lib.Seq.{get_or-take, get_or-drop}
use Rattle.whole.proofs.Order.{ℕ_or}
use Rattle.rules.specs.Refusal.{Sought}
use Rattle.rules.proofs.Checks.{sought_map}
use Rattle.seal.specs.Seal.{body_size, byte, block_of, NotZero, unnamed_check}
use Rattle.seal.proofs.Bytes.{block_at}
use Rattle.seal.proofs.Replaced.{part_length}

-- what is not otherwise is so
pub stable : (a b : ℕ) → ((a ≡ b → ⊥) → ⊥) → a ≡ b
stable a b f =
    ⊎_elim
    (λ (h : a ≤ b). ⊎_elim (λ (k : b ≤ a). (omega arith)) (λ (k : a < b). absurd (f (λ e. omega arith))) (ℕ_or b a))
    (λ (h : b < a). absurd (f (λ e. omega arith)))
    (ℕ_or a b)

-- what is sought in a part of a list, from here on
module _ (l : List ℕ) (from n : ℕ) (h : from + n ≤ length l) where
  abbrev part : List ℕ
  part = take n (drop from l)

  part_byte : (j : ℕ) → j < n → byte part j ≡ byte l (from + j)
  part_byte j k = get_or-take n (drop from l) j 0 k ∙ get_or-drop from l j 0

  pub sought_part : (r : Option ℕ) → Sought (λ j. byte part j ≡ 0 → ⊥) (length part) r → Sought (NotZero l from) n r
  sought_part r s =
      sought_map (λ j. byte part j ≡ 0 → ⊥) (NotZero l from) n r (λ j k f e. f (part_byte j k ∙ e)) (λ j k f e. f (sym (part_byte j k) ∙ e)) (rw (part_length l from n h) at s)

-- past its first bytes a block is zero
pub unnamed_front : (front : List ℕ) (from : ℕ) → length front ≤ body_size → length front ≤ from → (unnamed_check (block_of front) from).passes
unnamed_front front from few h j k b =
    let l : length front ≤ from + j = omega arith in
    b (block_at front few (from + j) (omega arith) ∙ get_or-eq_default front 0 l)
