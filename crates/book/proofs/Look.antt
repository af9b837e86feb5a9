-- The bytes of an entry, one by one, and the code of a sound slot. Assumes nothing.
use Rattle.std.specs.Prelude.{Bool, true, false, None}
use Rattle.std.specs.Bool.{then_some}
use mathlib.Core.Path.{◌≡◌, sym, ap, ◌∙◌}
use mathlib.Core.Logic.{⊎_elim}
use mathlib.Core.List.{List, ◌++◌}
use Prim.Native.Nat.{ℕ, ◌+◌, ◌*◌, ◌/◌, ◌%◌, ◌≤◌, ◌<◌}
use native.Mathlib.Omega.{arith}
use lib.ListN.{length, length-append, get_or-append, get_or-eq_default}
use lib.Seq.{get_or-append-add}
use Rattle.rules.specs.Reach.{Run}
use Rattle.whole.specs.Decide.{Decides}
use Rattle.seal.specs.Seal.{byte, block_of}
use Rattle.seal.proofs.Bytes.{block_at}
use Rattle.rules.specs.Verdict.{NONE}
use Rattle.book.specs.Entry.{code_at, code_end, four, Possible}
use Rattle.book.specs.Steps.{CodeBytes, SoundAfter, Recalls}

-- ---- four bytes and their number
pub code_of : (c : ℕ) → c < 4294967296 → c ≡ c % 256 + 256 * (c / 256 % 256) + 65536 * (c / 256 / 256 % 256) + 16777216 * (c / 256 / 256 / 256 % 256)
code_of c h = omega arith

-- ---- the first bytes, the code's and the others
module _ (front : List ℕ) (c : ℕ) (n : length front ≡ code_at) where
  pub named_length : length (front ++ four c) ≡ code_end
  named_length = omega (arith, length-append front (four c))

  pub named_few : length (front ++ four c) ≤ 510
  named_few = omega (arith, named_length)

  pub at_front : (i : ℕ) → i < code_at → byte (front ++ four c) i ≡ byte front i
  at_front i h = get_or-append front (four c) 0 i (omega arith)

  pub at_code : (j : ℕ) → byte (front ++ four c) (code_at + j) ≡ byte (four c) j
  at_code j = ap (λ m. byte (front ++ four c) (m + j)) (sym n) ∙ get_or-append-add front (four c) j 0

  pub at_rest : (i : ℕ) → code_end ≤ i → byte (front ++ four c) i ≡ 0
  at_rest i h = let l : length (front ++ four c) ≤ i = omega (arith, named_length) in get_or-eq_default (front ++ four c) 0 l

  pub slot_at : (slot : List ℕ) → slot ≡ block_of (front ++ four c) → (i : ℕ) → i < 510 → byte slot i ≡ byte (front ++ four c) i
  slot_at slot e i h = ap (λ (l : List ℕ). byte l i) e ∙ block_at (front ++ four c) named_few i h

-- ---- a sound slot is known by its bytes
module _ (slot front : List ℕ) (r : Run) (n : length front ≡ code_at) where
  code_at_lem : (c : ℕ) → SoundAfter slot front r c → (j : ℕ) → j < 4 → byte slot (code_at + j) ≡ byte (four c) j
  code_at_lem c s j h = slot_at front c n slot s.same (code_at + j) (omega arith) ∙ at_code front c n j

  sound_code : (c : ℕ) → SoundAfter slot front r c → CodeBytes slot c
  sound_code c s = let f = s.fits in let at = code_at_lem c s in omega (arith, code_of c f, at 0 (omega arith), at 1 (omega arith), at 2 (omega arith), at 3 (omega arith))

  -- so it remembers the code that its bytes have, or none
  module _ (code : ℕ) (e : CodeBytes slot code) where
    its_code : (c : ℕ) → SoundAfter slot front r c → c ≡ code
    its_code c s = sound_code c s ∙ sym e

    pub beyond : (code ≡ NONE → ⊥) → 256 * r.ticks < code → Recalls slot front r None
    beyond u h c s = let q = its_code c s in ⊎_elim (λ g. u (sym q ∙ g)) (λ g. omega arith) s.possible

    other : (slot ≡ block_of (front ++ four code) → ⊥) → Recalls slot front r None
    other u c s = u (s.same ∙ ap (λ (m : ℕ). block_of (front ++ four m)) (its_code c s))

    pub looked : (b : Bool) → code < 4294967296 → Possible r.ticks code → Decides (slot ≡ block_of (front ++ four code)) b → Recalls slot front r (then_some b code)
    looked true f p h = record { fits = f; possible = p; same = h }
    looked false f p h = other h
