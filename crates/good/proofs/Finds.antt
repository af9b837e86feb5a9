-- What the tests of numbers find, and the checks of a piece and of a place in their rows. Assumes nothing.
use Rattle.std.specs.Prelude.{Ok, Err}
use mathlib.Core.Path.{◌≡◌, subst}
use mathlib.Core.Bool.{Bool, true, false}
use mathlib.Core.List.{List, [], ◌∷◌}
use mathlib.Core.Logic.{inl, ⊎_elim}
use Prim.Native.Nat.{ℕ, zero, suc, ◌+◌, ◌*◌, ◌^◌, ◌<◌}
use native.Mathlib.Omega.{arith}
use lib.IntN.{ℤ}
use lib.ListN.{length, get_or}
use lib.Signed.{mag}
use mir.Syntax.{w32}
use mir.Val.{hbits, to_z, of_z}
use Rattle.whole.proofs.Range.{field}
use Rattle.whole.specs.Decide.{Decides}
use Rattle.whole.proofs.Decide.{yes, no}
use Rattle.whole.proofs.Flag.{decided}
use Rattle.rules.specs.Ring.{Pt}
use Rattle.rules.specs.Reach.{Piece}
use Rattle.rules.specs.Refusal.{Refusal, Check, First, Passes, Fault, each, refuse}
use Rattle.rules.specs.Good.{BandNumber, Sized, sized_check, band_check, shape_checks, footprint_checks, piece_checks}
use Rattle.rules.specs.Place.{PointNumber, place_checks}
use Rattle.refusal.specs.Said.{said, Checked, Finds}
use Rattle.refusal.proofs.Finds.{finds_after}
use Rattle.good.specs.Numbers.{tests_checks}

-- ---- tests of numbers
-- one of a number that its caller reads back
pub reread : (P : ℤ → Type 0) (z : ℤ) (t : Bool) → mag z < 2 ^ hbits w32 → Decides (P (to_z w32 (of_z w32 z))) t → Decides (P z) t
reread P z t h d = subst (λ (y : ℤ). Decides (P y) t) (field w32 z h) d

-- each test says whether its number is taken
abbrev Says : (ℕ → Type 0) → List Bool → Type 0
Says Taken [] = Unit {0}
Says Taken (t ∷ ts) = Decides (Taken 0) t × Says (λ j. Taken (suc j)) ts

pub record Tested (Taken : ℕ → Type 0) (ts : List Bool) : Type 0 where
  pub says : Says Taken ts

says_at : (Taken : ℕ → Type 0) (ts : List Bool) → Says Taken ts → (j : ℕ) → j < length ts → Decides (Taken j) (get_or ts j true)
says_at Taken [] d j h = absurd (omega arith)
says_at Taken (t ∷ ts) d zero h = d.0
says_at Taken (t ∷ ts) d (suc j) h = says_at (λ j. Taken (suc j)) ts d.1 j (omega arith)

module _ {Taken : ℕ → Type 0} {ts : List Bool} (d : Tested Taken ts) where
  at : (j : ℕ) → j < length ts → Decides (Taken j) (get_or ts j true)
  at = says_at Taken ts d.says

  failed : (j : ℕ) → j < length ts → get_or ts j true ≡ false → Taken j → ⊥
  failed j h e = no (Taken j) _ (at j h) e

  fails : (j : ℕ) → j < length ts → (Taken j → ⊥) → get_or ts j true ≡ false
  fails j h f = ⊎_elim (λ e. absurd (f (yes (Taken j) _ (at j h) e))) (λ e. e) (decided (get_or ts j true))

  pub tests_pass : Passes (tests_checks ts) → (j : ℕ) → j < length ts → (Taken j → ⊥) → ⊥
  tests_pass p j h f = p.0 j h (fails j h f)

  first : (i : ℕ) → First (λ j. get_or ts j true ≡ false) (length ts) i → First (λ j. Taken j → ⊥) (length ts) i
  first i g = record { below = g.below; bad = failed i g.below g.bad; before = λ j h k. g.before j h (fails j (let b = g.below in omega arith) k) }

  pub tests_fault : (cs : List Check) (x : Refusal) → Fault (tests_checks ts) x → Fault (each (λ j. Taken j → ⊥) (length ts) (λ i. refuse 4 (2 + 2 * i) 0) ∷ cs) x
  tests_fault cs x f = ⊎_elim (λ g. inl (g.0, first g.0 g.1, g.2)) (λ g. absurd g.1) f

  pub tests_find : (r : Checked) → Finds (tests_checks ts) r → Finds (each (λ j. Taken j → ⊥) (length ts) (λ i. refuse 4 (2 + 2 * i) 0) ∷ []) r
  tests_find (Ok _) p = (tests_pass p, tt)
  tests_find (Err x) f = tests_fault [] (said x) f

-- ---- checks in a row
pub piece_finds : (k : Piece) (r : Checked) → Sized k.corners → ((j : ℕ) → j < 5 → (BandNumber k j → ⊥) → ⊥) → Finds (shape_checks k.corners) r → Finds (piece_checks k) r
unfolding piece_checks sized_check band_check
piece_finds k r h b f = finds_after (sized_check k.corners) (band_check k ∷ shape_checks k.corners) r h (finds_after (band_check k) (shape_checks k.corners) r b f)

pub place_finds : (p : Pt) (l : List ℤ) (r : Checked) → ((j : ℕ) → j < 2 → (PointNumber p j → ⊥) → ⊥) → Finds (footprint_checks l) r → Finds (place_checks p l) r
unfolding place_checks
place_finds p l r h f = finds_after (each (λ j. PointNumber p j → ⊥) 2 (λ i. refuse 4 (2 + 2 * i) 0)) (footprint_checks l) r h f
