-- The entry of a decimal (specs/Calls) is what the intake's words say of its value: whether it is within reach and on the grid is told exactly, by whole numbers. Assumes nothing.
use mathlib.Core.Path.{◌≡◌, refl, sym, ap, ◌∙◌}
use mathlib.Core.Bool.{Bool, true, false, cond}
use Prim.Native.Nat.{ℕ, ◌*◌, ◌/◌, ◌%◌, ◌^◌, ◌≤◌}
use native.Mathlib.Omega.{arith}
use native.Mathlib.Nat.{div-add-mod', mul-mod_left}
use borrow.Author.Tests.{ltb-true, ltb-false, eqb-true, eqb-false}
use lib.Dec.{ltb, eqb}
use lib.IntN.{ℤ, pos, negsuc, nat_abs, ◌*ℤ◌}
use lib.Signed.{◌≤ℤ◌}
use Rattle.whole.specs.Fraction.{◌≈◌}
use Rattle.whole.proofs.Difference.{ring}
use Rattle.whole.proofs.Range.{abs_mul}
use Rattle.grid.specs.Number.{signed, grid, Within}
use Rattle.grid.proofs.Value.{minus_⊖, signed_mul, size_within}
use Rattle.line.specs.Number.{Decimal, value, gridded}
use Rattle.std.proofs.Common.{Ok, Err}
use Rattle.line.specs.declared.Missed.TheVariants.{Beyond, OffGrid}
use Rattle.line.specs.Calls.{entry}
use Rattle.line.proofs.Decimals.{signed_size, gridded_small}

-- ---- plus or minus a over d
least : (s : Bool) (a d : ℕ) → a ≤ 1024 * d → (negsuc 1023 *ℤ pos d) ≤ℤ (signed s a *ℤ pos 1)
least true a d h = simp (minus_⊖, ring) (omega arith)
least false a d h = simp ring (omega arith)

most : (s : Bool) (a d : ℕ) → a ≤ 1024 * d → (signed s a *ℤ pos 1) ≤ℤ (pos 1024 *ℤ pos d)
most true a d h = simp (minus_⊖, ring) (omega arith)
most false a d h = simp ring (omega arith)

module _ (d : Decimal) where
  abbrev scale : ℕ
  scale = 10 ^ d.places

  -- ---- reach
  within : d.whole ≤ 1024 * scale → Within (value d)
  within h = record { least = least d.negative d.whole scale h; most = most d.negative d.whole scale h }

  size : Within (value d) → d.whole ≤ 1024 * scale
  size w = size_within 1023 d.negative d.whole scale w.least w.most

  -- ---- the grid
  on_grid : 16 * d.whole % scale ≡ 0 → grid (gridded d) ≈ value d
  unfolding gridded
  on_grid e =
      let q : 16 * d.whole / scale * scale ≡ d.whole * 16 = omega (arith, div-add-mod' (16 * d.whole) scale) in
      sym (signed_mul d.negative (16 * d.whole / scale) scale) ∙ (ap (signed d.negative) q ∙ signed_mul d.negative d.whole 16)

  no_rest : (k : ℤ) → grid k ≈ value d → 16 * d.whole % scale ≡ 0
  no_rest k e =
      let z = signed d.negative d.whole in
      let q : nat_abs k * scale ≡ nat_abs z * 16 = sym (abs_mul k (pos scale)) ∙ (ap nat_abs e ∙ abs_mul z (pos 16)) in
      let r : nat_abs k * scale ≡ 16 * d.whole = omega (arith, signed_size d.negative d.whole) in
      rw (← r) (mul-mod_left (nat_abs k) scale)

  pub grid_small : Within (value d) → nat_abs (gridded d) ≤ 16384
  grid_small w = gridded_small d (size w)

-- ---- the entry of a decimal, told apart
pub data Tells (d : Decimal) : Type 0 where
  far : entry d ≡ Err Beyond → (Within (value d) → ⊥) → Tells d
  off : entry d ≡ Err OffGrid → Within (value d) → (((k : ℤ) × (grid k ≈ value d)) → ⊥) → Tells d
  on : entry d ≡ Ok (gridded d) → Within (value d) → grid (gridded d) ≈ value d → Tells d

pub tells : (d : Decimal) → Tells d
unfolding entry
tells d = by (ltb reach d.whole) (eqb left 0) refl refl refl
  where
    reach : ℕ
    reach = 1024 * scale d

    left : ℕ
    left = 16 * d.whole % scale d

    by : (t u : Bool) → ltb reach d.whole ≡ t → eqb left 0 ≡ u → entry d ≡ cond t (Err Beyond) (cond u (Ok (gridded d)) (Err OffGrid)) → Tells d
    by true u h k e = far e (λ w. omega (arith, ltb-true reach d.whole h, size d w))
    by false true h k e = on e (within d (ltb-false reach d.whole h)) (on_grid d (eqb-true left 0 k))
    by false false h k e = off e (within d (ltb-false reach d.whole h)) (λ g. eqb-false left 0 k (no_rest d g.0 g.1))
