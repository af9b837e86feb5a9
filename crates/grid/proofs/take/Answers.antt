-- `grid::take` meets its contract: each way out says what the tests before it showed. Assumes nothing.
use mathlib.Core.Path.{◌≡◌, sym, subst}
use Prim.Native.Nat.{◌≤◌}
use mathlib.Core.Bool.{true, false}
use lib.Ieee.{Float, of_bits, neg, binary32, eq, mul, of_int}
use lib.IntN.{ℤ, nat_abs}
use mir.Val.{to_z, of_z}
use mir.Syntax.{w32}
use Rattle.whole.proofs.Range.{field}
use Rattle.grid.specs.declared.Taken.TheVariants.{Grid, OffGrid}
use Rattle.grid.specs.Number.{Answer}
use Rattle.grid.proofs.Whole.{in_float_lem}
use Rattle.grid.proofs.Number.{Inside, inside, not_number, below_reach, above_reach, bounded, sixteenth, floor_small, on_grid, off_grid}
use Rattle.grid.proofs.take.Goals as goal
use Rattle.grid.proofs.take.Goals.{Else-x-2, After-floor-k, then-x-via-then-x, then-x-via-else-x+then-x-2}

pub returns-then-is_nan : goal.returns-then-is_nan
returns-then-is_nan c = not_number c.args.x (sym c.if-is_nan.ensures.value)

pub returns-then-x : goal.returns-then-x
unfolding of_bits neg
returns-then-x c =
    elim c.then-x.branch [
      | then-x-via-then-x w ↦ below_reach c.args.x w.if-x.true
      | then-x-via-else-x+then-x-2 w ↦ above_reach c.args.x w.if-x-2.true
    ]

-- past the tests: within reach
reached : (c : Else-x-2) → Inside c.args.x
unfolding of_bits neg
reached c = inside c.args.x (sym c.if-is_nan.ensures.value) c.if-x.false c.if-x-2.false

pub floor-k-requires : goal.floor-k-requires
floor-k-requires c = bounded c.args.x c.sixteenfold-scaled.result (reached (goal.at.floor-k-requires c).Else-x-2) c.sixteenfold-scaled.ensures

-- what is known when the floor is taken
module _ (s : After-floor-k) where
  abbrev k : ℤ
  k = s.floor-k.result

  abbrev g : Float
  g = s.sixteenfold-scaled.result

  abbrev x : Float
  x = s.args.x

  -- past the tests: within reach
  in_reach : Inside x
  unfolding of_bits neg
  in_reach = inside s.args.x (sym s.if-is_nan.ensures.value) s.if-x.false s.if-x-2.false

  small : nat_abs k ≤ 16384
  small = floor_small x g k in_reach s.sixteenfold-scaled.ensures s.floor-k.ensures

  on : eq (of_int binary32 k) g ≡ true → Answer x (Grid k)
  on = on_grid x g k in_reach s.sixteenfold-scaled.ensures s.floor-k.ensures

  off : eq (of_int binary32 k) g ≡ false → Answer x (OffGrid (mul binary32 (of_int binary32 k) sixteenth))
  off = off_grid x g k in_reach s.sixteenfold-scaled.ensures s.floor-k.ensures

  -- the floor, as the machine has it
  seen : to_z w32 (of_z w32 k) ≡ k
  seen = field w32 k s.floor-k.type_inv

pub int_to_float-back : goal.int_to_float-back
int_to_float-back c = let s = (goal.at.int_to_float-back c).After-floor-k in rw (seen s) (in_float_lem (k s) (small s))

pub returns-then-back-scaled : goal.returns-then-back-scaled
returns-then-back-scaled c = let s = (goal.at.returns-then-back-scaled c).After-floor-k in rw (seen s) (on s (rw (seen s) at c.if-back-scaled.true))

pub returns : goal.returns
unfolding of_bits
returns c =
    let s = (goal.at.returns c).After-floor-k in
    subst (λ (k : ℤ). Answer (x s) (OffGrid (mul binary32 (of_int binary32 k) sixteenth))) (sym (seen s)) (off s (rw (seen s) at c.if-back-scaled.false))
