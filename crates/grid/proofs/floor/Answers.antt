-- `grid::floor` meets its contract: the number next to it is less than one away, and the test says on which side. Assumes nothing.
use mathlib.Core.Path.{◌≡◌, sym, subst}
use Prim.Native.Nat.{◌≤◌}
use lib.Dec.{lit≤}
use lib.Ieee.{Float, of_bits}
use mir.Syntax.{w32}
use mir.Val.{to_z, of_z}
use mir.Facts.{to_z-of_z}
use lib.IntN.{pos, negsuc, nat_abs, ◌-ℤ◌}
use Rattle.grid.specs.Number.{AtOrBelow}
use Rattle.grid.proofs.Whole.{cast, next, asks, near, next_small, cast_read, small_fits, in_float_lem, sum_fits, floor_next, floor_less}
use Rattle.grid.proofs.floor.Goals as goal

-- the number next to it, as the machine has it
seen : (g : Float) → nat_abs (next g) ≤ 16384 → to_z w32 (of_z w32 (to_z w32 (of_z w32 (cast g)) -ℤ pos 12582912)) ≡ next g
seen g h = rw (cast_read g) (to_z-of_z (small_fits (next g) h))

-- the one before it, as the machine has it
seen_less : (g : Float) → nat_abs (next g) ≤ 16384 → let t = next g -ℤ pos 1 in to_z w32 (of_z w32 t) ≡ t
seen_less g h = to_z-of_z (sum_fits (next g) (negsuc 0) h (lit≤ tt))

pub float_to_int-next : goal.float_to_int-next
unfolding of_bits
float_to_int-next c = asks c.args.scaled c.requires

pub overflow_sub-next : goal.overflow_sub-next
unfolding of_bits
overflow_sub-next c = let g = c.args.scaled in rw (cast_read g) (small_fits (next g) (next_small g c.requires))

pub int_to_float-back : goal.int_to_float-back
unfolding of_bits
int_to_float-back c = let g = c.args.scaled in let h = next_small g c.requires in rw (seen g h) (in_float_lem (next g) h)

pub overflow_sub-result : goal.overflow_sub-result
unfolding of_bits
overflow_sub-result c = let g = c.args.scaled in let h = next_small g c.requires in rw (seen g h) (sum_fits (next g) _ h (lit≤ tt))

pub returns-then-back-scaled : goal.returns-then-back-scaled
unfolding of_bits
returns-then-back-scaled c =
    let g = c.args.scaled in
    let h = next_small g c.requires in
    λ v i. rw (seen g h) (subst (AtOrBelow v) (sym (seen_less g h)) (floor_less g v (next g) i (near g c.requires v i) (rw (seen g h) at c.if-back-scaled.true)))

pub returns-else-back-scaled : goal.returns-else-back-scaled
unfolding of_bits
returns-else-back-scaled c =
    let g = c.args.scaled in
    let h = next_small g c.requires in
    λ v i. rw (seen g h) (floor_next g v (next g) i (near g c.requires v i) (rw (seen g h) at c.if-back-scaled.false))
