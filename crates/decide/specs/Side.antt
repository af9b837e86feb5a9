-- On which side of a line a point lies: no rule speaks of it, but every test goes by it. Assumes nothing.
use Rattle.std.specs.Prelude.{ℤ, ◌-ℤ◌, ◌*ℤ◌}
use Rattle.rules.specs.Ring.{Pt}

-- twice the area of a triangle: positive where p is to the left of a → b
abbrev pub side : ℤ → ℤ → ℤ → ℤ → ℤ → ℤ → ℤ
side ax ay bx by px py = (bx -ℤ ax) *ℤ (py -ℤ ay) -ℤ (by -ℤ ay) *ℤ (px -ℤ ax)

abbrev pub side_of : Pt → Pt → Pt → ℤ
side_of a b p = side a.x a.y b.x b.y p.x p.y
