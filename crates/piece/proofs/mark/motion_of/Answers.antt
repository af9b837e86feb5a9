-- `mark::motion_of` has the point and the difference of the velocities: its four numbers are read back. Assumes nothing.
use mathlib.Core.Path.{◌≡◌, ◌∙◌}
use native.Mathlib.Omega.{arith}
use borrow.Author.Rules.{rules}
use lib.IntN.{◌-ℤ◌}
use mir.Syntax.{w64}
use Rattle.whole.proofs.Range.{read}
use Rattle.piece.proofs.Steps.{word}
use Rattle.piece.proofs.mark.motion_of.Goals as goal
use Rattle.piece.proofs.mark.motion_of.Goals.{After-gap-2}

module _ (c : After-gap-2) where
  x : word c.wide.result ≡ c.args.run.x
  x = read w64 c.wide.type_inv (c.wide.ensures ∙ search rules)

  y : word c.wide-2.result ≡ c.args.run.y
  y = read w64 c.wide-2.type_inv (c.wide-2.ensures ∙ search rules)

  u : word c.gap.result ≡ c.args.run.vx -ℤ c.args.slab.vx
  u = read w64 c.gap.type_inv (c.gap.ensures ∙ search rules)

  v : word c.gap-2.result ≡ c.args.run.vy -ℤ c.args.slab.vy
  v = read w64 c.gap-2.type_inv (c.gap-2.ensures ∙ search rules)

pub invariant_of-result-2 : goal.invariant_of-result-2
invariant_of-result-2 c =
    let k = (goal.at.invariant_of-result-2 c).After-gap-2 in
    let h = c.requires.1 in
    record { far = rw (u k, v k) (record { x = omega (arith, h.x); y = omega (arith, h.y) }) }

pub invariant_of-result-3 : goal.invariant_of-result-3
invariant_of-result-3 c =
    let k = (goal.at.invariant_of-result-3 c).After-gap-2 in
    record { close = rw (x k, y k) c.requires.0; slow = rw (u k, v k) c.requires.1 }

pub returns : goal.returns
returns c = let k = (goal.at.returns c).After-gap-2 in (rw (x k, y k), rw (u k, v k))
