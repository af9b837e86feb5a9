-- `edges::Edges::first_pair` finds the first pair: no edge passed meets a later one. Assumes nothing.
use Rattle.std.proofs.Common.{◌≡◌, ⊎_elim, List, ℕ, ◌≤◌, ◌<◌, ℤ, subst, arith}
use Rattle.whole.proofs.Order.{ℕ_or}
use Rattle.rules.specs.Ring.{ring}
use Rattle.rules.specs.Good.{Meet}
use Rattle.footprint.specs.Shape.{HoldsRing}
use Rattle.footprint.proofs.Outline.{size_of}
use Rattle.footprint.proofs.edges.Edges.first_pair.Goals as goal

-- the second edge is one of the ring's
inside : (l : List ℤ) (n h k : ℕ) → HoldsRing l n → Meet (ring l) h k → k < n
inside l n h k p m = let b = m.below in let e = size_of p in omega arith

pub loop-i-preserved : goal.loop-i-preserved
loop-i-preserved c h k a m =
    let l = c.args.self.corners.list.now in
    let i = c.loop-i.i in
    let b = inside _ _ _ _ c.args.self.corners.holds m in
    ⊎_elim (λ (q : i ≤ h). let e : h ≡ i = omega arith in c.in_default.ensures k b (subst (λ (h : ℕ). Meet (ring l) h k) e m)) (λ (q : h < i). c.loop-i.invariant h k q m) (ℕ_or i h)

pub returns : goal.returns
returns c i j m = c.loop-i.invariant i j (let a = m.order in let b = inside _ _ _ _ c.args.self.corners.holds m in omega arith) m
