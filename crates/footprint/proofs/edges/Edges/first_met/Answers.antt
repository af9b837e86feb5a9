-- `edges::Edges::first_met` finds the first edge that edge i meets: the edges passed do not. Assumes nothing.
use Rattle.std.proofs.Common.{◌≡◌, ⊎_elim, List, ℕ, ◌≤◌, ◌<◌, ℤ, sym, subst, ◌∙◌, arith}
use Rattle.whole.proofs.Order.{ℕ_or}
use Rattle.rules.specs.Ring.{ring}
use Rattle.footprint.specs.Shape.{HoldsRing, Ends}
use Rattle.footprint.proofs.Outline.{size_of}
use Rattle.footprint.proofs.Pairs.{hit, missed}
use Rattle.footprint.proofs.edges.Edges.first_met.Goals as goal

ends : (l : List ℤ) (n i e : ℕ) → HoldsRing l n → Ends n i e → Ends (ring l).size i e
ends l n i e h d = subst (λ (m : ℕ). Ends m i e) (size_of h) d

pub returns-then-shares : goal.returns-then-shares
returns-then-shares c =
    let e = ends _ _ _ _ c.args.self.corners.holds c.end-j-end.ensures in
    let m = hit _ _ _ e _ c.loop-j.auto.j c.loop-j-test.true (sym c.shares.ensures ∙ c.if-shares.true) in
    record { below = subst (λ (n : ℕ). c.loop-j.j < n) (sym (size_of c.args.self.corners.holds)) m.below; bad = m; before = λ k a. missed _ _ _ e k (λ p q. c.loop-j.invariant k p a) }

pub loop-j-preserved : goal.loop-j-preserved
loop-j-preserved c m a b =
    let j = c.loop-j.j in
    ⊎_elim (λ (k : j ≤ m). let q : m ≡ j = omega arith in rw q (sym c.shares.ensures ∙ c.if-shares.false)) (λ (k : m < j). c.loop-j.invariant m a k) (ℕ_or j m)

pub returns : goal.returns
returns c =
    let d = ends _ _ _ _ c.args.self.corners.holds c.end-j-end.ensures in
    λ m b. missed _ _ _ d m (λ p q. c.loop-j.invariant m p (omega arith))
