-- `checks::draw` draws the outline: what was found and the area are those of the edges passed, whose corners are within reach. Assumes nothing.
use Rattle.std.proofs.Common.{◌≡◌, Bool, true, ◌&&◌, List, ℕ, ◌+◌, ◌*◌, ◌-◌, ◌≤◌, ◌<◌, ℤ, ◌+ℤ◌, w64, FitsSigned, sym, ap, subst, ◌∙◌, arith}
use Rattle.std.proofs.lemmas.Result.{err_from_is_err_and}
use Rattle.std.proofs.Math.Facts.{to_z-of_z}
use Rattle.std.specs.Bool.{then_some}
use Rattle.std.specs.Option.{option_or}
use Rattle.std.specs.Ordering.{int_eq}
use Rattle.std.specs.Prelude.{Option}
use Rattle.whole.specs.Decide.{Decides}
use Rattle.whole.proofs.Range.{read}
use Rattle.rules.specs.Ring.{Pt, ring, next, to}
use Rattle.rules.specs.Good.{Same}
use Rattle.rules.proofs.Ring.{next_below}
use Rattle.footprint.specs.Point.{pt}
use Rattle.footprint.specs.Shape.{HoldsRing, Corner, Reached, bends, wedge}
use Rattle.footprint.proofs.Shape.{same_decides}
use Rattle.footprint.proofs.Outline.{size_of, reached_next, corner_before, corner_read, Passed, part, passed_step, sum_fits, drawn, all_reached}
use Rattle.footprint.proofs.checks.draw.Goals as goal

-- a turn of the loop: corner i is p, and the next one, k, is q
module _ {l : List ℤ} {n i k : ℕ} {e f : Option ℕ} {twice : ℤ} (h : HoldsRing l n) (v : Passed l n i e f twice) (b : i < n) (d : k ≡ next (ring l).size i) where
  next_is : k ≡ next n i
  next_is = d ∙ ap (λ (m : ℕ). next m i) (sym (size_of h))

  next_in : k < n
  next_in = subst (λ (m : ℕ). m < n) (sym next_is) (next_below n i b)

  before : Reached l (2 * k)
  before = subst (λ (m : ℕ). Reached l (2 * m)) (sym next_is) (reached_next l n i b v.reach)

  module _ (p q : Pt) (c : Corner l k) (x : p ≡ (ring l).at i) (y : q ≡ (ring l).at k) where
    beyond : Corner l (next n i)
    beyond = subst (Corner l) next_is c

    far : q ≡ to (ring l) i
    far = y ∙ ap (ring l).at d

    part_is : wedge p q ≡ part (ring l) i
    part_is = rw (x, far)

    fits_more : {w : ℤ} → w ≡ wedge p q → FitsSigned w64 (twice +ℤ w)
    fits_more u = rw (u, part_is) (sum_fits l n i e f twice h v b beyond)

    same_is : (s : Bool) → s ≡ (int_eq p.x q.x && int_eq p.y q.y) → Decides (Same (ring l) i) s
    same_is s u = rw (u, ← x, ← far) (same_decides p q)

    bend_is : (t : Bool) → Decides ((0 < i) × (bends ((ring l).at (i - 1)) p q ≡ true)) t → Decides ((0 < i) × (bends ((ring l).at (i - 1)) ((ring l).at i) (to (ring l) i) ≡ true)) t
    bend_is t z = rw (x, far) at z

    step : {w : ℤ} (s t : Bool) {g m : Option ℕ} → w ≡ wedge p q → s ≡ (int_eq p.x q.x && int_eq p.y q.y) → Decides ((0 < i) × (bends ((ring l).at (i - 1)) p q ≡ true)) t
        → g ≡ option_or e (then_some s i) → m ≡ option_or f (then_some t i) → Passed l n (i + 1) g m (twice +ℤ w)
    step s t u a z o r = rw (o, r, u, part_is) (passed_step l n i e f twice h v b beyond s t (same_is s a) (bend_is t z))

pub returns-in_err-next : goal.returns-in_err-next
returns-in_err-next c =
    let p = err_from_is_err_and c.from_residual-in_err-next.result c.from_residual-in_err-next.ensures.1 in
    rw (p.1, p.2) (c.in_err-next.ensures (before c.args.corners.holds c.loop-i.invariant c.loop-i-test.true c.after.ensures.next))

pub bends_after-requires : goal.bends_after-requires
bends_after-requires c = corner_before _ _ _ _ _ _ c.args.corners.holds c.loop-i.invariant c.loop-i-test.true

-- every edge passed
done : {l : List ℤ} {n i : ℕ} {e f : Option ℕ} {twice : ℤ} → Passed l n i e f twice → n ≤ i → Passed l n n e f twice
done {l = l} {n = n} {i = i} {e = e} {f = f} {twice = twice} p b = let u = p.upto in let q : i ≡ n = omega arith in subst (λ (i : ℕ). Passed l n i e f twice) q p

pub overflow_add-area : goal.overflow_add-area
overflow_add-area c =
    let v = c.loop-i.invariant in
    let b = c.loop-i-test.true in
    let next = corner_read c.args.corners.holds (next_in c.args.corners.holds v b c.after.ensures.next) c.in_ok-next.next c.in_ok-next.ensures in
    let w = read w64 c.wedge-area.type_inv c.wedge-area.ensures in
    fits_more c.args.corners.holds v b c.after.ensures.next (pt c.at-here.result) (pt c.in_ok-next.next) next c.at-here.ensures c.in_ok-next.ensures w

pub loop-i-preserved : goal.loop-i-preserved
loop-i-preserved c =
    let v = c.loop-i.invariant in
    let b = c.loop-i-test.true in
    let next = corner_read c.args.corners.holds (next_in c.args.corners.holds v b c.after.ensures.next) c.in_ok-next.next c.in_ok-next.ensures in
    let more = step c.args.corners.holds v b c.after.ensures.next (pt c.at-here.result) (pt c.in_ok-next.next) next c.at-here.ensures c.in_ok-next.ensures c.eq.result c.bends_after.result in
    let w = read w64 c.wedge-area.type_inv c.wedge-area.ensures in
    let same = c.or-same.ensures ∙ ap (option_or c.loop-i.same) c.then_some.ensures in
    let fold = c.or-fold.ensures ∙ ap (option_or c.loop-i.fold) c.then_some-in-loop-i.ensures in
    rw (to_z-of_z (overflow_add-area c)) (more w c.eq.ensures c.bends_after.ensures same fold)

pub returns : goal.returns
returns c =
    let p = done c.loop-i.invariant c.loop-i-test.false in
    let fold = c.or-fold-2.ensures ∙ ap (λ (o : Option ℕ). option_or o c.loop-i.fold) c.then_some-closing.ensures in
    let drawing = drawn _ _ _ _ _ c.args.corners.holds p c.bends.result
    (pt c.at.result) (pt c.in_ok-first.first) (pt c.at-2.result) c.bends.ensures c.at.ensures c.in_ok-first.ensures c.at-2.ensures in
    ((all_reached _ _ _ _ _ c.args.corners.holds p, tt), rw fold drawing)
