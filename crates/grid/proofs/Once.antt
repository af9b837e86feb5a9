-- At most one answer for a number. Assumes nothing.
use mathlib.Core.Path.{◌≡◌, refl, sym, ap, subst, ◌∙◌}
use lib.Dec.{lit<}
use lib.IntN.{ℤ, pos, nat_abs, ◌+ℤ◌}
use lib.Signed.{◌≤ℤ◌}
use lib.Ieee.{Float, nan, inf, fin}
use Rattle.whole.specs.Fraction.{Frac, ◌≈◌}
use Rattle.whole.proofs.Order.{antisym, clash, cancel_lt, cancel_next, cancel_eq, lt_le}
use Rattle.whole.proofs.Fraction.{le_then_lt, lt_then_le}
use Rattle.grid.specs.declared.Taken.{Taken}
use Rattle.grid.specs.declared.Taken.TheVariants.{Grid, OffGrid, NotNumber, Beyond}
use Rattle.grid.specs.Number.{value, grid, Off, Export, Worth, Answer}
use Rattle.grid.proofs.Value.{≈-≼, ≈_sym}
use Rattle.grid.proofs.Bits.{one_value}
use Rattle.grid.proofs.Exact.{minus, export_has}

-- ---- the export of a grid number
pub one_export : (k : ℤ) (v w : Float) → Export k v → Export k w → v ≡ w
one_export k v w h i = one_value v w (minus k) (nat_abs k) 16 (lit< tt) h.binary i.binary (export_has k v h) (export_has k w i)

-- ---- a value lies at one grid value, or between one and the next
one_grid : (v : Frac) (j k : ℤ) → grid j ≈ v → grid k ≈ v → j ≡ k
one_grid v j k h i = cancel_eq j k v.den v.some (h ∙ sym i)

between : (v : Frac) (j : ℤ) (w : Float) → grid j ≈ v → Off v w → ⊥
between v j w h o =
    clash o.k j
    (cancel_lt o.k j (pos 16) (grid j).some (lt_then_le (grid o.k) v (grid j) o.above (≈-≼ v (grid j) (≈_sym (grid j) v h))))
    (cancel_next j o.k (pos 16) (grid j).some (le_then_lt (grid j) v (grid (o.k +ℤ pos 1)) (≈-≼ (grid j) v h) o.next))

one_off : (v : Frac) (w y : Float) → Off v w → Off v y → w ≡ y
one_off v w y o p =
    one_export p.k w y (subst (λ (k : ℤ). Export k w) (antisym o.k p.k (within o p) (within p o)) o.export) p.export
  where
    within : {a b : Float} (q : Off v a) (r : Off v b) → q.k ≤ℤ r.k
    within q r = cancel_next q.k r.k (pos 16) (grid q.k).some (le_then_lt (grid q.k) v (grid (r.k +ℤ pos 1)) (lt_le _ _ q.above) r.next)

pub one_worth : (v : Frac) (s t : Taken) → Worth v s → Worth v t → s ≡ t
one_worth v (Grid j) (Grid k) h i = ap Grid (one_grid v j k h.1 i.1)
one_worth v (Grid j) (OffGrid w) h i = absurd (between v j w h.1 i.1)
one_worth v (Grid j) NotNumber h i = absurd i
one_worth v (Grid j) Beyond h i = absurd (i h.0)
one_worth v (OffGrid w) (Grid k) h i = absurd (between v k w i.1 h.1)
one_worth v (OffGrid w) (OffGrid y) h i = ap OffGrid (one_off v w y h.1 i.1)
one_worth v (OffGrid w) NotNumber h i = absurd i
one_worth v (OffGrid w) Beyond h i = absurd (i h.0)
one_worth v NotNumber t h i = absurd h
one_worth v Beyond (Grid k) h i = absurd (h i.0)
one_worth v Beyond (OffGrid y) h i = absurd (h i.0)
one_worth v Beyond NotNumber h i = absurd i
one_worth v Beyond Beyond h i = refl

-- two answers that both meet the definition are equal
pub one_answer : (x : Float) (s t : Taken) → Answer x s → Answer x t → s ≡ t
one_answer nan s t h i = h ∙ sym i
one_answer (inf b) s t h i = h ∙ sym i
one_answer (fin b m e) s t h i = one_worth (value b m e) s t h i
