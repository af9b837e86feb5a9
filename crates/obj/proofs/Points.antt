-- Numbers of points, x, y, x, y .., by their places, and the table that has the vertices. Assumes nothing.
use mathlib.Core.Path.{◌≡◌, refl, sym, ap, ◌∙◌}
use mathlib.Core.List.{List, [], ◌∷◌, ◌++◌}
use Prim.Native.Nat.{ℕ, zero, suc, ◌+◌, ◌*◌, ◌≤◌, ◌<◌}
use native.Mathlib.Omega.{arith}
use borrow.Author.Count.{below_more}
use lib.IntN.{ℤ, pos}
use lib.ListN.{length, get_or, set, length-set, length-append, get_or-append}
use lib.Seq.{get_or-append_seam, get_or-set_same, get_or-set_other}
use Rattle.whole.proofs.Front.{stored}
use Rattle.line.specs.Number.{Decimal}
use Rattle.line.specs.Line.{Point}
use Rattle.obj.specs.declared.table.Entry.{Entry}
use Rattle.obj.specs.File.{nowhere, flat}
use Rattle.obj.specs.Steps.{unset, entered, Tabled}

-- two lists have the same first n numbers
abbrev pub Same : ℕ → List ℤ → List ℤ → Type 0
Same n l m = (j : ℕ) → j < n → get_or l j (pos 0) ≡ get_or m j (pos 0)

-- ---- numbers of points
module _ (f : Decimal → ℤ) where
  -- a list has those of a point in its two places
  abbrev At : List ℤ → ℕ → Point → Type 0
  At l i p = (get_or l (2 * i) (pos 0) ≡ f p.x) × (get_or l (2 * i + 1) (pos 0) ≡ f p.y)

  pub flat_size : (ps : List Point) → length (flat f ps) ≡ 2 * length ps
  unfolding flat
  flat_size [] = refl
  flat_size (p ∷ ps) = let e = flat_size ps in omega arith

  flat_at : (ps : List Point) (i : ℕ) → i < length ps → At (flat f ps) i (get_or ps i nowhere)
  unfolding flat
  flat_at [] i h = absurd (omega arith)
  flat_at (p ∷ ps) zero h = (refl, refl)
  flat_at (p ∷ ps) (suc i) h =
      let e : 2 * suc i ≡ suc (suc (2 * i)) = omega arith in
      let g : 2 * suc i + 1 ≡ suc (suc (2 * i + 1)) = omega arith in
      let r = flat_at ps i (omega arith) in
      (rw e r.0, rw g r.1)

  -- one more point is stored: those up to it are right
  module _ (ps : List Point) (i : ℕ) (h : i < length ps) (l : List ℤ) (room : 2 * i + 1 < length l) where
    abbrev p : Point
    p = get_or ps i nowhere

    pub point_stored : (x y : ℤ) → x ≡ f p.x → y ≡ f p.y → Same (2 * i) l (flat f ps) → Same (2 * (i + 1)) (set (set l (2 * i) x) (2 * i + 1) y) (flat f ps)
    point_stored x y e g old j k =
        let r = flat_at ps i h in
        stored (pos 0) (set l (2 * i) x) (flat f ps) (2 * i + 1) y (simp length-set room)
        (stored (pos 0) l (flat f ps) (2 * i) x (omega arith) old (e ∙ sym r.0))
        (g ∙ sym r.1) j (omega arith)

-- ---- the table
-- the first v vertices stand in it still where it changes past them
abbrev pub Keeps : ℕ → List Entry → List Entry → Type 0
Keeps v before after = (vs : List Point) → length vs ≤ v → Tabled vs before → Tabled vs after

pub kept_past : (table : List Entry) (v : ℕ) (e : Entry) → Keeps v table (set table v e)
kept_past table v e vs h t j g = get_or-set_other table v j e unset (λ q. omega arith) ∙ t j g

-- one more vertex
pub tabled_more : (vs : List Point) (p : Point) (table : List Entry) → length vs < length table → Tabled vs table → Tabled (vs ++ (p ∷ [])) (set table (length vs) (entered p))
tabled_more vs p table room t j h =
    let n = length vs in let ws = vs ++ (p ∷ []) in let l = length-append vs (p ∷ []) in
    below_more (λ j. get_or (set table n (entered p)) j unset ≡ entered (get_or ws j nowhere)) n
    (λ j g. get_or-set_other table n j (entered p) unset (λ q. omega arith) ∙ (t j g ∙ ap entered (sym (get_or-append vs (p ∷ []) nowhere j g))))
    (get_or-set_same table n (entered p) unset room ∙ ap entered (sym (get_or-append_seam vs p [] nowhere)))
    j (omega arith)
