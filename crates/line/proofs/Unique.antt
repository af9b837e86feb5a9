-- The next corner of a line has one answer. Assumes nothing.
use mathlib.Core.Path.{◌≡◌, refl, sym, ap, ap₂, ◌∙◌}
use mathlib.Core.Bool.{Bool}
use mathlib.Core.Logic.{⊎_elim}
use mathlib.Core.List.{List}
use Prim.Native.Nat.{ℕ, ◌≤◌, ◌<◌}
use native.Mathlib.Omega.{arith}
use native.Mathlib.Nat.{eq-or-lt_of_le}
use lib.ListN.{length}
use Rattle.whole.proofs.Order.{ℕ_or}
use Rattle.line.specs.declared.Corner.{Corner}
use Rattle.std.proofs.Common.{Option, Some, None, Result}
use Rattle.line.specs.declared.Unnamed.{Unnamed}
use Rattle.line.specs.Calls.{part, Until, Word, corner_or, within, Next}
use Rattle.line.proofs.Told.{no}

-- a search has one answer
module _ (p : ℕ → Bool) (s : List ℕ) (from : ℕ) where
  not_before : (a b : ℕ) → Until p s from a → Until p s from b → a < b → ⊥
  not_before a b u v h =
      let w = v.below in let t = u.at (omega arith) in let f = v.none a u.above h in
      no (cc)

  pub until_same : (a b : ℕ) → Until p s from a → Until p s from b → a ≡ b
  until_same a b u v =
      ⊎_elim
      (λ (h : a ≤ b). ⊎_elim (λ e. e) (λ l. absurd (not_before a b u v l)) (eq-or-lt_of_le h))
      (λ (h : b < a). absurd (not_before b a v u h))
      (ℕ_or a b)

-- one of two words begins before the end, and the other at it
one_word : (line : List ℕ) (at from to : ℕ) → from < length line → Word line at from to → Word line at (length line) (length line) → ⊥
one_word line at from to h w v = let e = until_same _ line at from (length line) w.begins v.begins in omega arith

made : (a b d e : ℕ) (c f : Result ℕ Unnamed) → a ≡ d → b ≡ e → c ≡ f → ◌≡◌ {A = Corner} (record { from = a; to = b; vertex = c }) (record { from = d; to = e; vertex = f })
made a b d e c f g h k = rw (g, h, k)

pub next_one : (line : List ℕ) (at k : ℕ) (r s : Option Corner) → Next line at k r → Next line at k s → r ≡ s
next_one line at k None None f g = refl
next_one line at k None (Some s) f g = absurd (one_word line (within line at) s.from s.to g.some g.word f)
next_one line at k (Some r) None f g = absurd (one_word line (within line at) r.from r.to f.some f.word g)
next_one line at k (Some r) (Some s) f g =
    let a = until_same _ line (within line at) r.from s.from f.word.begins g.word.begins in
    let b = until_same _ line s.from r.to s.to (rw a at f.word.ends) g.word.ends in
    ap Some (made r.from r.to s.from s.to r.vertex s.vertex a b (f.vertex ∙ (ap₂ (λ (x y : ℕ). corner_or k (part x y line)) a b ∙ sym g.vertex)))
