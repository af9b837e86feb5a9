-- The lines of a file, found one after the other. Assumes nothing.
use mathlib.Core.Path.{◌≡◌, refl, ap, ◌∙◌}
use mathlib.Core.List.{List, [], ◌∷◌}
use Prim.Native.Nat.{ℕ, suc, ◌+◌, ◌-◌, ◌<◌, ◌≤◌}
use native.Mathlib.Omega.{arith}
use native.Mathlib.Nat.{sub-zero}
use native.Mathlib.Numerals.{add-one}
use borrow.Author.Tests.{eq-eqb, ne_eqb}
use lib.Dec.{eqb}
use lib.ListN.{length, get_or, take, drop, length-drop, length-take}
use lib.Seq.{length-take-le}
use Rattle.std.proofs.Common.{Option, Some, None}
use Rattle.whole.proofs.Flag.{by_flag}
use Rattle.line.specs.Text.{feed, unreturned, ended, lines}
use Rattle.line.specs.Calls.{part, Until}
use Rattle.obj.specs.Steps.{lines_in, FirstLine}
use Rattle.line.proofs.Parts.{suffix, drop_some, some_part, next_part, last_part}

ended_more : (l : List ℕ) (ps : List (List ℕ)) → (ps ≡ [] → ⊥) → ended (l ∷ ps) ≡ unreturned l ∷ ended ps
unfolding ended
ended_more l [] h = absurd (h refl)
ended_more l (m ∷ ls) h = refl

module _ (s : List ℕ) (at end : ℕ) (u : Until feed s at end) where
  -- the line that ends here, and those after it
  next_line : end < length s → lines (drop at s) ≡ unreturned (part at end s) ∷ lines (drop (suc end) s)
  unfolding lines
  next_line h = ap ended (next_part feed s at end u h) ∙ ended_more (part at end s) _ (some_part feed (drop (suc end) s))

  -- the last line
  last_line : end ≡ length s → lines (drop at s) ≡ part at end s ∷ []
  unfolding lines ended
  last_line e = ap ended (last_part feed s at end u e)

-- a return is left out
pub unreturned_size : (l : List ℕ) → length (unreturned l) ≤ length l
unfolding unreturned
unreturned_size l =
    let n = length l - 1 in
    by_flag (λ m. length m ≤ length l) (eqb (get_or l n 0) 13) (take n l) l (λ e. omega (arith, length-take n l)) (λ e. omega arith)

-- ---- the first line of a text
module _ (text : List ℕ) where
  pub first_of : (end : ℕ) → end < length text → get_or text end 0 ≡ 10 → ((k : ℕ) → k < end → get_or text k 0 ≡ 10 → ⊥) → FirstLine text (unreturned (take end text)) (Some (drop (end + 1) text))
  first_of end h e none =
      let u : Until feed text 0 end = record { above = omega arith; below = omega arith; none = λ k _ g. ne_eqb (get_or text k 0) 10 (none k g); at = λ g. eq-eqb (get_or text end 0) 10 e } in
      record {
        lines = rw add-one (rw sub-zero at (next_line text 0 end u h));
        shorter = omega (arith, unreturned_size (take end text), length-take-le end text (omega arith), length-drop (end + 1) text);
      }

  pub only_line : ((k : ℕ) → k < length text → get_or text k 0 ≡ 10 → ⊥) → FirstLine text text None
  only_line none =
      let u : Until feed text 0 (length text) = record { above = omega arith; below = omega arith; none = λ k _ g. ne_eqb (get_or text k 0) 10 (none k g); at = λ g. absurd (omega arith) } in
      record { lines = last_line text 0 (length text) u refl ∙ ap (λ l. l ∷ []) (suffix 0 text); shorter = omega arith }

-- ---- line n, where so many stand before what is left
module _ (file : List ℕ) (n : ℕ) (text line : List ℕ) (rest : Option (List ℕ)) (f : FirstLine text line rest) where
  pub line_at_lem : drop n (lines file) ≡ lines_in (Some text) → (get_or (lines file) n [] ≡ line) × (drop (suc n) (lines file) ≡ lines_in rest) × (n < length (lines file))
  line_at_lem e = drop_some (lines file) n [] _ _ (e ∙ f.lines)
