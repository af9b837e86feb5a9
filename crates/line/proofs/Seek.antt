-- The first byte of a kind, sought from the front, and in a text that has more before. Assumes nothing.
use mathlib.Core.Path.{◌≡◌, sym, ap, ◌∙◌}
use mathlib.Core.Bool.{Bool, true, false}
use mathlib.Core.List.{List}
use Prim.Native.Nat.{ℕ, ◌+◌, ◌-◌, ◌≤◌, ◌<◌}
use native.Mathlib.Omega.{arith}
use lib.ListN.{length, get_or, drop, length-drop}
use lib.Seq.{get_or-drop}
use Rattle.line.specs.Calls.{Until}

module _ (p : ℕ → Bool) (s : List ℕ) where
  pub found : (i : ℕ) → i < length s → p (get_or s i 0) ≡ true → ((k : ℕ) → k < i → p (get_or s k 0) ≡ false) → Until p s 0 i
  found i h e none = record { above = omega arith; below = omega arith; none = λ k _ g. none k g; at = λ g. e }

  pub not_found : ((k : ℕ) → k < length s → p (get_or s k 0) ≡ false) → Until p s 0 (length s)
  not_found none = record { above = omega arith; below = omega arith; none = λ k _ g. none k g; at = λ g. absurd (omega arith) }

  -- sought past what stands before a place
  pub shifted : (from at to a b : ℕ) → from ≤ length s → a ≡ from + at → b ≡ from + to → Until p (drop from s) at to → Until p s a b
  shifted from at to a b h e f u =
      let l = u.above in let r = u.below in
      record {
        above = omega arith;
        below = omega (arith, length-drop from s);
        none = λ k g m.
            let d : from + (k - from) ≡ k = omega arith in
            ap p (sym (ap (λ n. get_or s n 0) d) ∙ sym (get_or-drop from s (k - from) 0)) ∙ u.none (k - from) (omega arith) (omega arith);
        at = λ g. ap p (ap (λ n. get_or s n 0) f ∙ sym (get_or-drop from s to 0)) ∙ u.at (omega (arith, length-drop from s));
      }
