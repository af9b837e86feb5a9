-- The parts of a text, found one after the other. Assumes nothing.
use mathlib.Core.Path.{◌≡◌, refl, sym, ap, ◌∙◌}
use mathlib.Core.Bool.{Bool, true, false, cond}
use mathlib.Core.Logic.{⊎_elim}
use mathlib.Core.List.{List, [], ◌∷◌, ◌++◌}
use Prim.Native.Nat.{ℕ, suc, ◌+◌, ◌-◌, ◌≤◌, ◌<◌}
use native.Mathlib.Omega.{arith}
use native.Mathlib.Numerals.{add-one}
use native.Mathlib.Nat.{sub-zero}
use borrow.Author.Tests.{eq-eqb, ne_eqb}
use lib.Dec.{eqb}
use lib.ListN.{length, get_or, take, drop, length-drop, take-append-drop}
use lib.Seq.{drop-cons, drop-drop, get_or-take, get_or-drop, length-take-le, take_all}
use Rattle.whole.proofs.Flag.{decided}
use Rattle.line.specs.Text.{parts, joined}
use Rattle.line.specs.Calls.{part, Until}
use Rattle.std.proofs.Common.{Bor, Option, Some, None}
use Rattle.std.specs.Prelude.{option_copied}
use Rattle.line.specs.Steps.{others}
use Rattle.line.proofs.Told.{no}

-- ---- a list from a place on
pub nothing : (w : List ℕ) → length w ≡ 0 → w ≡ []
nothing [] e = refl
nothing (b ∷ w) e = absurd (omega arith)

module _ {A : Type 0} (xs : List A) (n : ℕ) where
  pub drop_some : (z y : A) (ys : List A) → drop n xs ≡ y ∷ ys → (get_or xs n z ≡ y) × (drop (suc n) xs ≡ ys) × (n < length xs)
  drop_some z y ys e =
      let h : n < length xs = omega (arith, length-drop n xs, ap length e) in
      let d = drop-cons xs n z h in
      (cc, cc, h)

  pub drop_none : drop n xs ≡ [] → length xs ≤ n
  drop_none e = omega (arith, length-drop n xs, ap length e)

pub part_size : (s : List ℕ) (from to : ℕ) → to ≤ length s → length (part from to s) ≡ to - from
part_size s from to h = let d = length-drop from s in length-take-le (to - from) (drop from s) (omega arith)

pub suffix : (from : ℕ) (s : List ℕ) → part from (length s) s ≡ drop from s
suffix from s = take_all (length s - from) (drop from s) (omega (arith, length-drop from s))

cut : (s : List ℕ) (from to : ℕ) → from ≤ to → to < length s → drop from s ≡ part from to s ++ (get_or s to 0 ∷ drop (suc to) s)
cut s from to h g =
    let e : from + (to - from) ≡ to = omega arith in
    sym (take-append-drop (to - from) (drop from s)) ∙ ap (λ l. part from to s ++ l) (drop-drop (to - from) from s ∙ (ap (λ n. drop n s) e ∙ drop-cons s to 0 g))

-- ---- parts
module _ (p : ℕ → Bool) where
  -- no byte of l parts it
  abbrev Unparted : List ℕ → Type 0
  Unparted l = (k : ℕ) → k < length l → p (get_or l k 0) ≡ false

  rest : (b : ℕ) (l : List ℕ) → Unparted (b ∷ l) → Unparted l
  rest b l h k g = h (suc k) (omega arith)

  unparted : (l : List ℕ) → Unparted l → parts p l ≡ l ∷ []
  unfolding parts
  unparted [] h = refl
  unparted (b ∷ l) h = rw (h 0 (omega arith), unparted l (rest b l h))

  parted : (l : List ℕ) (b : ℕ) (r : List ℕ) → Unparted l → p b ≡ true → parts p (l ++ (b ∷ r)) ≡ l ∷ parts p r
  unfolding parts
  parted [] b r h e = rw e
  parted (c ∷ l) b r h e = rw (h 0 (omega arith), parted l b r (rest c l h) e)

  -- there is a part
  joined_none : (b : ℕ) (ps : List (List ℕ)) → joined b ps ≡ [] → ps ≡ []
  joined_none b [] e = refl
  joined_none b (q ∷ ps) e = cc

  pub some_part : (l : List ℕ) → parts p l ≡ [] → ⊥
  unfolding parts
  some_part [] e = no (cc)
  some_part (b ∷ l) e = by (p b) (some_part l) e
    where
      by : (t : Bool) → (parts p l ≡ [] → ⊥) → cond t ([] ∷ parts p l) (joined b (parts p l)) ≡ [] → ⊥
      by true g f = no (cc)
      by false g f = g (joined_none b (parts p l) f)

  -- and a single one is the whole text
  joined_one : (b : ℕ) (ps : List (List ℕ)) (q l : List ℕ) → ((r : List ℕ) → ps ≡ r ∷ [] → r ≡ l) → joined b ps ≡ q ∷ [] → q ≡ b ∷ l
  joined_one b [] q l h e = cc
  joined_one b (r ∷ []) q l h e = let f = h r refl in cc
  joined_one b (r ∷ (s ∷ ps)) q l h e = cc

  one_part : (l q : List ℕ) → parts p l ≡ q ∷ [] → q ≡ l
  unfolding parts
  one_part [] q e = cc
  one_part (b ∷ l) q e = by (p b) (one_part l) e
    where
      by : (t : Bool) → ((r : List ℕ) → parts p l ≡ r ∷ [] → r ≡ l) → cond t ([] ∷ parts p l) (joined b (parts p l)) ≡ q ∷ [] → q ≡ b ∷ l
      by true g f = absurd (some_part l (cc))
      by false g f = joined_one b (parts p l) q l g f

  -- a test that fails of several parts is a test of the text, where a text that meets it has one part
  pub alone : (test : List (List ℕ) → Bool) → ((q r : List ℕ) (ps : List (List ℕ)) → test (q ∷ (r ∷ ps)) ≡ false)
      → (l : List ℕ) → (test (l ∷ []) ≡ true → parts p l ≡ l ∷ []) → test (parts p l) ≡ test (l ∷ [])
  alone test several l one = ⊎_elim (λ e. ap test (one e)) (λ e. by e (parts p l) refl ∙ sym e) (decided (test (l ∷ [])))
    where
      by : test (l ∷ []) ≡ false → (ps : List (List ℕ)) → parts p l ≡ ps → test ps ≡ false
      by e [] f = absurd (some_part l f)
      by e (q ∷ []) f = ap (λ r. test (r ∷ [])) (one_part l q f) ∙ e
      by e (q ∷ (r ∷ ps)) f = several q r ps

-- ---- from a place on
module _ (p : ℕ → Bool) (s : List ℕ) (from to : ℕ) (u : Until p s from to) where
  sliced : Unparted p (part from to s)
  sliced k h =
      let a = u.above in let l = part_size s from to u.below in
      ap p (get_or-take (to - from) (drop from s) k 0 (omega arith) ∙ get_or-drop from s k 0) ∙ u.none (from + k) (omega arith) (omega arith)

  -- the part that ends here, and those after it
  pub next_part : to < length s → parts p (drop from s) ≡ part from to s ∷ parts p (drop (suc to) s)
  next_part h = ap (parts p) (cut s from to u.above h) ∙ parted p (part from to s) (get_or s to 0) (drop (suc to) s) sliced (u.at h)

  -- the last part
  pub last_part : to ≡ length s → parts p (drop from s) ≡ part from to s ∷ []
  last_part e = ap (parts p) (sym (ap (λ n. part from n s) e ∙ suffix from s)) ∙ unparted p (part from to s) sliced

-- the first part, up to the first byte of one value, and those after it; or the only one
module _ (at : ℕ) (s : List ℕ) where
  abbrev is : ℕ → Bool
  is b = eqb b at

  pub only_part : ((k : ℕ) → k < length s → get_or s k 0 ≡ at → ⊥) → parts is s ≡ s ∷ []
  only_part h = unparted is s (λ k g. ne_eqb (get_or s k 0) at (h k g))

  pub first_part : (i : ℕ) → i < length s → get_or s i 0 ≡ at → ((k : ℕ) → k < i → get_or s k 0 ≡ at → ⊥) → parts is s ≡ take i s ∷ parts is (drop (i + 1) s)
  first_part i h e none =
      let u : Until is s 0 i = record { above = omega arith; below = omega arith; none = λ k _ g. ne_eqb (get_or s k 0) at (none k g); at = λ g. eq-eqb (get_or s i 0) at e } in
      rw add-one (rw sub-zero at (next_part is s 0 i u h))

-- what was cut off is the only part, or the first
module _ (p : ℕ → Bool) (w a : List ℕ) {r : Option (Bor (List ℕ))} (e : parts p w ≡ a ∷ others p (option_copied r)) where
  pub cut_none : r ≡ None → parts p w ≡ a ∷ []
  cut_none f = e ∙ ap (λ s. a ∷ others p (option_copied s)) f

  pub cut_some : (b : Bor (List ℕ)) → r ≡ Some b → parts p w ≡ a ∷ parts p b.now
  cut_some b f = e ∙ ap (λ s. a ∷ others p (option_copied s)) f
