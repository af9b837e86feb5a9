-- The words of a line, found one after the other, and whether two are the same. Assumes nothing.
use mathlib.Core.Path.{◌≡◌, refl, sym, ap, ap₂, subst, ◌∙◌}
use mathlib.Core.Bool.{Bool, true, false, cond, not, ◌&&◌, ◌||◌, and-false}
use mathlib.Core.Logic.{⊎_elim}
use mathlib.Core.List.{List, [], ◌∷◌}
use Prim.Native.Nat.{ℕ, zero, suc, ◌+◌, ◌*◌, ◌-◌, ◌≤◌, ◌<◌}
use native.Mathlib.Omega.{arith}
use native.Mathlib.Nat.{eq-or-lt_of_le}
use borrow.Author.Tests.{not-true, not-false, lt-ltb, le-ltb, eqb-true, eqb-false, eq-eqb, ne_eqb}
use lib.Dec.{eqb}
use lib.ListN.{length, get_or, take, drop, drop_of_length-le, length-drop}
use lib.Seq.{drop-cons, drop-drop, length-take-le}
use lib.Pointwise.{pointwise}
use Rattle.std.proofs.Common.{nat_eq}
use Rattle.std.specs.List.{list_any}
use Rattle.whole.proofs.Flag.{decided, and_yes}
use Rattle.line.specs.Text.{blank, joined, parts, filled, words}
use Rattle.line.specs.Line.{same, among, passed_words}
use Rattle.line.specs.Calls.{part, Until, Word, words_from, within}
use Rattle.line.specs.Steps.{Taken}
use Rattle.line.proofs.Told.{no}
use Rattle.line.proofs.Seek.{shifted}
use Rattle.line.proofs.Parts.{part_size, some_part, next_part, last_part}

filled_more : (p : List ℕ) (ps : List (List ℕ)) → 0 < length p → filled (p ∷ ps) ≡ p ∷ filled ps
unfolding filled
filled_more [] ps h = absurd (omega arith)
filled_more (b ∷ p) ps h = refl

-- a blank before the words
skip : (line : List ℕ) (k : ℕ) → k < length line → blank (get_or line k 0) ≡ true → words (drop k line) ≡ words (drop (suc k) line)
unfolding words parts filled
skip line k h e = rw (drop-cons line k 0 h, e)

-- none from the end on
no_words : (line : List ℕ) (at : ℕ) → length line ≤ at → words (drop at line) ≡ []
unfolding words parts filled
no_words line at h = rw (drop_of_length-le line h)

-- the blanks before the next word
module _ (line : List ℕ) (at from : ℕ) (u : Until (λ b. not (blank b)) line at from) where
  skips : (n k : ℕ) → at ≤ k → k + n ≡ from → words (drop k line) ≡ words (drop from line)
  skips zero k a e = let f : k ≡ from = omega arith in rw f
  skips (suc n) k a e = skip line k (let b = u.below in omega arith) (not-false _ (u.none k a (omega arith))) ∙ skips n (suc k) (omega arith) (omega arith)

  past_blanks : words (drop at line) ≡ words (drop from line)
  past_blanks = let b = u.above in skips (from - at) at (omega arith) (omega arith)

-- a word, and those after it
module _ (line : List ℕ) (from to : ℕ) (v : Until blank line from to) (h : from < to) where
  by_parts : (ps : List (List ℕ)) → parts blank (drop from line) ≡ part from to line ∷ ps → words (drop to line) ≡ filled ps
      → words (drop from line) ≡ part from to line ∷ words (drop to line)
  unfolding words
  by_parts ps e f = rw (e, f) (filled_more (part from to line) ps (omega (arith, part_size line from to v.below)))

  next_word : words (drop from line) ≡ part from to line ∷ words (drop to line)
  unfolding filled words
  next_word =
      ⊎_elim
      (λ e. by_parts [] (last_part blank line from to v e) (no_words line to (omega arith)))
      (λ g. by_parts (parts blank (drop (suc to) line)) (next_part blank line from to v g) (skip line to g (v.at g)))
      (eq-or-lt_of_le v.below)

-- a word from a place on, and those after it
pub word_there : (line : List ℕ) (from to : ℕ) → from < length line → words_from line from to ≡ part from to line ∷ words (drop to line)
word_there line from to h = rw (lt-ltb from (length line) h)

pub word_gone : (line : List ℕ) (from to : ℕ) → length line ≤ from → words_from line from to ≡ []
word_gone line from to h = rw (le-ltb from (length line) h)

module _ (line : List ℕ) (at from to : ℕ) (u : Until (λ b. not (blank b)) line at from) (v : Until blank line from to) where
  -- it is not empty, since it begins with a byte that is not blank
  pub some_word : from < length line → from < to
  some_word h =
      let n : blank (get_or line from 0) ≡ false = not-true _ (u.at h) in
      ⊎_elim (λ e. let b = v.at (omega arith) in no (cc)) (λ g. g) (eq-or-lt_of_le v.above)

  pub words_from_lem : words (drop at line) ≡ words_from line from to
  words_from_lem =
      ⊎_elim
      (λ e. past_blanks line at from u ∙ (no_words line from (omega arith) ∙ sym (word_gone line from to (omega arith))))
      (λ g. past_blanks line at from u ∙ (next_word line from to v (some_word g) ∙ sym (word_there line from to g)))
      (eq-or-lt_of_le u.below)

  pub word_is : Word line at from to
  word_is = record { begins = u; ends = v; some = some_word; words = words_from_lem }

-- a line of blanks has no word
pub no_word : (line : List ℕ) → Until (λ b. not (blank b)) line 0 (length line) → Word line 0 (length line) (length line)
no_word line u =
    let v : Until blank line (length line) (length line) = record { above = omega arith; below = omega arith; none = λ k g h. absurd (omega arith); at = λ g. absurd (omega arith) } in
    word_is line 0 (length line) (length line) u v

-- a word and what stands after it, by the place where it begins and what stands from there on
pub taken : (line : List ℕ) (from : ℕ) (begun : List ℕ) (len : ℕ) (w after : List ℕ) → from < length line → Until (λ b. not (blank b)) line 0 from → begun ≡ drop from line → Until blank begun 0 len
    → w ≡ take len begun → after ≡ drop len begun → Taken line w after
taken line from begun len w after h b e u f g =
    let l : length w ≡ len = omega (arith, ap length f, length-take-le len begun u.below) in
    let v : Until blank line from (from + length w) = shifted blank line from 0 len from (from + length w) (omega arith) (omega arith) (omega arith) (subst (λ s. Until blank s 0 len) e u) in
    let p = word_is line 0 from (from + length w) b v in
    let m : from + length w - from ≡ len = omega arith in
    let n : from + len ≡ from + length w = omega arith in
    record {
      from = from;
      place = p;
      some = let s = p.some h in omega arith;
      word = rw m (f ∙ ap (take len) e);
      rest = g ∙ (ap (drop len) e ∙ (drop-drop len from line ∙ ap (λ k. drop k line) n));
    }

-- its words, by the next and those after it
pub taken_words : (line w after : List ℕ) → Taken line w after → words line ≡ w ∷ words after
taken_words line w after t =
    let p = t.place in let l = p.ends.below in let s = t.some in
    p.words ∙ (word_there line t.from (t.from + length w) (omega arith) ∙ ap₂ (λ (x y : List ℕ). x ∷ words y) (sym t.word) (sym t.rest))

pub words_none : (line : List ℕ) → Word line 0 (length line) (length line) → words line ≡ []
words_none line p = p.words ∙ word_gone line (length line) (length line) (omega arith)

-- ---- a word of what stands from a place on
module _ (line : List ℕ) (at : ℕ) (h : at ≤ length line) where
  word_shifted : (from to a b : ℕ) → a ≡ at + from → b ≡ at + to → Word (drop at line) 0 from to → Word line at a b
  word_shifted from to a b e f p =
      word_is line at a b (shifted (λ b. not (blank b)) line at 0 from at a h (omega arith) e p.begins) (shifted blank line at from to a b h e f p.ends)

  pub no_word_from : Word (drop at line) 0 (length (drop at line)) (length (drop at line)) → Word line at (length line) (length line)
  no_word_from p = let n = length-drop at line in word_shifted (length (drop at line)) (length (drop at line)) (length line) (length line) (omega arith) (omega arith) p

  pub word_from : (w after : List ℕ) (from to : ℕ) → Taken (drop at line) w after → to ≡ length line - length after → from ≡ to - length w
      → (from < length line) × Word line at from to × (w ≡ part from to line)
  word_from w after from to t e f =
      let s = t.some in
      let b = t.place.ends.below in
      let n = length-drop at line in
      let l : length after ≡ length (drop at line) - (t.from + length w) = ap length t.rest ∙ length-drop (t.from + length w) (drop at line) in
      let g : from ≡ at + t.from = omega arith in
      let m : to - from ≡ t.from + length w - t.from = omega arith in (
        omega arith,
        word_shifted t.from (t.from + length w) from to g (omega arith) t.place,
        t.word ∙ (ap₂ (λ (x : ℕ) (y : List ℕ). take x y) (sym m) (drop-drop t.from at line ∙ ap (λ k. drop k line) (sym g))),
      )

-- ---- a place of a line
module _ (line : List ℕ) (at : ℕ) where
  pub within_is : at ≤ length line → within line at ≡ at
  within_is h = omega arith

-- ---- the length of a line, from its words
-- the bytes of parts, and one for each
abbrev pub size : List (List ℕ) → ℕ
size [] = 0
size (p ∷ ps) = suc (length p) + size ps

joined_size : (b : ℕ) (ps : List (List ℕ)) → (ps ≡ [] → ⊥) → size (joined b ps) ≡ suc (size ps)
joined_size b [] h = absurd (h refl)
joined_size b (p ∷ ps) h = omega arith

pub parts_size : (at : ℕ → Bool) (l : List ℕ) → size (parts at l) ≡ suc (length l)
unfolding parts
parts_size at [] = refl
parts_size at (b ∷ l) = by (at b) (parts_size at l)
  where
    by : (t : Bool) → size (parts at l) ≡ suc (length l) → size (cond t ([] ∷ parts at l) (joined b (parts at l))) ≡ suc (suc (length l))
    by true h = omega arith
    by false h = joined_size b (parts at l) (some_part at l) ∙ ap suc h

-- a word has a byte
filled_size : (ps : List (List ℕ)) → 2 * length (filled ps) ≤ size ps
unfolding filled
filled_size [] = omega arith
filled_size ([] ∷ ps) = let h = filled_size ps in omega arith
filled_size ((b ∷ p) ∷ ps) = let h = filled_size ps in omega arith

pub words_length : (l : List ℕ) → 2 * length (words l) ≤ suc (length l)
unfolding words
words_length l = omega (arith, filled_size (parts blank l), parts_size blank l)

-- ---- the same bytes
pub same_is : (w v : List ℕ) → same w v ≡ true → w ≡ v
unfolding same
same_is [] [] e = refl
same_is [] (c ∷ v) e = cc
same_is (b ∷ w) [] e = cc
same_is (b ∷ w) (c ∷ v) e = let h = and_yes (eqb b c) (same w v) e in let p = eqb-true b c h.0 in let q = same_is w v h.1 in cc

-- of two bytes either may stand first
eqb_turned : (b c : ℕ) → eqb b c ≡ eqb c b
eqb_turned b c = ⊎_elim (λ e. e ∙ sym (eq-eqb c b (sym (eqb-true b c e)))) (λ e. e ∙ sym (ne_eqb c b (λ f. eqb-false b c e (sym f)))) (decided (eqb b c))

same_is_pointwise : (w v : List ℕ) → same w v ≡ pointwise nat_eq v w
unfolding same
same_is_pointwise [] [] = refl
same_is_pointwise [] (c ∷ v) = refl
same_is_pointwise (b ∷ w) [] = refl
same_is_pointwise (b ∷ w) (c ∷ v) = ap₂ (λ (x y : Bool). x && y) (eqb_turned b c) (same_is_pointwise w v)

pub among_is : (w : List ℕ) (vs : List (List ℕ)) → among w vs ≡ list_any (λ v. pointwise nat_eq v w) vs
unfolding among
among_is w [] = refl
among_is w (v ∷ vs) = ap₂ (λ (x y : Bool). x || y) (same_is_pointwise w v) (among_is w vs)

-- words of other lengths are others
pub other_length : (w v : List ℕ) → (length w ≡ length v → ⊥) → same w v ≡ false
unfolding same
other_length [] [] h = absurd (h refl)
other_length [] (c ∷ v) h = refl
other_length (b ∷ w) [] h = refl
other_length (b ∷ w) (c ∷ v) h = rw (other_length w v (λ e. h (ap suc e))) (and-false (eqb b c))

-- a word that is passed over has one, two or six bytes
letters : (a b c : Bool) → (a || b) || c ≡ (a && true) || ((b && true) || ((c && true) || false))
letters true b c = refl
letters false true c = refl
letters false false true = refl
letters false false false = refl

pairs : (v a b : Bool) → v && (a || b) ≡ (v && (a && true)) || ((v && (b && true)) || false)
pairs true true b = refl
pairs true false true = refl
pairs true false false = refl
pairs false a b = refl

last : (a b : Bool) → a || b ≡ a || (b || false)
last true b = refl
last false true = refl
last false false = refl

pub passed_one : (w : List ℕ) → length w ≡ 1 → (nat_eq (get_or w 0 0) 111 || nat_eq (get_or w 0 0) 103) || nat_eq (get_or w 0 0) 115 ≡ among w passed_words
unfolding among same
passed_one [] l = absurd (omega arith)
passed_one (b ∷ []) l = rw (and-false (eqb b 118), and-false (eqb b 117), and-false (eqb b 109)) (letters (eqb b 111) (eqb b 103) (eqb b 115))
passed_one (b ∷ (c ∷ w)) l = absurd (omega arith)

pub passed_two : (w : List ℕ) → length w ≡ 2 → nat_eq (get_or w 0 0) 118 && (nat_eq (get_or w 1 0) 110 || nat_eq (get_or w 1 0) 116) ≡ among w passed_words
unfolding among same
passed_two [] l = absurd (omega arith)
passed_two (b ∷ []) l = absurd (omega arith)
passed_two (b ∷ (c ∷ [])) l =
    rw (and-false (eqb b 111), and-false (eqb b 103), and-false (eqb b 115), and-false (eqb c 115), and-false (eqb c 116), and-false (eqb b 117), and-false (eqb b 109))
    (pairs (eqb b 118) (eqb c 110) (eqb c 116))
passed_two (b ∷ (c ∷ (d ∷ w))) l = absurd (omega arith)

module _ (w : List ℕ) where
  abbrev is : List ℕ → Bool
  is v = pointwise nat_eq v w

  pub passed_six : length w ≡ 6 → is (117 ∷ 115 ∷ 101 ∷ 109 ∷ 116 ∷ 108 ∷ []) || is (109 ∷ 116 ∷ 108 ∷ 108 ∷ 105 ∷ 98 ∷ []) ≡ among w passed_words
  unfolding among
  passed_six l =
      rw (
        other_length w (111 ∷ []) (λ e. omega arith),
        other_length w (103 ∷ []) (λ e. omega arith),
        other_length w (115 ∷ []) (λ e. omega arith),
        other_length w (118 ∷ 110 ∷ []) (λ e. omega arith),
        other_length w (118 ∷ 116 ∷ []) (λ e. omega arith),
        same_is_pointwise w (117 ∷ 115 ∷ 101 ∷ 109 ∷ 116 ∷ 108 ∷ []),
        same_is_pointwise w (109 ∷ 116 ∷ 108 ∷ 108 ∷ 105 ∷ 98 ∷ []),
      ) (last _ _)

  pub passed_none : (length w ≡ 1 → ⊥) → (length w ≡ 2 → ⊥) → (length w ≡ 6 → ⊥) → false ≡ among w passed_words
  unfolding among
  passed_none one two six =
      rw (
        other_length w (111 ∷ []) one,
        other_length w (103 ∷ []) one,
        other_length w (115 ∷ []) one,
        other_length w (118 ∷ 110 ∷ []) two,
        other_length w (118 ∷ 116 ∷ []) two,
        other_length w (117 ∷ 115 ∷ 101 ∷ 109 ∷ 116 ∷ 108 ∷ []) six,
        other_length w (109 ∷ 116 ∷ 108 ∷ 108 ∷ 105 ∷ 98 ∷ []) six,
      ) refl

-- ---- a word of one byte
pub one_byte : (w : List ℕ) (b : ℕ) → length w ≡ 1 → get_or w 0 0 ≡ b → w ≡ b ∷ []
one_byte [] b l e = absurd (omega arith)
one_byte (c ∷ []) b l e = cc
one_byte (c ∷ (d ∷ w)) b l e = absurd (omega arith)

pub other_byte : (w : List ℕ) (b : ℕ) → (length w ≡ 1 → get_or w 0 0 ≡ b → ⊥) → same w (b ∷ []) ≡ false
unfolding same
other_byte [] b h = refl
other_byte (c ∷ []) b h = rw (ne_eqb c b (h refl))
other_byte (c ∷ (d ∷ w)) b h = and-false (eqb c b)
