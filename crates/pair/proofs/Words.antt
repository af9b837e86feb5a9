-- Laws of numbers of two bytes: where each byte stands, and that the bytes tell the numbers. Assumes nothing.
use mathlib.Core.Path.{◌≡◌, refl, sym, ap, ◌∙◌}
use mathlib.Core.Logic.{⊎_elim}
use mathlib.Core.List.{List, [], ◌∷◌, ◌++◌}
use Prim.Native.Nat.{ℕ, zero, suc, ◌*◌, ◌/◌, ◌%◌, ◌≤◌, ◌<◌}
use native.Mathlib.Omega.{arith}
use lib.Dec.{leb→le}
use lib.IntN.{ℤ, pos, negsuc}
use lib.ListN.{length, get_or, get_or-eq_default}
use lib.Seq.{ext_get_or}
use lib.Signed.{◌≤ℤ◌, le_z_yes}
use Rattle.whole.proofs.Order.{le_trans, ℕ_or}
use Rattle.rules.specs.Reach.{Between, Reach, Speed}
use Rattle.pair.specs.Pair.{Half, word, Spelt, words, Halves, NumbersOf}

-- ---- one number
pub word_below : (z : ℤ) → Half z → word z < 65536
word_below (pos n) h = let l = leb→le n 32767 h.below.le in omega arith
word_below (negsuc n) h = omega arith

-- two numbers that two bytes hold, with the same bytes, are the same
pub word_one : (y z : ℤ) → Half y → Half z → word y ≡ word z → y ≡ z
word_one (pos m) (pos n) h k e = ap pos e
word_one (pos m) (negsuc n) h k e = let l = leb→le m 32767 h.below.le in let r = leb→le n 32767 k.above.le in absurd (omega arith)
word_one (negsuc m) (pos n) h k e = let l = leb→le m 32767 h.above.le in let r = leb→le n 32767 k.below.le in absurd (omega arith)
word_one (negsuc m) (negsuc n) h k e = let l = leb→le m 32767 h.above.le in let r = leb→le n 32767 k.above.le in ap negsuc (omega arith)

pub spelt_one : (low high : ℕ) (y z : ℤ) → Spelt low high y → Spelt low high z → y ≡ z
spelt_one low high y z s t = word_one y z s.half t.half (s.bits ∙ sym t.bits)

-- zero stands for what is past the end
pub half_any : (zs : List ℤ) → Halves zs → (j : ℕ) → Half (get_or zs j (pos 0))
half_any zs h j =
    ⊎_elim
    (λ (g : length zs ≤ j). let e = get_or-eq_default zs (pos 0) g in rw e (record { above = le_z_yes tt; below = le_z_yes tt }))
    (λ (g : j < length zs). h j g)
    (ℕ_or (length zs) j)

-- ---- where each byte stands
pub low_at : (zs : List ℤ) (j : ℕ) → get_or (words zs) (2 * j) 0 ≡ word (get_or zs j (pos 0)) % 256
low_at [] j = refl
low_at (z ∷ zs) zero = refl
low_at (z ∷ zs) (suc j) = let e : 2 * suc j ≡ suc (suc (2 * j)) = omega arith in rw e (low_at zs j)

pub high_at : (zs : List ℤ) (j : ℕ) → get_or (words zs) (suc (2 * j)) 0 ≡ word (get_or zs j (pos 0)) / 256
high_at [] j = refl
high_at (z ∷ zs) zero = refl
high_at (z ∷ zs) (suc j) = let e : 2 * suc j ≡ suc (suc (2 * j)) = omega arith in rw e (high_at zs j)

pub words_length : (zs : List ℤ) → length (words zs) ≡ 2 * length zs
words_length [] = refl
words_length (z ∷ zs) = omega (arith, words_length zs)

pub words_append : (ys zs : List ℤ) → words (ys ++ zs) ≡ words ys ++ words zs
words_append [] zs = refl
words_append (y ∷ ys) zs = ap (λ (l : List ℕ). word y % 256 ∷ word y / 256 ∷ l) (words_append ys zs)

-- ---- the bytes tell the numbers
-- each number is that of its two bytes
pub spelt_at : (zs : List ℤ) → Halves zs → (j : ℕ) → Spelt (get_or (words zs) (2 * j) 0) (get_or (words zs) (suc (2 * j)) 0) (get_or zs j (pos 0))
spelt_at zs h j = record { half = half_any zs h j; bits = omega (arith, low_at zs j, high_at zs j) }

pub words_one : (ys zs : List ℤ) → Halves ys → Halves zs → words ys ≡ words zs → ys ≡ zs
words_one ys zs h k e =
    ext_get_or (pos 0) ys zs (omega (arith, words_length ys, words_length zs, ap length e))
    (λ j g. spelt_one _ _ (get_or ys j (pos 0)) (get_or zs j (pos 0)) (rw e at (spelt_at ys h j)) (spelt_at zs k j))

-- bytes have one list of numbers
pub numbers_one : (l : List ℕ) (ys zs : List ℤ) → NumbersOf l ys → NumbersOf l zs → ys ≡ zs
numbers_one l ys zs a b = words_one ys zs a.halves b.halves (a.same ∙ sym b.same)

pub numbers_length : (l : List ℕ) (zs : List ℤ) → NumbersOf l zs → length l ≡ 2 * length zs
numbers_length l zs a = sym (ap length a.same) ∙ words_length zs

-- and each number of theirs is that of its two bytes
pub number_at : (l : List ℕ) (zs : List ℤ) → NumbersOf l zs → (j : ℕ) → Spelt (get_or l (2 * j) 0) (get_or l (suc (2 * j)) 0) (get_or zs j (pos 0))
number_at l zs a j = rw a.same at (spelt_at zs a.halves j)

-- ---- ranges: what is within reach, two bytes hold
widen : (low high low' high' z : ℤ) → low' ≤ℤ low → high ≤ℤ high' → Between low high z → Between low' high' z
widen low high low' high' z h k b = record { above = le_trans low' low z h b.above; below = le_trans z high high' b.below k }

pub reach_half : (z : ℤ) → Reach z → Half z
reach_half z = widen (negsuc 16383) (pos 16384) (negsuc 32767) (pos 32767) z (le_z_yes tt) (le_z_yes tt)

pub speed_half : (z : ℤ) → Speed z → Half z
speed_half z = widen (negsuc 254) (pos 255) (negsuc 32767) (pos 32767) z (le_z_yes tt) (le_z_yes tt)
