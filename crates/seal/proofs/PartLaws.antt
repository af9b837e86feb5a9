-- A block of two parts with zeros between them: its bytes and its sums. Assumes nothing.
use Rattle.std.specs.Prelude.{Ok}
use mathlib.Core.Path.{◌≡◌, refl, sym, ap, subst, ◌∙◌}
use mathlib.Core.Bool.{Bool}
use mathlib.Core.Logic.{⊎_elim}
use mathlib.Core.List.{List, [], ◌++◌, append-nil}
use Prim.Native.Nat.{ℕ, zero, suc, ◌+◌, ◌*◌, ◌-◌, ◌%◌, ◌≤◌, ◌<◌}
use native.Mathlib.Omega.{arith}
use lib.ListN.{length, take, drop, replicate, length-drop, length-replicate, get_or-append, get_or-eq_default, length-append}
use lib.Seq.{ext_get_or, length-take-le, get_or-take, get_or-drop, get_or-append-add}
use Rattle.whole.specs.Decide.{Decides}
use Rattle.whole.proofs.Decide.{yes, no, decide_by}
use Rattle.whole.proofs.Order.{ℕ_or}
use Rattle.seal.specs.Seal.{block_size, body_size, byte, sum, plain_sum, weighed_sum, filled, block_of, SealedAs}
use Rattle.seal.specs.Parts.{PartsFit, parts_asked, parts_block, WritePartsSays, PartsIn}
use Rattle.seal.specs.Scan.{Alike, SumsAt}
use Rattle.rules.specs.Refusal.{Check, Passes}
use Rattle.refusal.specs.Said.{Writes, Checked}
use Rattle.refusal.proofs.Unique.{written}
use Rattle.seal.proofs.OneFault.{definite_parts_asked}
use Rattle.seal.proofs.Bytes.{repeated, filled_at, filled_length, sum_same, sum_split, plain_same, weighed_same, block_at, block_sealed, block_is, block_same}
use Rattle.seal.proofs.Replaced.{mid, part_length, mid_before, mid_in, mid_after}

-- a sum goes no further than what is not zero
sum_zero : (f : ℕ → ℕ) (n : ℕ) → ((i : ℕ) → i < n → f i ≡ 0) → sum f n ≡ 0
unfolding sum
sum_zero f zero h = refl
sum_zero f (suc n) h = omega (arith, sum_zero f n (λ i l. h i (omega arith)), h n (omega arith))

sum_short : (f : ℕ → ℕ) (m n : ℕ) → m ≤ n → ((i : ℕ) → m ≤ i → i < n → f i ≡ 0) → sum f n ≡ sum f m
sum_short f m n h z =
    let e : n ≡ m + (n - m) = omega arith in
    ap (sum f) e ∙ sum_split f m (n - m) ∙ omega (arith, sum_zero (λ j. f (m + j)) (n - m) (λ j l. z (m + j) (omega arith) (omega arith)))

module _ (first last : List ℕ) (at : ℕ) (fit : PartsFit first last at) where
  abbrev both : List ℕ
  both = filled at first ++ last

  long : length (filled at first) ≡ at
  long = filled_length at first fit.begin

  pub both_few : length both ≤ body_size
  both_few = omega (arith, length-append (filled at first) last, long)

  both_first : (i : ℕ) → i < at → byte both i ≡ byte first i
  both_first i g = get_or-append (filled at first) last 0 i (omega (arith, long)) ∙ filled_at at first i

  both_last : (j : ℕ) → byte both (at + j) ≡ byte last j
  both_last j = ap (λ m. byte both (m + j)) (sym long) ∙ get_or-append-add (filled at first) last j 0

  -- ---- the bytes, as they are laid: zeros, the first part over them, and the last in its place
  module _ (k : ℕ) (kl : k ≡ block_size) where
    abbrev over : List ℕ
    over = first ++ drop (length first) (replicate k 0)

    over_long : length over ≡ block_size
    over_long = omega (arith, length-append first (drop (length first) (replicate k 0)), length-drop (length first) (replicate {A = ℕ} k 0), length-replicate {A = ℕ} k 0)

    over_at : (i : ℕ) → byte over i ≡ byte first i
    over_at i =
        ⊎_elim
        (λ (q : length first ≤ i). let d : length first + (i - length first) ≡ i = omega arith in
        rw d at
        (get_or-append-add first (drop (length first) (replicate k 0)) (i - length first) 0
        ∙ get_or-drop (length first) (replicate k 0) (i - length first) 0
        ∙ repeated 0 k (length first + (i - length first)))
        ∙ sym (get_or-eq_default first 0 {n = i} q))
        (λ (q : i < length first). get_or-append first (drop (length first) (replicate k 0)) 0 i q)
        (ℕ_or (length first) i)

    laid : Alike (mid at (length last) over last) both
    laid i g =
        let s : at + length last ≤ length over = omega (arith, over_long) in
        ⊎_elim
        (λ (q : at ≤ i). let d : at + (i - at) ≡ i = omega arith in
        rw (sym d)
        (⊎_elim
        (λ (p : length last ≤ i - at). let c : length last + (i - at - length last) ≡ i - at = omega arith in
        rw (sym c)
        (mid_after over last at (length last) s refl (i - at - length last)
        ∙ over_at (at + (length last + (i - at - length last)))
        ∙ get_or-eq_default first 0 {n = at + (length last + (i - at - length last))} (omega arith)
        ∙ sym (both_last (length last + (i - at - length last)) ∙ get_or-eq_default last 0 {n = length last + (i - at - length last)} (omega arith))))
        (λ (p : i - at < length last). mid_in over last at (length last) s refl (i - at) p ∙ sym (both_last (i - at)))
        (ℕ_or (length last) (i - at))))
        (λ (q : i < at). mid_before over last at (length last) s refl i q ∙ over_at i ∙ sym (both_first i q))
        (ℕ_or at i)

    pub parts_alike : (z x y : List ℕ) (n : ℕ) → z ≡ replicate k 0 → x ≡ first → y ≡ last → n ≡ length last → Alike (mid at n (x ++ drop (length first) z) y) both
    parts_alike z x y n a b c d = rw (a, b, c, d) laid

  -- ---- the sums, of any weight that zeros do not have
  sums : (g : ℕ → ℕ → ℕ) → ((i : ℕ) → g i 0 ≡ 0) → sum (λ i. g i (byte both i)) body_size ≡ sum (λ i. g i (byte first i)) (length first) + sum (λ j. g (at + j) (byte last j)) (length last)
  sums g o =
      let e : body_size ≡ at + (body_size - at) = omega arith in
      let p = sum_same (λ i. g i (byte both i)) (λ i. g i (byte first i)) at (λ i q. ap (g i) (both_first i q)) in
      let q = sum_short (λ i. g i (byte first i)) (length first) at fit.begin (λ i r s. ap (g i) (get_or-eq_default first 0 {n = i} r) ∙ o i) in
      let r = sum_same (λ j. g (at + j) (byte both (at + j))) (λ j. g (at + j) (byte last j)) (body_size - at) (λ j s. ap (g (at + j)) (both_last j)) in
      let s = sum_short (λ j. g (at + j) (byte last j)) (length last) (body_size - at) (omega arith) (λ j t u. ap (g (at + j)) (get_or-eq_default last 0 {n = j} t) ∙ o (at + j)) in
      ap (sum (λ i. g i (byte both i))) e ∙ sum_split (λ i. g i (byte both i)) at (body_size - at) ∙ omega (arith, p, q, r, s)

  module _ (p w q v : ℕ) (a : SumsAt first 0 p w) (b : SumsAt last at q v) where
    pub plain_parts : plain_sum both ≡ (p + q) % 255
    unfolding plain_sum
    plain_parts = ap (λ n. n % 255) (sums (λ i b. b) (λ i. refl) ∙ omega (arith, a.plain_is, b.plain_is))

    pub weighed_parts : weighed_sum both ≡ (w + v) % 255
    unfolding weighed_sum
    weighed_parts =
        let o =
        sum_same (λ i. (body_size - i) * byte first i) (λ i. (body_size - (0 + i)) * byte first i) (length first)
        (λ i l. let e : i ≡ 0 + i = omega arith in ap (λ m. (body_size - m) * byte first i) e) in
        ap (λ n. n % 255) (sums (λ i b. (body_size - i) * b) (λ i. omega arith) ∙ omega (arith, o, a.weighed_is, b.weighed_is))

  -- ---- a block that holds both
  module _ (block : List ℕ) (n : length block ≡ block_size) where
    abbrev head : List ℕ
    head = take at block

    abbrev tail : List ℕ
    tail = take (body_size - at) (drop at block)

    head_long : length head ≡ at
    head_long = length-take-le at block (omega arith)

    tail_long : length tail ≡ body_size - at
    tail_long = part_length block at (body_size - at) (omega arith)

    tail_at : (j : ℕ) → j < body_size - at → byte tail j ≡ byte block (at + j)
    tail_at j r = get_or-take (body_size - at) (drop at block) j 0 r ∙ get_or-drop at block j 0

    pub held : head ≡ filled (length head) first → tail ≡ filled (length tail) last → Alike block both
    held e f i r =
        ⊎_elim
        (λ (q : at ≤ i). let d : at + (i - at) ≡ i = omega arith in
        rw (sym d) (sym (tail_at (i - at) (omega arith)) ∙ ap (λ (l : List ℕ). byte l (i - at)) f ∙ filled_at (length tail) last (i - at) ∙ sym (both_last (i - at))))
        (λ (q : i < at). sym (get_or-take at block i 0 q) ∙ ap (λ (l : List ℕ). byte l i) e ∙ filled_at (length head) first i ∙ sym (both_first i q))
        (ℕ_or at i)

    module _ (g : Alike block both) where
      pub held_first : head ≡ filled (length head) first
      held_first =
          ext_get_or 0 head (filled (length head) first) (sym (filled_length (length head) first (omega (arith, head_long))))
          (λ i l. let r : i < at = omega (arith, head_long) in get_or-take at block i 0 r ∙ g i (omega arith) ∙ both_first i r ∙ sym (filled_at (length head) first i))

      pub held_last : tail ≡ filled (length tail) last
      held_last =
          ext_get_or 0 tail (filled (length tail) last) (sym (filled_length (length tail) last (omega (arith, tail_long))))
          (λ j l. let r : j < body_size - at = omega (arith, tail_long) in tail_at j r ∙ g (at + j) (omega arith) ∙ both_last j ∙ sym (filled_at (length tail) last j))

  -- ---- a block that holds both and has their check is made of them
  module _ (block : List ℕ) (e : block ≡ block_of both) where
    pub made_alike : Alike block both
    made_alike i r = ap (λ (l : List ℕ). byte l i) e ∙ block_at both both_few i r

    made_sealed : SealedAs both block
    made_sealed =
        let s = block_sealed both both_few in let g : Alike (block_of both) both = block_at both both_few in
        record {
          first = ap (λ (l : List ℕ). byte l body_size) e ∙ s.first ∙ plain_same (block_of both) both g;
          second = ap (λ (l : List ℕ). byte l (body_size + 1)) e ∙ s.second ∙ weighed_same (block_of both) both g;
        }

  module _ (block : List ℕ) (n : length block ≡ block_size) (g : Alike block both) where
    made : SealedAs both block → block ≡ block_of both
    made s = block_is block both both_few n (record { first = s.first ∙ sym (plain_same block both g); second = s.second ∙ sym (weighed_same block both g) }) g

    pub made_by : (t : Bool) → Decides (SealedAs both block) t → Decides (PartsIn first last at block) t
    made_by t d = decide_by _ t (λ e. record { fit = fit; same = made (yes _ t d e) }) (λ e p. no _ t d e (made_sealed block p.same))

-- ---- first bytes alone
module _ (first : List ℕ) (at : ℕ) (h : length first ≤ at) (k : at ≤ body_size) where
  pub front_block : parts_block first [] at ≡ block_of first
  front_block =
      ap block_of (append-nil (filled at first))
      ∙ block_same (filled at first) first (omega (arith, filled_length at first h)) (omega arith) (λ i g. filled_at at first i)

  -- they are written wherever the block is long enough
  front_written : (before after : List ℕ) (r : Checked) → length before ≡ block_size → WritePartsSays first [] at before after r → (r ≡ Ok tt) × (after ≡ block_of first)
  unfolding parts_asked
  front_written before after r n w =
      let e = written (parts_asked before first [] at) (definite_parts_asked before first [] at) (parts_block first [] at) before after r w
      (n, (record { begin = h; end = omega arith }, tt)) in
      (e.0, e.1 ∙ front_block)

  -- so a call that has done its checks, and then writes them, writes their block
  pub front_writes : (cs : List Check) (front before after : List ℕ) (r : Checked) → first ≡ front → length before ≡ block_size → Passes cs
      → WritePartsSays first [] at before after r → Writes cs (block_of front) before after r
  front_writes cs front before after r e n p w =
      let d = front_written before after r n w in
      subst (λ s. Writes cs (block_of front) before after s) (sym d.0) (p, d.1 ∙ ap block_of e)
