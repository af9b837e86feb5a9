-- A piece and its block: what a block holds, and that the block of a good piece passes. Assumes nothing.
use Rattle.std.specs.Prelude.{None}
use mathlib.Core.Path.{◌≡◌, refl, sym, ap, subst, ◌∙◌}
use mathlib.Core.Logic.{inl, ⊎_elim}
use mathlib.Core.List.{List, [], ◌∷◌, ◌++◌}
use Prim.Native.Nat.{ℕ, zero, suc, ◌+◌, ◌*◌, ◌-◌, ◌≤◌, ◌<◌}
use native.Mathlib.Omega.{arith}
use lib.IntN.{ℤ, pos}
use lib.ListN.{length, get_or, take, drop, replicate, length-replicate, length-drop, take-append-drop, get_or-eq_default, get_or-append}
use lib.Seq.{length-take-le, get_or-take, get_or-drop, get_or-append-add, ext_get_or}
use lib.Signed.{le_z_yes}
use mir.Syntax.{w8}
use mir.Val.{Fits}
use Rattle.whole.proofs.Order.{ℕ_or}
use Rattle.rules.specs.Reach.{Corners, Piece}
use Rattle.rules.specs.Ring.{ring}
use Rattle.rules.specs.Refusal as rules
use Rattle.rules.specs.Refusal.{Passes, Fault, First, Sought}
use Rattle.rules.specs.Good.{Sized, PieceKnown, piece_checks}
use Rattle.rules.proofs.Reach.{piece_known}
use Rattle.rules.proofs.Checks.{passes_append, passes_left, passes_right, fault_left, fault_right}
use Rattle.good.specs.declared.Slab.{Slab}
use Rattle.good.specs.Numbers.{piece_of}
use Rattle.piece_block.specs.declared.PieceRead.{PieceRead}
use Rattle.seal.specs.Seal.{block_size, body_size, byte, filled, block_of, block_checks}
use Rattle.piece_block.specs.Layout.{piece_body_size, piece_numbers, piece_body, piece_block}
use Rattle.block.specs.Layout.{piece_kind}
use Rattle.pair.specs.Pair.{word, words, Half, Halves, Wide}
use Rattle.piece_block.specs.Reading.{PieceIn, piece_block_checks, HoldsPiece, PieceGood, Held, piece_body_asked}
use Rattle.block.specs.Reading.{inside, piece_bytes}
use Rattle.piece_block.specs.Scan.{PieceAt}
use Rattle.seal.proofs.Bytes.{repeated, filled_at, filled_length, block_length, block_at, block_sealed, block_same}
use Rattle.seal.proofs.Unnamed.{stable, unnamed_front}
use Rattle.pair.proofs.Words.{word_one, words_length, reach_half, speed_half}
use Rattle.block.proofs.Laid.{few, Numbers, laid_is, laid_numbers}

pub sized_length : (l : List ℤ) → Sized l → length l ≡ 2 * (ring l).size
sized_length l s = let e = s.even in omega arith

pub sized_most : (l : List ℤ) → Sized l → length l ≤ 128
sized_most l s = let e = s.even in let c = s.corners.most in omega arith

-- ---- the block without its zeros
pub piece_block_lem : (k : Piece) → length k.corners ≤ 128 → piece_block k ≡ block_of (piece_kind ∷ (ring k.corners).size ∷ words (piece_numbers k))
unfolding piece_block piece_body
piece_block_lem k h = block_same (piece_kind ∷ filled 267 body) (piece_kind ∷ body) (omega (arith, filled_length 267 body short)) (omega (arith, words_length (piece_numbers k))) alike
  where
    body : List ℕ
    body = (ring k.corners).size ∷ words (piece_numbers k)

    short : length ((ring k.corners).size ∷ words (piece_numbers k)) ≤ 267
    short = omega (arith, words_length (piece_numbers k))

    alike : (i : ℕ) → i < body_size → byte (piece_kind ∷ filled 267 ((ring k.corners).size ∷ words (piece_numbers k))) i ≡ byte (piece_kind ∷ (ring k.corners).size ∷ words (piece_numbers k)) i
    alike zero g = refl
    alike (suc i) g = filled_at 267 ((ring k.corners).size ∷ words (piece_numbers k)) i

-- ---- a good piece's numbers
zero_half : Half (pos 0)
zero_half = record { above = le_z_yes tt; below = le_z_yes tt }

module _ (k : Piece) (p : Passes (piece_checks k)) where
  known : PieceKnown k
  known = piece_known k p

  pub good_sized : Sized k.corners
  good_sized = known.sized

  pub good_half : (j : ℕ) → Half (get_or (piece_numbers k) j (pos 0))
  good_half zero = reach_half k.bottom (known.band 0 (omega arith))
  good_half (suc zero) = reach_half k.top (known.band 1 (omega arith)).0
  good_half (suc (suc zero)) = speed_half k.speed.x (known.band 2 (omega arith))
  good_half (suc (suc (suc zero))) = speed_half k.speed.y (known.band 3 (omega arith))
  good_half (suc (suc (suc (suc zero)))) = speed_half k.speed.z (known.band 4 (omega arith))
  good_half (suc (suc (suc (suc (suc j))))) =
      ⊎_elim (λ (h : length k.corners ≤ j). rw (get_or-eq_default k.corners (pos 0) h) zero_half)
      (λ (h : j < length k.corners). reach_half (get_or k.corners j (pos 0)) (known.corners j h)) (ℕ_or (length k.corners) j)

  pub good_held : Held k
  good_held = record { few = sized_most k.corners good_sized; halves = λ j h. good_half j }

  pub good_asked : (bytes : List ℕ) → length bytes ≡ piece_body_size → Passes (piece_body_asked bytes k)
  unfolding piece_body_asked
  good_asked bytes e = (e, (record { even = good_sized.even; most = sized_most k.corners good_sized }, (λ j h w. w (good_half j), tt)))

  pub good_in : PieceIn (piece_block k) k
  good_in = record { signed = good_half; sized = good_sized; same = refl }

-- ---- a slab's numbers
-- the numbers before the corners
abbrev pub slab_numbers : Slab → List ℤ
slab_numbers b = b.bottom ∷ b.top ∷ b.vx ∷ b.vy ∷ b.vz ∷ []

-- two bytes hold them, and the corners
module _ (b : Slab) (l : List ℤ) (h : Held (piece_of b l)) where
  pub band_halves : Halves (slab_numbers b)
  band_halves j g = subst Half (get_or-append (slab_numbers b) l (pos 0) j g) (h.halves j (omega arith))

  pub corner_halves : Halves l
  corner_halves j g = subst Half (get_or-append-add (slab_numbers b) l j (pos 0)) (h.halves (5 + j) (omega arith))

-- ---- the first of two lists' numbers that two bytes do not hold
module _ (xs ys : List ℤ) where
  early : (j : ℕ) → j < length xs → Wide (xs ++ ys) j → Wide xs j
  early j h w v = w (subst Half (sym (get_or-append xs ys (pos 0) j h)) v)

  late : (j : ℕ) → Wide (xs ++ ys) (length xs + j) → Wide ys j
  late j w v = w (subst Half (sym (get_or-append-add xs ys j (pos 0))) v)

  from_late : Sought (Wide xs) (length xs) None → (j : ℕ) → (length xs ≤ j → Wide ys (j - length xs) → ⊥) → Wide (xs ++ ys) j → ⊥
  from_late f j g w =
      ⊎_elim
      (λ (h : length xs ≤ j). let e : j ≡ length xs + (j - length xs) = omega arith in g h (late (j - length xs) (subst (Wide (xs ++ ys)) e w)))
      (λ (h : j < length xs). f j h (early j h w))
      (ℕ_or (length xs) j)

  -- none of xs is, and of ys this one, or none
  pub wide_late : Sought (Wide xs) (length xs) None → (i : ℕ) → First (Wide ys) (length ys) i → First (Wide (xs ++ ys)) (length xs + length ys) (length xs + i)
  wide_late f i s = record {
    below = let b = s.below in omega arith;
    bad = λ v. s.bad (subst Half (get_or-append-add xs ys i (pos 0)) v);
    before = λ j l. from_late f j (λ k. s.before (j - length xs) (omega arith));
  }

  pub wide_none : Sought (Wide xs) (length xs) None → Sought (Wide ys) (length ys) None → Sought (Wide (xs ++ ys)) (length xs + length ys) None
  wide_none f s = λ j l. from_late f j (λ k. s (j - length xs) (omega arith))

-- ---- the block of a good piece passes
piece_bytes_lem : (k : Piece) → Sized k.corners → Passes (block_checks (piece_block k) ++ piece_bytes (piece_block k))
unfolding block_checks piece_bytes
piece_bytes_lem k s = subst (λ l. Passes (block_checks l ++ piece_bytes l)) (sym (piece_block_lem k most)) found
  where
    most : length k.corners ≤ 128
    most = sized_most k.corners s

    size : ℕ
    size = (ring k.corners).size

    f : List ℕ
    f = piece_kind ∷ size ∷ words (piece_numbers k)

    g : length f ≤ body_size
    g = few piece_kind size (piece_numbers k) (omega arith)

    count : byte (block_of f) 1 ≡ size
    count = block_at f g 1 (omega arith)

    long : length f ≤ 12 + 4 * size
    long = omega (arith, words_length (piece_numbers k), sized_length k.corners s)

    found : Passes (block_checks (block_of f) ++ piece_bytes (block_of f))
    found =
        passes_append (block_checks (block_of f)) (piece_bytes (block_of f)) (block_length f g, (block_sealed f g, tt))
        (block_at f g 0 (omega arith), (rw count s.corners, (rw count (unnamed_front f (12 + 4 * size) g long), tt)))

pub piece_passes : (k : Piece) → Passes (piece_checks k) → Passes (piece_block_checks (piece_block k))
unfolding piece_block_checks
piece_passes k p =
    passes_append (block_checks (piece_block k) ++ piece_bytes (piece_block k)) (inside (PieceIn (piece_block k)) piece_checks ∷ []) (piece_bytes_lem k (good_sized k p))
    ((k, good_in k p, p), tt)

-- a block that is the block of a good piece
module _ (l : List ℕ) (k : Piece) (same : l ≡ piece_block k) (good : Passes (piece_checks k)) where
  pub block_in : PieceIn l k
  block_in = subst (λ l. PieceIn l k) (sym same) (good_in k good)

  pub block_passes : Passes (piece_block_checks l)
  block_passes = subst (λ l. Passes (piece_block_checks l)) (sym same) (piece_passes k good)

-- ---- the block of a piece that is refused
pub bytes_fault : (l : List ℕ) (x : rules.Refusal) → Fault (block_checks l ++ piece_bytes l) x → Fault (piece_block_checks l) x
unfolding piece_block_checks
bytes_fault l x f = fault_left (block_checks l ++ piece_bytes l) (inside (PieceIn l) piece_checks ∷ []) x f

pub inside_fault : (l : List ℕ) (k : Piece) (x : rules.Refusal) → Passes (block_checks l ++ piece_bytes l) → PieceIn l k → Fault (piece_checks k) x → Fault (piece_block_checks l) x
unfolding piece_block_checks
inside_fault l k x p i f = fault_right (block_checks l ++ piece_bytes l) (inside (PieceIn l) piece_checks ∷ []) x p (inl (k, i, f))

-- ---- what a block holds
-- the piece in the numbers that were read
abbrev pub said_piece : PieceRead → Piece
said_piece r = piece_of r.slab (take (2 * r.count) r.corners)

module _ (l : List ℕ) (r : PieceRead) (bytes : (i : ℕ) → Fits w8 (byte l i)) (p : Passes (block_checks l ++ piece_bytes l)) (at : PieceAt l r) where
  -- the corners that were read
  abbrev ring_read : List ℤ
  ring_read = take (2 * r.count) r.corners

  first : Passes (block_checks l)
  first = passes_left (block_checks l) (piece_bytes l) p

  second : Passes (piece_bytes l)
  second = passes_right (block_checks l) (piece_bytes l) p

  pub count_good : Corners r.count
  unfolding piece_bytes
  count_good = rw at.count second.1.0

  long : length ring_read ≡ 2 * r.count
  long = let c = count_good.most in let e = at.corners.all in length-take-le (2 * r.count) r.corners (omega arith)

  zero_at : (j : ℕ) → 12 + 4 * r.count ≤ j → j < body_size → byte l j ≡ 0
  unfolding piece_bytes
  zero_at j h g =
      let k = j - (12 + 4 * byte l 1) in let e : 12 + 4 * byte l 1 + k ≡ j = omega (arith, at.count) in
      rw e at (stable (byte l (12 + 4 * byte l 1 + k)) 0 (second.1.1.0 k (omega (arith, at.count))))

  past : (n : ℕ) → 2 * r.count ≤ n → get_or ring_read n (pos 0) ≡ pos 0
  past n g = let h : length ring_read ≤ n = omega (arith, long) in get_or-eq_default ring_read (pos 0) h

  corner_bits : (n : ℕ) → 5 + n < 254 → word (get_or ring_read n (pos 0)) ≡ byte l (2 + 2 * (5 + n)) + 256 * byte l (3 + 2 * (5 + n))
  corner_bits n h =
      ⊎_elim
      (λ (g : 2 * r.count ≤ n). rw (
        past n g,
        zero_at (2 + 2 * (5 + n)) (omega arith) (omega arith),
        zero_at (3 + 2 * (5 + n)) (omega arith) (omega arith),
      ))
      (λ (g : n < 2 * r.count). rw (get_or-take (2 * r.count) r.corners n (pos 0) g) (at.corners.each n g).bits)
      (ℕ_or (2 * r.count) n)

  corner_half : (n : ℕ) → Half (get_or ring_read n (pos 0))
  corner_half n =
      ⊎_elim
      (λ (g : 2 * r.count ≤ n). rw (past n g) zero_half)
      (λ (g : n < 2 * r.count). rw (get_or-take (2 * r.count) r.corners n (pos 0) g) (at.corners.each n g).half)
      (ℕ_or (2 * r.count) n)

  numbers : Numbers l (piece_numbers (said_piece r))
  numbers zero h = at.slab.bottom.bits
  numbers (suc zero) h = at.slab.top.bits
  numbers (suc (suc zero)) h = at.slab.vx.bits
  numbers (suc (suc (suc zero))) h = at.slab.vy.bits
  numbers (suc (suc (suc (suc zero)))) h = at.slab.vz.bits
  numbers (suc (suc (suc (suc (suc n))))) h = let e : 5 + n ≡ suc (suc (suc (suc (suc n)))) = omega arith in rw e at (corner_bits n (omega arith))

  signed : (j : ℕ) → Half (get_or (piece_numbers (said_piece r)) j (pos 0))
  signed zero = at.slab.bottom.half
  signed (suc zero) = at.slab.top.half
  signed (suc (suc zero)) = at.slab.vx.half
  signed (suc (suc (suc zero))) = at.slab.vy.half
  signed (suc (suc (suc (suc zero)))) = at.slab.vz.half
  signed (suc (suc (suc (suc (suc n))))) = corner_half n

  size_is : (ring ring_read).size ≡ r.count
  size_is = omega (arith, long)

  sized : Sized ring_read
  sized = record { even = omega (arith, long); corners = rw size_is count_good }

  same : l ≡ piece_block (said_piece r)
  unfolding block_checks piece_bytes
  same =
      laid_is l bytes piece_kind (ring ring_read).size (piece_numbers (said_piece r)) numbers (let c = count_good.most in omega (arith, long))
      first.0 first.1.0 second.0 (sym at.count ∙ sym size_is)
      ∙ sym (piece_block_lem (said_piece r) (sized_most ring_read sized))

  pub piece_in : PieceIn l (said_piece r)
  piece_in = record { signed = signed; sized = sized; same = same }

  rest : drop (2 * r.count) r.corners ≡ replicate (128 - 2 * r.count) (pos 0)
  rest =
      ext_get_or (pos 0) (drop (2 * r.count) r.corners) (replicate (128 - 2 * r.count) (pos 0))
      (omega (arith, length-drop (2 * r.count) r.corners, length-replicate (128 - 2 * r.count) (pos 0), at.corners.all))
      (λ i h. get_or-drop (2 * r.count) r.corners i (pos 0) ∙ at.corners.rest (2 * r.count + i) (omega arith) ∙ sym (repeated (pos 0) (128 - 2 * r.count) i))

  pub piece_holds : HoldsPiece r (said_piece r)
  piece_holds = record {
    numbers = refl;
    count = sym size_is;
    corners =
        sym (take-append-drop (2 * r.count) r.corners)
        ∙ ap (λ z. ring_read ++ z) (rest ∙ ap (λ n. replicate (128 - n) (pos 0)) (sym long));
  }

-- ---- a block holds one piece
piece_numbers_lem : (l : List ℕ) (k : Piece) → PieceIn l k → Numbers l (piece_numbers k)
piece_numbers_lem l k a =
    let h = sized_most k.corners a.sized in
    rw (a.same ∙ piece_block_lem k h) (laid_numbers piece_kind (ring k.corners).size (piece_numbers k) (omega arith))

piece_count : (l : List ℕ) (k : Piece) → PieceIn l k → byte l 1 ≡ (ring k.corners).size
piece_count l k a =
    let h = sized_most k.corners a.sized in
    rw (a.same ∙ piece_block_lem k h)
    (block_at (piece_kind ∷ (ring k.corners).size ∷ words (piece_numbers k)) (few piece_kind (ring k.corners).size (piece_numbers k) (omega arith)) 1 (omega arith))

module _ (l : List ℕ) (k m : Piece) (a : PieceIn l k) (b : PieceIn l m) where
  one : (j : ℕ) → j < 254 → get_or (piece_numbers k) j (pos 0) ≡ get_or (piece_numbers m) j (pos 0)
  one j h =
      word_one (get_or (piece_numbers k) j (pos 0)) (get_or (piece_numbers m) j (pos 0)) (a.signed j) (b.signed j)
      (piece_numbers_lem l k a j h ∙ sym (piece_numbers_lem l m b j h))

  as_long : length k.corners ≡ length m.corners
  as_long = omega (arith, piece_count l k a, piece_count l m b, sized_length k.corners a.sized, sized_length m.corners b.sized)

  one_corner : (j : ℕ) → j < length k.corners → get_or k.corners j (pos 0) ≡ get_or m.corners j (pos 0)
  one_corner j h = one (suc (suc (suc (suc (suc j))))) (let g = sized_most k.corners a.sized in omega arith)

  pub piece_one : k ≡ m
  piece_one = λ i. record {
    bottom = one 0 (omega arith) i;
    top = one 1 (omega arith) i;
    speed = record { x = one 2 (omega arith) i; y = one 3 (omega arith) i; z = one 4 (omega arith) i };
    corners = ext_get_or (pos 0) k.corners m.corners as_long one_corner i;
  }

-- ---- as code has it
pub block_long : (l : List ℕ) → Passes (block_checks l ++ piece_bytes l) → length l ≡ block_size
unfolding block_checks
block_long l p = (passes_left (block_checks l) (piece_bytes l) p).0

pub passed_long : (l : List ℕ) → Passes (piece_block_checks l) → length l ≡ block_size
unfolding piece_block_checks block_checks
passed_long l p = p.0

pub count_most : (l : List ℕ) → Passes (block_checks l ++ piece_bytes l) → byte l 1 ≤ 64
unfolding piece_bytes
count_most l p = (passes_right (block_checks l) (piece_bytes l) p).1.0.most

-- ---- the corners that a reading holds
module _ (l : List ℕ) (r : PieceRead) (g : PieceGood l r) where
  held_count : 2 * r.count ≡ length g.piece.corners
  held_count = let e = sized_length g.piece.corners (good_sized g.piece g.good) in let f = g.holds.count in omega arith

  pub held_few : 2 * r.count ≤ 128
  held_few = let e = sized_most g.piece.corners (good_sized g.piece g.good) in let f = held_count in omega arith
