-- A whole room, there and back: the image of good pieces passes, its block i + 1 is piece i's, and an image that passes is that of its pieces. Assumes nothing.
use mathlib.Core.Path.{◌≡◌, refl, sym, ap, subst, ◌∙◌}
use mathlib.Core.List.{List, [], ◌∷◌, ◌++◌}
use Prim.Native.Nat.{ℕ, zero, suc, ◌+◌, ◌*◌, ◌<◌}
use native.Mathlib.Omega.{arith}
use lib.IntN.{pos}
use lib.ListN.{length, get_or, take, drop, length-append, length-drop, take-append-drop}
use lib.Seq.{take_at, drop_at, drop-drop}
use Rattle.rules.specs.Reach.{Piece, piece}
use Rattle.rules.specs.Refusal.{Passes}
use Rattle.rules.specs.Good.{piece_checks}
use Rattle.rules.proofs.Checks.{passes_append, passes_left, passes_right}
use Rattle.seal.specs.Seal.{byte, block_at, block_checks}
use Rattle.block.specs.Layout.{header_block}
use Rattle.piece_block.specs.Layout.{piece_block}
use Rattle.block.specs.Reading.{piece_bytes, header_checks, inside}
use Rattle.piece_block.specs.Reading.{piece_block_checks, PieceIn}
use Rattle.block.proofs.Headers.{header_length, header_passes, header_one, header_is}
use Rattle.piece_block.proofs.PieceLaws.{piece_passes, block_long}
use Rattle.room.specs.Image.{count, head_checks, pieces_check, room_checks, AllGood, blocks_of, image_of, Furnishes}
use Rattle.room.proofs.Images.{first_five, head_header, head_few, head_long}

-- ---- a block before others
first_block : (p q : List ℕ) → length p ≡ 512 → block_at (p ++ q) 0 ≡ p
unfolding block_at
first_block p q e = take_at p q 512 e

next_block : (l : List ℕ) (i : ℕ) → block_at l (suc i) ≡ block_at (drop 512 l) i
unfolding block_at
next_block l i = let e : 512 * suc i ≡ 512 + 512 * i = omega arith in ap (λ n. take 512 (drop n l)) e ∙ ap (take 512) (sym (drop-drop (512 * i) 512 l))

after_block : (p q : List ℕ) → length p ≡ 512 → (i : ℕ) → block_at (p ++ q) (suc i) ≡ block_at q i
after_block p q e i = next_block (p ++ q) i ∙ ap (λ (l : List ℕ). block_at l i) (drop_at p q 512 e)

-- bytes from a block and the rest
block_and_rest : (l p q : List ℕ) → block_at l 0 ≡ p → drop 512 l ≡ q → l ≡ p ++ q
unfolding block_at
block_and_rest l p q e f = sym (take-append-drop 512 l) ∙ ap (λ (b : List ℕ). b ++ drop 512 l) e ∙ ap (λ (b : List ℕ). p ++ b) f

-- ---- blocks of good pieces, whatever makes a block of a piece
module _ (made : Piece → List ℕ) (long : (k : Piece) → Passes (piece_checks k) → length (made k) ≡ 512) where
  blocks_long : (ks : List Piece) → AllGood ks → length (blocks_of made ks) ≡ 512 * length ks
  blocks_long [] g = refl
  blocks_long (k ∷ ks) g = omega (arith, length-append (made k) (blocks_of made ks), long k g.0, blocks_long ks g.1)

  blocks_at : (ks : List Piece) (z : Piece) → AllGood ks → (i : ℕ) → i < length ks → block_at (blocks_of made ks) i ≡ made (get_or ks i z)
  blocks_at [] z g i h = absurd (omega arith)
  blocks_at (k ∷ ks) z g zero h = first_block (made k) (blocks_of made ks) (long k g.0)
  blocks_at (k ∷ ks) z g (suc i) h = after_block (made k) (blocks_of made ks) (long k g.0) i ∙ blocks_at ks z g.1 i (omega arith)

pub good_at : (ks : List Piece) (z : Piece) → AllGood ks → (i : ℕ) → i < length ks → Passes (piece_checks (get_or ks i z))
good_at [] z g i h = absurd (omega arith)
good_at (k ∷ ks) z g zero h = g.0
good_at (k ∷ ks) z g (suc i) h = good_at ks z g.1 i (omega arith)

piece_long : (k : Piece) → Passes (piece_checks k) → length (piece_block k) ≡ 512
unfolding piece_block_checks
piece_long k p = block_long (piece_block k) (passes_left (block_checks (piece_block k) ++ piece_bytes (piece_block k)) _ (piece_passes k p))

-- ---- there
module _ (ks : List Piece) (f : Furnishes ks) where
  abbrev header : List ℕ
  header = header_block (length ks)

  abbrev blocks : List ℕ
  blocks = blocks_of piece_block ks

  header_good : Passes (header_checks header)
  header_good = header_passes (length ks) f.few

  header_long : length header ≡ 512
  header_long = header_length header header_good

  image_long : length (image_of ks) ≡ 512 * suc (length ks)
  image_long = omega (arith, length-append header blocks, header_long, blocks_long piece_block piece_long ks f.good)

  head_is : block_at (image_of ks) 0 ≡ header
  head_is = first_block header blocks header_long

  -- the count is the number of the pieces
  pub image_count : count (image_of ks) ≡ length ks
  image_count = sym (first_five (image_of ks)) ∙ ap (λ (l : List ℕ). byte l 5) head_is ∙ header_one _ _ (sym (header_is header header_good))

  -- block i + 1 is the block of piece i
  pub image_at : (z : Piece) (i : ℕ) → i < length ks → block_at (image_of ks) (suc i) ≡ piece_block (get_or ks i z)
  image_at z i h = after_block header blocks header_long i ∙ blocks_at piece_block piece_long ks z f.good i h

  pub image_head : Passes (head_checks (image_of ks))
  unfolding head_checks
  image_head = (
    record { whole = omega (arith, image_long); above = omega (arith, image_long); below = omega (arith, image_long, f.few) },
    passes_append (header_checks (block_at (image_of ks) 0)) _ (subst (λ (l : List ℕ). Passes (header_checks l)) (sym head_is) header_good) (omega (arith, image_long, image_count), tt),
  )

  image_pieces : (i : ℕ) → i < count (image_of ks) → Passes (piece_block_checks (block_at (image_of ks) (suc i)))
  image_pieces i h =
      let z : Piece = piece (pos 0) (pos 0) (pos 0) (pos 0) (pos 0) [] in
      let l : i < length ks = omega (arith, image_count) in
      subst (λ (b : List ℕ). Passes (piece_block_checks b)) (sym (image_at z i l)) (piece_passes (get_or ks i z) (good_at ks z f.good i l))

  -- nothing is refused
  pub image_passes : Passes (room_checks (image_of ks))
  unfolding room_checks
  image_passes = passes_append (head_checks (image_of ks)) _ image_head (image_pieces, tt)

-- ---- and back
-- bytes that are the blocks of n good pieces
record BlocksOf (l : List ℕ) (n : ℕ) : Type 0 where
  pub pieces : List Piece
  pub good : AllGood pieces
  pub many : length pieces ≡ n
  pub same : l ≡ blocks_of piece_block pieces

-- the piece that stands in a block that passes
in_block_lem : (b : List ℕ) → Passes (piece_block_checks b) → (inside (PieceIn b) piece_checks).passes
unfolding piece_block_checks
in_block_lem b p = (passes_right (block_checks b ++ piece_bytes b) _ p).0

no_bytes : (l : List ℕ) → length l ≡ 0 → l ≡ []
no_bytes [] e = refl
no_bytes (x ∷ l) e = absurd (omega arith)

-- block by block: those after the first are the blocks of the rest
later_pass : (l : List ℕ) (n : ℕ) → ((i : ℕ) → i < n → Passes (piece_block_checks (block_at l (suc i)))) → (i : ℕ) → i < n → Passes (piece_block_checks (block_at (drop 512 l) i))
later_pass l n p i h = subst (λ (b : List ℕ). Passes (piece_block_checks b)) (next_block l i) (p i h)

blocks_back : (n : ℕ) (l : List ℕ) → length l ≡ 512 * n → ((i : ℕ) → i < n → Passes (piece_block_checks (block_at l i))) → BlocksOf l n
blocks_back zero l e p = record { pieces = []; good = tt; many = refl; same = no_bytes l (omega arith) }
blocks_back (suc n) l e p =
    let first = in_block_lem (block_at l 0) (p 0 (omega arith)) in
    let rest = blocks_back n (drop 512 l) (omega (arith, length-drop 512 l)) (later_pass l n (λ i h. p (suc i) (omega arith))) in
    record {
      pieces = first.0 ∷ rest.pieces;
      good = (first.2, rest.good);
      many = omega (arith, rest.many);
      same = block_and_rest l (piece_block first.0) (blocks_of piece_block rest.pieces) first.1.same rest.same;
    }

module _ (l : List ℕ) (p : Passes (room_checks l)) where
  passed_head : Passes (head_checks l)
  unfolding room_checks
  passed_head = passes_left (head_checks l) _ p

  passed_pieces : (pieces_check piece_block_checks l).passes
  unfolding room_checks
  passed_pieces = (passes_right (head_checks l) _ p).0

  passed_header : block_at l 0 ≡ header_block (count l)
  passed_header = header_is (block_at l 0) (head_header l passed_head) ∙ ap header_block (first_five l)

  -- an image that passes is the image of its pieces
  pub image_back : (ks : List Piece) × Furnishes ks × (l ≡ image_of ks)
  image_back =
      let back = blocks_back (count l) (drop 512 l) (omega (arith, length-drop 512 l, head_long l passed_head)) (later_pass l (count l) passed_pieces) in (
        back.pieces,
        record { good = back.good; few = omega (arith, back.many, head_few l passed_head) },
        block_and_rest l (header_block (length back.pieces)) (blocks_of piece_block back.pieces) (passed_header ∙ ap header_block (sym back.many)) back.same,
      )
