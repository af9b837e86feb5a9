-- Laws of images: what length, header and length against count say, and where piece i stands. Assumes nothing.
use Rattle.std.specs.Prelude.{Ok, Err}
use mathlib.Core.Path.{◌≡◌, refl, sym, ap, subst, ◌∙◌}
use mathlib.Core.Logic.{inl, inr}
use mathlib.Core.List.{List, [], ◌∷◌}
use Prim.Native.Nat.{ℕ, suc, ◌+◌, ◌*◌, ◌-◌, ◌≤◌, ◌<◌}
use native.Mathlib.Omega.{arith}
use lib.ListN.{length, take, drop}
use Rattle.rules.specs.Refusal.{refuse, Check, Passes, demand}
use Rattle.rules.specs.Reach.{Pieces}
use Rattle.rules.proofs.Checks.{passes_append, passes_left, passes_right, fault_left, fault_right}
use Rattle.refusal.specs.declared.Refusal.{Refusal}
use Rattle.refusal.specs.declared.Refusal.TheVariants.{Length}
use Rattle.refusal.specs.Said.{said}
use Rattle.seal.specs.Seal.{byte, block_at}
use Rattle.block.specs.Reading.{header_checks, HeaderSays}
use Rattle.piece_block.specs.Reading.{piece_block_checks}
use Rattle.seal.proofs.Blocks.{nth_byte, nth_part}
use Rattle.block.proofs.Headers.{header_passes, header_one, header_is, header_count}
use Rattle.room.specs.declared.RoomRefusal.{RoomRefusal}
use Rattle.room.specs.Image.{count, Whole, head_checks, pieces_check, room_checks, HeadSays, Has, room_said, Unblocked}

-- ---- the head
module _ (image : List ℕ) where
  -- the header's block, and the demand after it
  abbrev b : List ℕ
  b = block_at image 0

  abbrev last : List Check
  last = demand (length image ≡ 512 * suc (count image)) (refuse 1 0 0) ∷ []

  pub first_five : byte b 5 ≡ count image
  first_five = nth_byte image 0 5 (omega arith)

  pub not_whole : (Whole image → ⊥) → (r : RoomRefusal) → Unblocked Length r → HeadSays image (Err r)
  unfolding head_checks
  not_whole f r e = inl (f, ap room_said e)

  pub no_header : Whole image → (x : Refusal) → HeaderSays b (Err x) → (r : RoomRefusal) → Unblocked x r → HeadSays image (Err r)
  unfolding head_checks
  no_header w x f r e = rw e (inr (w, fault_left (header_checks b) last (said x) f))

  module _ (w : Whole image) (n : ℕ) (h : HeaderSays b (Ok n)) where
    header : Passes (header_checks b)
    header = subst (λ (l : List ℕ). Passes (header_checks l)) (sym h.1) (header_passes n h.0)

    counts : n ≡ count image
    counts = header_one n (byte b 5) (sym h.1 ∙ header_is b header) ∙ first_five

    pub head_good : length image ≡ 512 * (n + 1) → HeadSays image (Ok n)
    unfolding head_checks
    head_good e = let c = counts in record { passes = (w, passes_append (header_checks b) last header (omega arith, tt)); pieces = c }

    pub head_bad : (length image ≡ 512 * (n + 1) → ⊥) → (r : RoomRefusal) → Unblocked Length r → HeadSays image (Err r)
    unfolding head_checks
    head_bad f r g = let c = counts in rw g (inr (w, fault_right (header_checks b) last (refuse 1 0 0) header (inl (λ e. f (omega arith), refl))))

  module _ (p : Passes (head_checks image)) where
    pub head_header : Passes (header_checks b)
    unfolding head_checks
    head_header = passes_left (header_checks b) last p.1

    pub head_few : count image ≤ 126
    head_few = rw (← first_five) (header_count b head_header)

    pub head_long : length image ≡ 512 * suc (count image)
    unfolding head_checks
    head_long = (passes_right (header_checks b) last p.1).0

-- ---- piece i
pub part_is : (image : List ℕ) (i : ℕ) → take (512 * (i + 1) + 512 - 512 * (i + 1)) (drop (512 * (i + 1)) image) ≡ block_at image (suc i)
part_is image i = let e : i + 1 ≡ suc i = omega arith in nth_part image (i + 1) ∙ ap (block_at image) e

pub few_pieces : (image : List ℕ) → Passes (room_checks image) → Pieces (count image)
unfolding room_checks
few_pieces image p = head_few image (passes_left (head_checks image) (pieces_check piece_block_checks image ∷ []) p)

pub has_few : (image : List ℕ) (i : ℕ) → Has image i → i < 126
has_few image i h = let f = head_few image h.head in let g = h.below in omega arith

pub has_long : (image : List ℕ) (i : ℕ) → Has image i → 512 * (i + 1) + 512 ≤ length image
has_long image i h = let f = head_long image h.head in let g = h.below in omega arith
