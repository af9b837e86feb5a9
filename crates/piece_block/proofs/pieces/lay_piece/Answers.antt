-- `piece_block::pieces::lay_piece` meets its contract: the corner count, and numbers that two bytes hold. Assumes nothing.
use Rattle.std.specs.Prelude.{Ok}
use Rattle.std.specs.Result.{IsOk}
use Rattle.std.proofs.Common.{◌≡◌, refl, sym, ap, subst, ◌∙◌, List, ◌∷◌, ◌++◌, ℕ, ◌+◌, ◌*◌, ◌-◌, ◌/◌, ◌≤◌, arith, length, take, drop}
use lib.IntN.{ℤ}
use lib.ListN.{set, length-set}
use Rattle.refusal.specs.Said.{Checked}
use Rattle.good.specs.declared.Slab.{Slab}
use Rattle.good.specs.Numbers.{piece_of}
use Rattle.pair.specs.Pair.{words, WritePairsSays}
use Rattle.pair.proofs.Words.{words_length}
use Rattle.pair.proofs.Caller.{pairs_written}
use Rattle.seal.proofs.Replaced.{mid, mid_front, part_length, one_length, one_then}
use Rattle.piece_block.specs.Layout.{piece_body_size, piece_front}
use Rattle.piece_block.specs.Reading.{Held}
use Rattle.piece_block.proofs.PieceLaws.{slab_numbers, band_halves, corner_halves}
use Rattle.piece_block.proofs.pieces.lay_piece.Goals as goal

module _ (b : Slab) (l : List ℤ) (bytes : List ℕ) (h : Held (piece_of b l) × (length bytes ≡ piece_body_size)) where
  -- the corner count alone
  abbrev counted : List ℕ
  counted = set bytes 0 (length l / 2)

  -- then the band's bytes, of the numbers as an array has them
  module _ (zs : List ℤ) (e : zs ≡ slab_numbers b) (band : List ℕ) (r : Checked) (w : WritePairsSays zs (take 10 (drop 1 counted)) band r) where
    laid : (r ≡ Ok tt) × (band ≡ words (slab_numbers b))
    laid =
        pairs_written (slab_numbers b) (take 10 (drop 1 counted)) band r (subst (λ (zs : List ℤ). WritePairsSays zs (take 10 (drop 1 counted)) band r) e w)
        (part_length counted 1 10 (simp length-set (omega (arith, h.1)))) (band_halves b l h.0)

    abbrev banded : List ℕ
    banded = mid 1 10 counted band

    banded_long : length banded ≡ piece_body_size
    banded_long = one_length bytes band (length l / 2) 10 (omega (arith, h.1)) (ap length laid.1) ∙ h.1

    -- then the corners'
    module _ (m : ℕ) (f : m ≡ 2 * length l) (corners : List ℕ) (q : Checked) (v : WritePairsSays l (take m (drop 11 banded)) corners q) where
      room : 11 + m ≤ length banded
      room = let few = h.0.few in omega (arith, banded_long)

      cornered : (q ≡ Ok tt) × (corners ≡ words l)
      cornered = pairs_written l (take m (drop 11 banded)) corners q v (part_length banded 11 m room ∙ f) (corner_halves b l h.0)

      front : take (11 + m) (mid 11 m banded corners) ≡ piece_front (piece_of b l)
      front =
          let s = length l / 2 in
          mid_front banded corners 11 m room (omega (arith, ap length cornered.1, words_length l))
          ∙ ap (λ (f : List ℕ). f ++ corners) (one_then bytes band s 10 (omega (arith, h.1)) (ap length laid.1) 10 (omega arith) ∙ ap (λ (f : List ℕ). s ∷ take 10 f) laid.1)
          ∙ ap (λ (f : List ℕ). (s ∷ words (slab_numbers b)) ++ f) cornered.1

pub unwrap-requires : goal.unwrap-requires
unwrap-requires c =
    let a = c.args in let zs = c.slab_numbers-numbers in let w = c.write_pairs in
    subst IsOk (sym (laid a.slab a.corners.now a.bytes.now c.requires zs.result zs.ensures w.new.bytes w.result w.ensures).0) refl

pub unwrap-requires-2 : goal.unwrap-requires-2
unwrap-requires-2 c =
    let a = c.args in let zs = c.slab_numbers-numbers in let w = c.write_pairs in let v = c.write_pairs-2 in
    subst IsOk (sym (cornered a.slab a.corners.now a.bytes.now c.requires zs.result zs.ensures w.new.bytes w.result w.ensures _ (omega arith) v.new.bytes v.result v.ensures).0) refl

pub returns : goal.returns
returns c =
    let a = c.args in let zs = c.slab_numbers-numbers in let w = c.write_pairs in let v = c.write_pairs-2 in
    let m = 11 + 2 * length a.corners.now - 11 in let k : 11 + 2 * length a.corners.now ≡ 11 + m = omega arith in
    let laid = front a.slab a.corners.now a.bytes.now c.requires zs.result zs.ensures w.new.bytes w.result w.ensures m (omega arith) v.new.bytes v.result v.ensures in
    ap (λ n. take n (mid 11 m (mid 1 10 (set a.bytes.now 0 (length a.corners.now / 2)) w.new.bytes) v.new.bytes)) k ∙ laid
