-- There and back: the block of a good piece reads back as it, and a block that is accepted is the one that is written for it. Assumes nothing.
use Rattle.std.specs.Prelude.{Result, Ok}
use mathlib.Core.Path.{◌≡◌, refl, sym, ap, subst, ◌∙◌}
use mathlib.Core.List.{List, ◌++◌}
use Prim.Native.Nat.{ℕ, ◌*◌, ◌-◌}
use lib.IntN.{ℤ, pos}
use lib.ListN.{length, take, replicate}
use lib.Seq.{take_at}
use Rattle.rules.specs.Reach.{Piece}
use Rattle.rules.specs.Ring.{ring}
use Rattle.rules.specs.Refusal.{Passes}
use Rattle.rules.specs.Good.{piece_checks}
use Rattle.refusal.specs.declared.Refusal.{Refusal}
use Rattle.refusal.specs.Said.{Checked}
use Rattle.good.specs.declared.Slab.{Slab}
use Rattle.good.specs.Numbers.{piece_of}
use Rattle.seal.specs.Seal.{block_size}
use Rattle.piece_block.specs.declared.PieceRead.{PieceRead}
use Rattle.piece_block.specs.Layout.{piece_block}
use Rattle.piece_block.specs.Reading.{piece_asked, PieceGood, PieceSays, WritePieceSays}
use Rattle.piece_block.proofs.PieceLaws.{sized_length, good_sized, said_piece}
use Rattle.piece_block.proofs.Unique.{write_piece_one, read_piece_one}

-- what is read of a good piece
abbrev pub answer : Slab → List ℤ → PieceRead
answer b l = record { slab = b; corners = l ++ replicate (128 - length l) (pos 0); count = (ring l).size }

pub written_piece : (b : Slab) (l : List ℤ) (before after : List ℕ) (r : Result PieceRead Refusal)
    → WritePieceSays (piece_of b l) before after (Ok tt) → PieceSays after r → r ≡ Ok (answer b l)
unfolding piece_asked
written_piece b l before after r w f =
    read_piece_one after r (Ok (answer b l)) f
    (record { piece = piece_of b l; good = w.0.1; same = w.1; holds = record { numbers = refl; count = refl; corners = refl } })

-- the piece of an accepted block is that one
pub piece_said : (l : List ℕ) (r : PieceRead) (f : PieceGood l r) → f.piece ≡ said_piece r
piece_said l r f =
    let k = f.piece in
    sym f.holds.numbers ∙ ap (piece_of r.slab) (sym (corners_said l r f))
  where
    corners_said : (l : List ℕ) (r : PieceRead) (f : PieceGood l r) → take (2 * r.count) r.corners ≡ f.piece.corners
    corners_said l r f =
        let k = f.piece in
        rw f.holds.corners
        (take_at k.corners (replicate (128 - length k.corners) (pos 0)) (2 * r.count)
        (sized_length k.corners (good_sized k f.good) ∙ ap (λ n. 2 * n) (sym f.holds.count)))

pub accepted_piece : (l : List ℕ) (a : PieceRead) (before after : List ℕ) (r : Checked) → PieceSays l (Ok a)
    → length before ≡ block_size → WritePieceSays (said_piece a) before after r → (r ≡ Ok tt) × (after ≡ l)
unfolding piece_asked
accepted_piece l a before after r f e w = again f.piece (piece_said l a f) f.good f.same
  where
    again : (k : Piece) → k ≡ said_piece a → Passes (piece_checks k) → l ≡ piece_block k → (r ≡ Ok tt) × (after ≡ l)
    again k q p s =
        write_piece_one (said_piece a) before after l r (Ok tt) w
        ((e, subst (λ m. Passes (piece_checks m)) q p), s ∙ ap piece_block q)
