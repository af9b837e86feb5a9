-- `piece_block::pieces::write_piece` meets its contract: one byte, and then the piece's bytes. Assumes nothing.
use Rattle.std.proofs.Common.{◌≡◌, refl, ap, ◌∙◌, List, ◌∷◌, ℕ, arith, length, replicate}
use mathlib.Core.List.{append-nil}
use Rattle.rules.proofs.Checks.{never_both}
use Rattle.refusal.specs.Said.{said}
use Rattle.refusal.proofs.Unique.{written}
use Rattle.good.specs.Numbers.{piece_of}
use Rattle.seal.proofs.PartLaws.{front_writes}
use Rattle.block.specs.Layout.{piece_kind}
use Rattle.piece_block.specs.Layout.{piece_body_size, piece_body, piece_block}
use Rattle.piece_block.specs.Reading.{piece_body_asked, piece_asked}
use Rattle.piece_block.proofs.Bodies.{piece_body_length}
use Rattle.piece_block.proofs.OneFault.{definite_piece_body_asked}
use Rattle.piece_block.proofs.PieceLaws.{good_asked, good_held}
use Rattle.piece_block.proofs.pieces.write_piece.Goals as goal

pub returns-in_err-write_piece_body : goal.returns-in_err-write_piece_body
unfolding piece_asked
returns-in_err-write_piece_body c =
    let good = c.in_ok-check_piece.ensures in let zeros = replicate piece_body_size 0 in let k = piece_of c.args.slab c.args.corners.now in
    absurd (never_both (piece_body_asked zeros k) (definite_piece_body_asked zeros k) (said c.in_err-write_piece_body.field-0.0) (good_asked k good zeros refl) c.in_err-write_piece_body.ensures.0)

pub returns : goal.returns
unfolding piece_asked piece_block
returns c =
    let a = c.args in let k = piece_of a.slab a.corners.now in let good = c.in_ok-check_piece.ensures in let n = c.if-block-ne-SIZE.false in
    let zeros = replicate piece_body_size 0 in let b = c.write_piece_body in let laid = b.new.bytes in let w = c.write_parts in
    let bytes : laid ≡ piece_body k = (written (piece_body_asked zeros k) (definite_piece_body_asked zeros k) (piece_body k) zeros laid b.result b.ensures (good_asked k good zeros refl)).1 in
    let long : length laid ≡ piece_body_size = ap length bytes ∙ piece_body_length k (good_held k good).few in
    let e = append-nil laid in let h = ap length e ∙ long in
    front_writes _ 268 (omega (arith, h)) (omega arith) (piece_asked a.block.now k) (piece_kind ∷ piece_body k) a.block.now w.new.block w.result
    (ap (λ (l : List ℕ). piece_kind ∷ l) (e ∙ bytes)) n (n, good) w.ensures
