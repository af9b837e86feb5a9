-- `piece_block::pieces::write_piece_body` meets its contract: the length, the corner count, the numbers; then all its bytes. Assumes nothing.
use Rattle.std.proofs.Common.{refl, ◌∙◌, arith}
use mathlib.Core.Logic.{inl, inr}
use Rattle.rules.proofs.Reach.{between_stable}
use Rattle.good.specs.Numbers.{piece_of}
use Rattle.piece_block.specs.Reading.{piece_body_asked}
use Rattle.piece_block.proofs.Bodies.{body_is}
use Rattle.piece_block.proofs.pieces.write_piece_body.Goals as goal
use Rattle.piece_block.proofs.pieces.write_piece_body.Goals.{then-corners-ne0-via-then-corners-ne0, then-corners-ne0-via-else-corners-ne0+then-corners-gt128}

pub returns-then-corners-ne0 : goal.returns-then-corners-ne0
unfolding piece_body_asked
returns-then-corners-ne0 c = (
  inr (
    c.if-bytes-ne-PIECE_BODY.false,
    inl (
      λ p. elim c.then-corners-ne0.branch [
        | then-corners-ne0-via-then-corners-ne0 w ↦ w.if-corners-ne0.true p.even
        | then-corners-ne0-via-else-corners-ne0+then-corners-gt128 w ↦ let m = p.most in omega arith
      ],
      refl,
    ),
  ),
  refl,
)

pub lay_piece-requires : goal.lay_piece-requires
lay_piece-requires c = (record { few = c.if-corners-gt128.false; halves = λ j h. between_stable _ _ _ (c.in_default.ensures j (omega arith)) }, c.if-bytes-ne-PIECE_BODY.false)

pub returns : goal.returns
unfolding piece_body_asked
returns c =
    let a = c.args in let long = c.if-bytes-ne-PIECE_BODY.false in let laid = c.lay_piece in (
      (long, (record { even = c.if-corners-ne0.false; most = c.if-corners-gt128.false }, (c.in_default.ensures, tt))),
      body_is (piece_of a.slab a.corners.now) laid.new.bytes _ _ refl (laid.auto.bytes ∙ long) laid.ensures c.clear.ensures,
    )
