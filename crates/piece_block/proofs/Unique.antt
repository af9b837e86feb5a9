-- Two outcomes that both meet a public contract, answer and later bytes, are equal. Assumes nothing.
use Rattle.std.specs.Prelude.{Result, Ok, Err, Some, None}
use mathlib.Core.Path.{◌≡◌, sym, ap, subst, ◌∙◌}
use mathlib.Core.List.{List, ◌∷◌}
use Prim.Native.Nat.{ℕ}
use Rattle.rules.specs.Reach as rules
use Rattle.rules.specs.Reach.{Piece}
use Rattle.rules.specs.Refusal.{Passes}
use Rattle.rules.specs.Good.{run_checks}
use Rattle.rules.specs.Verdict.{Answer, clear, blocked, Verdict}
use Rattle.rules.proofs.Verdict.{one_verdict}
use Rattle.rules.proofs.Checks.{never_both, passes_append}
use Rattle.refusal.specs.declared.Refusal.{Refusal}
use Rattle.refusal.specs.Said.{said, Checked, Told}
use Rattle.refusal.proofs.Unique.{refused_one, writes_one}
use Rattle.piece.specs.Tells.{Verdict as Answered, answer_of}
use Rattle.piece.proofs.Tells.{verdict_one}
use Rattle.seal.specs.Seal.{length_check}
use Rattle.piece_block.specs.declared.PieceRead.{PieceRead}
use Rattle.piece_block.specs.Layout.{piece_body, piece_block}
use Rattle.piece_block.specs.Reading.{piece_block_checks, piece_body_asked, piece_asked, HoldsPiece, PieceSays, WritePieceSays, WritePieceBodySays}
use Rattle.piece_block.specs.Verdicts.{VerdictOn, verdict_in_checks, VerdictInSays}
use Rattle.piece_block.proofs.PieceLaws as pieces
use Rattle.piece_block.proofs.OneFault.{definite_piece_block, definite_verdict_in, definite_piece_body_asked, definite_piece_asked}

-- ---- writers
pub write_piece_body_one : (k : Piece) (before a b : List ℕ) (r s : Checked) → WritePieceBodySays k before a r → WritePieceBodySays k before b s → (r ≡ s) × (a ≡ b)
write_piece_body_one k before a b r s = writes_one (piece_body_asked before k) (definite_piece_body_asked before k) (piece_body k) before a b r s

pub write_piece_one : (k : Piece) (before a b : List ℕ) (r s : Checked) → WritePieceSays k before a r → WritePieceSays k before b s → (r ≡ s) × (a ≡ b)
write_piece_one k before a b r s = writes_one (piece_asked before k) (definite_piece_asked before k) (piece_block k) before a b r s

-- ---- read_piece
pub holds_one : (r s : PieceRead) (k : Piece) → HoldsPiece r k → HoldsPiece s k → r ≡ s
holds_one r s k h g =
    let q = h.numbers ∙ sym g.numbers in
    λ i. record {
      slab = record { bottom = (q i).bottom; top = (q i).top; vx = (q i).speed.x; vy = (q i).speed.y; vz = (q i).speed.z };
      corners = (h.corners ∙ sym g.corners) i;
      count = (h.count ∙ sym g.count) i;
    }

pub read_piece_one : (l : List ℕ) (r s : Result PieceRead Refusal) → PieceSays l r → PieceSays l s → r ≡ s
read_piece_one l (Ok r) (Ok s) f g =
    let q = pieces.piece_one l f.piece g.piece (pieces.block_in l f.piece f.same f.good) (pieces.block_in l g.piece g.same g.good) in
    ap Ok (holds_one r s g.piece (subst (HoldsPiece r) q f.holds) g.holds)
read_piece_one l (Ok r) (Err y) f g = absurd (never_both (piece_block_checks l) (definite_piece_block l) (said y) (pieces.block_passes l f.piece f.same f.good) g)
read_piece_one l (Err x) (Ok s) f g = absurd (never_both (piece_block_checks l) (definite_piece_block l) (said x) (pieces.block_passes l g.piece g.same g.good) f)
read_piece_one l (Err x) (Err y) f g = ap Err (refused_one (piece_block_checks l) (definite_piece_block l) x y f g)

-- ---- verdict_in
module _ (r : rules.Run) (l : List ℕ) where
  -- one answer on the piece of a block
  pub verdict_on_one : (a b : Answer) → VerdictOn r l a → VerdictOn r l b → a ≡ b
  verdict_on_one a b f g =
      let e = pieces.piece_one l f.piece g.piece (pieces.block_in l f.piece f.same f.good) (pieces.block_in l g.piece g.same g.good) in
      one_verdict r g.piece a b (subst (λ k. Verdict r k a) e f.verdict) g.verdict

  passed : (a : Answer) → VerdictOn r l a → Passes (verdict_in_checks r l)
  unfolding verdict_in_checks
  passed a f =
      let p = pieces.block_passes l f.piece f.same f.good in
      passes_append (length_check l ∷ run_checks r) (piece_block_checks l) (pieces.passed_long l p, f.run) p

  as_told : (v : Answered) → VerdictInSays r l v → Told (verdict_in_checks r l) (λ a. VerdictOn r l (answer_of a)) v
  as_told (Ok None) f = (passed clear f, f)
  as_told (Ok (Some m)) f = (passed (blocked m) f, f)
  as_told (Err x) f = f

  pub verdict_in_one : (v w : Answered) → VerdictInSays r l v → VerdictInSays r l w → v ≡ w
  verdict_in_one v w f g =
      verdict_one (verdict_in_checks r l) (definite_verdict_in r l) (VerdictOn r l) verdict_on_one v w (as_told v f) (as_told w g)
