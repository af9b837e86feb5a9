-- The bytes of a question tell its run and its piece. Assumes nothing.
use mathlib.Core.Path.{◌≡◌, refl, sym, ap, ◌∙◌}
use mathlib.Core.List.{List, ◌∷◌, ◌++◌, append_assoc}
use Prim.Native.Nat.{ℕ, ◌+◌, ◌*◌, ◌≤◌, ◌<◌}
use native.Mathlib.Omega.{arith}
use lib.ListN.{length, take, drop, length-append}
use lib.Seq.{take_at, drop_at}
use Rattle.rules.specs.Reach.{Run, Piece}
use Rattle.rules.specs.Refusal.{Passes}
use Rattle.rules.specs.Good.{run_checks, piece_checks}
use Rattle.seal.specs.Seal.{byte, filled, block_of}
use Rattle.block.specs.Layout.{run_body, run_block}
use Rattle.piece_block.specs.Layout.{piece_body, piece_block}
use Rattle.block.proofs.Bodies.{run_body_length}
use Rattle.piece_block.proofs.Bodies.{piece_body_length}
use Rattle.block.proofs.RunLaws as runs
use Rattle.piece_block.proofs.PieceLaws as pieces
use Rattle.book.specs.Entry.{key_length, four, opening, entry_of, question}
use Rattle.book.proofs.Look.{code_of}

-- equal lists with fronts of one length have equal fronts
fronts : (a b c d : List ℕ) → length a ≡ length b → a ++ c ≡ b ++ d → a ≡ b
fronts a b c d n e = sym (take_at a c (length b) n) ∙ ap (take (length b)) e ∙ take_at b d (length b) refl

backs : (a b c d : List ℕ) → length a ≡ length b → a ++ c ≡ b ++ d → c ≡ d
backs a b c d n e = sym (drop_at a c (length b) n) ∙ ap (drop (length b)) e ∙ drop_at b d (length b) refl

-- ---- questions
pub question_length : (r : Run) (k : Piece) → length k.corners ≤ 128 → length (question r k) ≡ key_length
unfolding question
question_length r k h = omega (arith, length-append (run_body r) (piece_body k), run_body_length r, piece_body_length k h)

-- and so of a good piece
pub good_length : (r : Run) (k : Piece) → Passes (piece_checks k) → length (question r k) ≡ key_length
good_length r k p = question_length r k (pieces.sized_most k.corners (pieces.good_sized k p))

pub as_long : (r s : Run) (k m : Piece) → Passes (piece_checks k) → Passes (piece_checks m) → length (question r k) ≡ length (question s m)
as_long r s k m p q = good_length r k p ∙ sym (good_length s m q)

-- equal bodies make equal blocks, and a block holds one run, or one piece
module _ (r s : Run) (k m : Piece) (e : question r k ≡ question s m) where
  runs_long : length (run_body r) ≡ length (run_body s)
  runs_long = run_body_length r ∙ sym (run_body_length s)

  same_run : run_block r ≡ run_block s
  unfolding question run_block
  same_run = ap (λ (l : List ℕ). block_of (2 ∷ 0 ∷ l)) (fronts (run_body r) (run_body s) (piece_body k) (piece_body m) runs_long e)

  same_piece : piece_block k ≡ piece_block m
  unfolding question piece_block
  same_piece = ap (λ (l : List ℕ). block_of (1 ∷ l)) (backs (run_body r) (run_body s) (piece_body k) (piece_body m) runs_long e)

  pub question_run : Passes (run_checks r) → Passes (run_checks s) → r ≡ s
  question_run p q = runs.run_one (run_block r) r s (runs.good_in r p) (runs.block_in (run_block r) s (record { good = q; same = same_run }))

  pub question_piece : Passes (piece_checks k) → Passes (piece_checks m) → k ≡ m
  question_piece p q = pieces.piece_one (piece_block k) k m (pieces.good_in k p) (pieces.block_in (piece_block k) m same_piece q)

-- ---- entries
four_one : (c d : ℕ) → c < 4294967296 → d < 4294967296 → four c ≡ four d → c ≡ d
four_one c d h k e = code_of c h ∙ ap (λ (l : List ℕ). byte l 0 + 256 * byte l 1 + 65536 * byte l 2 + 16777216 * byte l 3) e ∙ sym (code_of d k)

block_fronts : (l m : List ℕ) → length l ≡ length m → block_of l ≡ block_of m → l ≡ m
unfolding block_of filled
block_fronts l m n e = fronts l m _ _ n (sym (append_assoc l _ _) ∙ e ∙ append_assoc m _ _)

-- an entry has one key, and one code
module _ (key other : List ℕ) (c d : ℕ) (n : length key ≡ length other) (e : entry_of key c ≡ entry_of other d) where
  as_long_named : length (opening key ++ four c) ≡ length (opening other ++ four d)
  as_long_named = omega (arith, length-append key (four c), length-append other (four d))

  entry_named : key ++ four c ≡ other ++ four d
  unfolding entry_of
  entry_named = ap (drop 2) (block_fronts (opening key ++ four c) (opening other ++ four d) as_long_named e)

  pub entry_key : key ≡ other
  entry_key = fronts key other (four c) (four d) n entry_named

  pub entry_code : c < 4294967296 → d < 4294967296 → c ≡ d
  entry_code h g = four_one c d h g (backs key other (four c) (four d) n entry_named)
