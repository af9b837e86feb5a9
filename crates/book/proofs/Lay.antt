-- The first bytes of an entry, laid out. Assumes nothing.
use mathlib.Core.Path.{◌≡◌, sym, ap, ◌∙◌}
use mathlib.Core.List.{List, ◌++◌, append_assoc}
use Prim.Native.Nat.{ℕ, suc, ◌+◌, ◌*◌, ◌-◌, ◌%◌, ◌≤◌, ◌<◌}
use native.Mathlib.Omega.{arith}
use lib.ListN.{length, set, take, replicate, length-append}
use lib.Seq.{take_at, take_all}
use Rattle.rules.specs.Reach.{Run, Piece}
use Rattle.rules.specs.Refusal.{Passes}
use Rattle.rules.specs.Good.{piece_checks}
use Rattle.block.specs.Layout.{run_body_size, run_body}
use Rattle.piece_block.specs.Layout.{piece_front, piece_body}
use Rattle.seal.specs.Seal.{byte, sum, filled}
use Rattle.seal.proofs.Bytes.{sum_same}
use Rattle.block.proofs.Bodies.{run_body_length}
use Rattle.piece_block.proofs.Bodies.{front_length}
use Rattle.seal.proofs.Replaced.{mid, mid_length, mid_front, two_length, two_then}
use Rattle.book.specs.Entry.{slots, key_length, piece_at, piece_length, code_at, kind, opening, question, home}
use Rattle.book.specs.Steps.{first_bytes, Begun}
use Rattle.book.proofs.Question.{good_length}

abbrev pub zeros : ℕ → List ℕ
zeros n = replicate n 0

-- ---- zeros after the corners
module _ (r : Run) (k : Piece) (few : length k.corners ≤ 128) where
  abbrev named : List ℕ
  named = opening (run_body r) ++ piece_front k

  named_length : length named ≡ piece_at + (11 + 2 * length k.corners)
  named_length = omega (arith, length-append (opening (run_body r)) (piece_front k), run_body_length r, front_length k)

  padded : opening (question r k) ≡ filled code_at named
  unfolding question piece_body filled
  padded =
      let e : piece_length - length (piece_front k) ≡ code_at - length named = omega (arith, named_length, front_length k) in
      sym (append_assoc (opening (run_body r)) (piece_front k) (zeros (piece_length - length (piece_front k)))) ∙ ap (λ n. named ++ zeros n) e

  before_zeros : (n : ℕ) → length named ≡ n → take n (opening (question r k)) ≡ named
  unfolding filled
  before_zeros n e = ap (take n) padded ∙ take_at named (zeros (code_at - length named)) n e

  first_bytes_are : (end : ℕ) → end ≡ piece_at + (11 + 2 * length k.corners) → first_bytes (opening (question r k)) end ≡ opening (question r k)
  unfolding first_bytes
  first_bytes_are end e = ap (filled code_at) (before_zeros end (named_length ∙ sym e)) ∙ sym padded

-- ---- the run's bytes, and the piece's after them
module _ (r : Run) (front bytes : List ℕ) (z : length front ≡ code_at) (h : bytes ≡ run_body r) where
  abbrev headed : List ℕ
  headed = mid 2 run_body_size (set (set front 0 kind) 1 0) bytes

  bytes_length : length bytes ≡ run_body_size
  bytes_length = ap length h ∙ run_body_length r

  fits : 2 + run_body_size ≤ length front
  fits = omega (arith, z)

  pub headed_length : length headed ≡ code_at
  headed_length = two_length front bytes kind 0 run_body_size fits bytes_length ∙ z

  head : take piece_at headed ≡ opening (run_body r)
  head = two_then front bytes kind 0 run_body_size fits bytes_length ∙ ap opening h

  module _ (k : Piece) (body : List ℕ) (n : length body ≡ piece_length) where
    abbrev both : List ℕ
    both = mid piece_at piece_length headed body

    pub both_length : length both ≡ code_at
    both_length = mid_length headed body piece_at piece_length (omega (arith, headed_length)) n ∙ headed_length

    module _ (e : body ≡ piece_body k) (few : length k.corners ≤ 128) where
      first : both ≡ opening (question r k)
      unfolding question
      first =
          sym (take_all code_at both (omega (arith, both_length)))
          ∙ mid_front headed body piece_at piece_length (omega (arith, headed_length)) n
          ∙ ap (λ (a : List ℕ). a ++ body) head
          ∙ ap (λ (a : List ℕ). opening (run_body r) ++ a) e

      pub begin : (end : ℕ) → end ≡ piece_at + (11 + 2 * length k.corners) → Begun r k both end
      begin end q = record {
        within = omega arith;
        first = λ p. first;
        zeros = λ p. ap (λ (a : List ℕ). first_bytes a end) first ∙ first_bytes_are r k few end q;
      }

-- nothing is promised of another piece
pub begin_bad : (r : Run) (k : Piece) (front : List ℕ) → (Passes (piece_checks k) → ⊥) → Begun r k front piece_at
begin_bad r k front f = record { within = omega arith; first = λ p. absurd (f p); zeros = λ p. absurd (f p) }

-- ---- the home slot
pub home_is : (book front : List ℕ) (r : Run) (k : Piece) → Passes (piece_checks k) → front ≡ opening (question r k) → sum (λ i. byte front (2 + i)) key_length % slots book ≡ home book r k
unfolding home
home_is book front r k p e =
    ap (λ n. n % slots book) (sum_same (λ i. byte front (2 + i)) (byte (question r k)) key_length at ∙ ap (sum (byte (question r k))) (sym (good_length r k p)))
  where
    at : (i : ℕ) → i < key_length → byte front (2 + i) ≡ byte (question r k) i
    at i g = let two : 2 + i ≡ suc (suc i) = omega arith in ap (λ (l : List ℕ). byte l (2 + i)) e ∙ ap (byte (opening (question r k))) two
