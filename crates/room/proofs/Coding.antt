-- Laws of the pass over a room: a code for each piece, and the codes in the lent list. Assumes nothing.
use Rattle.std.specs.Prelude.{Ok, Err, Some, None}
use mathlib.Core.Path.{◌≡◌, refl, sym, ap, ◌∙◌}
use mathlib.Core.Logic.{inl}
use mathlib.Core.List.{List, [], ◌∷◌, ◌++◌}
use Prim.Native.Nat.{ℕ, suc, ◌+◌, ◌≤◌, ◌<◌}
use native.Mathlib.Omega.{arith}
use native.Mathlib.Numerals.{add-one}
use borrow.Author.Count.{below_more}
use lib.ListN.{length, get_or, set, take, drop}
use lib.Seq.{length-take-le, get_or-take, get_or-set_same, get_or-set_other}
use Rattle.whole.specs.Front.{fronted}
use Rattle.whole.proofs.Front.{front_made}
use Rattle.rules.specs.Reach.{Run}
use Rattle.rules.specs.Refusal.{refuse, Check, Passes, Fault, demand}
use Rattle.rules.specs.Good.{run_checks, piece_checks}
use Rattle.rules.specs.Verdict.{blocked, verdict_checks}
use Rattle.rules.proofs.Checks.{passes_append, fault_left, fault_right}
use Rattle.refusal.specs.declared.Refusal.{Refusal}
use Rattle.refusal.specs.declared.Refusal.TheVariants.{Short}
use Rattle.refusal.specs.Said.{said, said_in}
use Rattle.piece.specs.Tells.{Verdict}
use Rattle.piece.specs.Tells.{coded_of}
use Rattle.piece.proofs.Tells.{tells_code}
use Rattle.piece_block.specs.Reading.{piece_block_checks}
use Rattle.piece_block.specs.Verdicts.{VerdictOn, verdict_in_checks, VerdictInSays}
use Rattle.seal.proofs.Blocks.{nth_length}
use Rattle.piece_block.proofs.PieceLaws.{block_passes}
use Rattle.piece_block.proofs.VerdictLaws.{block_refused}
use Rattle.seal.specs.Seal.{block_at}
use Rattle.room.specs.Image.{count, head_checks, Has, FirstRefused, pieces_check, room_checks, room_said, Unblocked}
use Rattle.room.specs.declared.RoomRefusal.{RoomRefusal}
use Rattle.room.specs.Verdicts.{verdicts_checks, CodeOf, Filled, VerdictsSay}
use Rattle.room.specs.Codes.{CodeFound, CodesTo, AllCoded}
use Rattle.room.proofs.Images.{has_long}

-- ---- the code of a piece
module _ (r : Run) (image : List ℕ) (i : ℕ) where
  code_mark : (k : ℕ) → VerdictOn r (block_at image (suc i)) (blocked k) → CodeOf r image i k
  unfolding verdict_checks
  code_mark k v = record {
    run = v.run;
    piece = v.piece;
    same = v.same;
    good = v.good;
    verdict = (tells_code r v.piece (Ok (Some k)) (passes_append (run_checks r) (piece_checks v.piece) v.run v.good, v.verdict)).verdict;
  }

  -- the run is good and the block whole, so what the block says is refused
  code_none : Passes (run_checks r) → Has image i → (x : Refusal) → Fault (verdict_in_checks r (block_at image (suc i))) (said x) → Fault (piece_block_checks (block_at image (suc i))) (said x)
  code_none good has x f =
      let h = has_long image i has in
      block_refused r (block_at image (suc i)) (nth_length image (suc i) (omega arith)) x good f

  pub code_found : Passes (run_checks r) → Has image i → (v : Verdict) → VerdictInSays r (block_at image (suc i)) v → CodeFound r image i (coded_of v)
  code_found good has (Ok None) h = h
  code_found good has (Ok (Some k)) h = code_mark k h
  code_found good has (Err x) h = code_none good has x h

-- a piece that has a code passes
pub code_passes : (r : Run) (image : List ℕ) (i c : ℕ) → CodeOf r image i c → Passes (piece_block_checks (block_at image (suc i)))
code_passes r image i c h = block_passes (block_at image (suc i)) h.piece h.same h.good

module _ (r : Run) (image : List ℕ) where
  pub codes_more : (codes : List ℕ) (i c : ℕ) → i < length codes → CodesTo r image codes i → CodeOf r image i c → CodesTo r image (set codes i c) (i + 1)
  codes_more codes i c l h new =
      below_more (λ j. CodeOf r image j (get_or (set codes i c) j 0)) i
      (λ j k. rw (get_or-set_other codes i j c 0 (λ e. omega arith)) (h j k))
      (rw (get_or-set_same codes i c 0 l) new)

  -- every piece passes where the pieces have codes
  pub codes_pass : (codes : List ℕ) → Passes (head_checks image) → CodesTo r image codes (count image) → Passes (room_checks image)
  unfolding room_checks
  codes_pass codes p h = passes_append (head_checks image) (pieces_check piece_block_checks image ∷ []) p (λ i k. code_passes r image i (get_or codes i 0) (h i k), tt)

  -- the first piece that is refused
  pub codes_stop : (codes : List ℕ) (i : ℕ) (x : RoomRefusal) → Has image i → CodesTo r image codes i → x.block ≡ i + 1
      → Fault (piece_block_checks (block_at image (suc i))) (said x.refusal) → Fault (room_checks image) (room_said x)
  unfolding room_checks
  codes_stop codes i x has h e f =
      rw (e ∙ add-one i) (fault_right (head_checks image) (pieces_check piece_block_checks image ∷ []) (said_in x.refusal (suc i)) has.head (inl first))
    where
      first : FirstRefused piece_block_checks image (count image) (said_in x.refusal (suc i))
      first = record { piece = i; below = has.below; before = λ j k. code_passes r image j (get_or codes j 0) (h j k); refusal = said x.refusal; fault = f; same = refl }

-- a fault of the head is one of the room
pub head_fault : (image : List ℕ) (x : RoomRefusal) → Fault (head_checks image) (room_said x) → Fault (room_checks image) (room_said x)
unfolding room_checks
head_fault image x f = fault_left (head_checks image) (pieces_check piece_block_checks image ∷ []) (room_said x) f

-- ---- the verdicts
module _ (r : Run) (image : List ℕ) where
  -- the demand on the lent list
  abbrev last : List ℕ → List Check
  last list = demand (count image ≤ length list) (refuse 10 0 0) ∷ []

  pub run_refused : (list : List ℕ) (x : Refusal) → Fault (run_checks r) (said x) → (y : RoomRefusal) → Unblocked x y → VerdictsSay r image list list (Err y)
  unfolding verdicts_checks
  run_refused list x f y e = rw e (fault_left (run_checks r) (room_checks image ++ last list) (said x) f, refl)

  module _ (good : Passes (run_checks r)) where
    pub room_refused : (list : List ℕ) (x : RoomRefusal) → Fault (room_checks image) (room_said x) → VerdictsSay r image list list (Err x)
    unfolding verdicts_checks
    room_refused list x f =
        (fault_right (run_checks r) (room_checks image ++ last list) (room_said x) good (fault_left (room_checks image) (last list) (room_said x) f), refl)

    module _ (codes : List ℕ) (n : ℕ) (e : n ≡ count image) (all : AllCoded r image codes) where
      pub list_short : (list : List ℕ) → length list < n → (x : RoomRefusal) → Unblocked Short x → VerdictsSay r image list list (Err x)
      unfolding verdicts_checks
      list_short list h x u =
          rw u (
            fault_right (run_checks r) (room_checks image ++ last list) (refuse 10 0 0) good
                (fault_right (room_checks image) (last list) (refuse 10 0 0) all.passes (inl (λ k. omega arith, refl))),
            refl,
          )

      -- the list begins with the codes
      pub list_filled : (before after : List ℕ) → n ≤ length before → after ≡ take n codes ++ drop n before → Filled r image before after n
      unfolding verdicts_checks
      list_filled before after h s =
          let long : length (take n codes) ≡ n = length-take-le n codes (let m = all.room in omega arith) in
          let made = front_made 0 (take n codes) before (omega arith) in
          let same : after ≡ fronted (take n codes) before = s ∙ ap (λ j. take n codes ++ drop j before) (sym long) in
          record {
            passes = passes_append (run_checks r) (room_checks image ++ last before) good (passes_append (room_checks image) (last before) all.passes (omega arith, tt));
            pieces = e;
            verdicts = λ i k. let l : i < n = omega arith in rw (same, made.first i (omega arith), get_or-take n codes i 0 l) (all.coded i k);
            stays = record { size = ap length same ∙ made.stays.size; rest = λ i k. ap (λ (l : List ℕ). get_or l i 0) same ∙ made.stays.rest i (omega arith) };
          }
