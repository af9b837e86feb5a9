-- At most one step, and at most one answer and list of verdicts, meet their contracts; and the end and a refusal repeat. Assumes nothing.
use Rattle.std.specs.Prelude.{Some, None, Ok, Err}
use mathlib.Core.Path.{◌≡◌, refl, sym, ap, subst, ◌∙◌}
use mathlib.Core.List.{List}
use Prim.Native.Nat.{ℕ, suc, ◌≤◌, ◌<◌}
use native.Mathlib.Omega.{arith}
use lib.ListN.{get_or}
use denote.Ref.{Bor}
use Rattle.whole.proofs.Front.{stays_one}
use Rattle.rules.specs.Reach.{Run}
use Rattle.rules.specs.Refusal as rules
use Rattle.rules.specs.Refusal.{Check, Passes, Fault, in_block}
use Rattle.rules.specs.Good.{run_checks}
use Rattle.rules.specs.Verdict.{answer}
use Rattle.rules.proofs.Checks.{only, Definite, AllDefinite, never_both, one_fault, definite_demand, definite_append}
use Rattle.rules.proofs.Good.{definite_run}
use Rattle.rules.proofs.Verdict.{answer_one}
use Rattle.refusal.proofs.Unique.{said_one}
use Rattle.block.specs.Reading.{header_checks}
use Rattle.piece_block.specs.Reading.{piece_block_checks}
use Rattle.piece_block.specs.declared.PieceRead.{PieceRead}
use Rattle.piece_block.proofs.PieceLaws.{block_passes}
use Rattle.block.proofs.OneFault.{definite_header}
use Rattle.piece_block.proofs.OneFault.{definite_piece_block}
use Rattle.piece_block.proofs.Unique.{read_piece_one, verdict_on_one}
use Rattle.room.specs.declared.RoomRefusal.{RoomRefusal}
use Rattle.room.specs.declared.Reader.{Reader}
use Rattle.room.specs.declared.Step.{Step}
use Rattle.seal.specs.Seal.{block_at}
use Rattle.room.specs.Image.{count, head_checks, FirstRefused, pieces_check, room_checks, room_said, Counted}
use Rattle.room.specs.Step.{ReaderAt, Gives, Ends, StepFault, head, block, Found, StepFinds, StepSays}
use Rattle.room.specs.Verdicts.{verdicts_checks, CodeOf, Filled, VerdictsSay}

-- ---- the checks are definite
pub definite_head : (image : List ℕ) → AllDefinite (head_checks image)
unfolding head_checks
definite_head image = (definite_demand _ _, definite_append (header_checks (block_at image 0)) _ (definite_header (block_at image 0)) (definite_demand _ _, tt))

module _ (checks : List ℕ → List Check) (definite : (l : List ℕ) → AllDefinite (checks l)) (image : List ℕ) where
  -- a piece does not pass and fail
  clash : (i : ℕ) (r : rules.Refusal) → Passes (checks (block_at image (suc i))) → Fault (checks (block_at image (suc i))) r → ⊥
  clash i r p f = never_both (checks (block_at image (suc i))) (definite (block_at image (suc i))) r p f

  -- the first that is refused is one, and so is its refusal
  first_one : (n : ℕ) (s t : rules.Refusal) → FirstRefused checks image n s → FirstRefused checks image n t → s ≡ t
  first_one n s t f g =
      let i = f.piece in let j = g.piece in
      let e = only i j (λ l. clash i f.refusal (g.before i l) f.fault) (λ l. clash j g.refusal (f.before j l) g.fault) in
      let there = subst (λ (k : ℕ). Fault (checks (block_at image (suc k))) f.refusal) e f.fault in
      f.same ∙ alike e (one_fault (checks (block_at image (suc j))) (definite (block_at image (suc j))) f.refusal g.refusal there g.fault) ∙ sym g.same
    where
      alike : {i j : ℕ} {r q : rules.Refusal} → i ≡ j → r ≡ q → in_block (suc i) r ≡ in_block (suc j) q
      alike e f = rw (e, f)

  pub definite_pieces : Definite (pieces_check checks image)
  definite_pieces = record { never = λ s p f. clash f.piece f.refusal (p f.piece f.below) f.fault; one = first_one (count image) }

pub definite_room : (image : List ℕ) → AllDefinite (room_checks image)
unfolding room_checks
definite_room image = definite_append (head_checks image) _ (definite_head image) (definite_pieces piece_block_checks definite_piece_block image, tt)

pub definite_verdicts : (r : Run) (image list : List ℕ) → AllDefinite (verdicts_checks r image list)
unfolding verdicts_checks
definite_verdicts r image list = definite_append (run_checks r) _ (definite_run r) (definite_append (room_checks image) _ (definite_room image) (definite_demand _ _, tt))

-- ---- a refusal and its block are told by what they say
refusal_one : (x y : RoomRefusal) → room_said x ≡ room_said y → x ≡ y
refusal_one x y e = λ i. record { refusal = said_one x.refusal y.refusal (ap (in_block 0) e) i; block = ap (λ (r : rules.Refusal). r.block) e i }

-- ---- steps
same_step : (s t : Step) → s.found ≡ t.found → s.next ≡ t.next → s ≡ t
same_step s t d n = λ i. record { found = d i; next = n i }

module _ (image : List ℕ) (place : ℕ) where
  -- the block of the place
  abbrev here : List ℕ
  here = block_at image (suc place)

  -- a place is not below the count and past it
  past : (n : ℕ) → place < n → n ≤ place → ⊥
  past n h g = omega arith

  fault_one : (r s : rules.Refusal) → StepFault image place r → StepFault image place s → r ≡ s
  fault_one r s (head f) (head g) = one_fault (head_checks image) (definite_head image) r s f g
  fault_one r s (head f) (block p l x g e) = absurd (never_both (head_checks image) (definite_head image) r p f)
  fault_one r s (block p l x f e) (head g) = absurd (never_both (head_checks image) (definite_head image) s p g)
  fault_one r s (block p l x f e) (block q m y g d) = e ∙ ap (in_block (suc place)) (one_fault (piece_block_checks here) (definite_piece_block here) x y f g) ∙ sym d

  -- no fault where a piece is given
  gives_faultless : (p : PieceRead) (s : Step) → Gives image place p s → (r : rules.Refusal) → StepFault image place r → ⊥
  gives_faultless p s g r (head f) = never_both (head_checks image) (definite_head image) r g.head f
  gives_faultless p s g r (block q l x f e) = never_both (piece_block_checks here) (definite_piece_block here) x (block_passes here g.good.piece g.good.same g.good.good) f

  -- nor at the end
  ends_faultless : (s : Step) → Ends image place s → (r : rules.Refusal) → StepFault image place r → ⊥
  ends_faultless s g r (head f) = never_both (head_checks image) (definite_head image) r g.head f
  ends_faultless s g r (block q l x f e) = past (count image) l g.past

  -- the same is found, and so the next place is the same
  found_one : (s t : Step) (f g : Found) → StepFinds image place s f → StepFinds image place t g → (f ≡ g) × (s.next ≡ t.next)
  found_one s t (Ok (Some p)) (Ok (Some q)) f g = let e = read_piece_one here (Ok p) (Ok q) f.good g.good in (cc, f.next ∙ sym g.next)
  found_one s t (Ok (Some p)) (Ok None) f g = absurd (past (count image) f.below g.past)
  found_one s t (Ok (Some p)) (Err y) f g = absurd (gives_faultless p s f (room_said y) g.fault)
  found_one s t (Ok None) (Ok (Some q)) f g = absurd (past (count image) g.below f.past)
  found_one s t (Ok None) (Ok None) f g = (refl, f.next ∙ sym g.next)
  found_one s t (Ok None) (Err y) f g = absurd (ends_faultless s f (room_said y) g.fault)
  found_one s t (Err x) (Ok (Some q)) f g = absurd (gives_faultless q t g (room_said x) f.fault)
  found_one s t (Err x) (Ok None) f g = absurd (ends_faultless t g (room_said x) f.fault)
  found_one s t (Err x) (Err y) f g = (ap Err (refusal_one x y (fault_one (room_said x) (room_said y) f.fault g.fault)), f.next ∙ sym g.next)

  -- at most one step
  pub step_one : (s t : Step) → StepSays image place s → StepSays image place t → s ≡ t
  step_one s t f g = let q = found_one s t s.found t.found f g in same_step s t q.0 q.1

  -- a step that goes on at its own place repeats
  again : (s t : Step) → s.next ≡ place → StepSays image place s → StepSays image s.next t → t ≡ s
  again s t e f g = step_one t s (subst (λ (n : ℕ). StepSays image n t) e g) f

  -- so the end repeats, and so does a refusal
  pub end_again : (s t : Step) → s.found ≡ Ok None → StepSays image place s → StepSays image s.next t → t ≡ s
  end_again s t e f = again s t (subst (StepFinds image place s) e f).next f

  pub refusal_again : (s t : Step) (r : RoomRefusal) → s.found ≡ Err r → StepSays image place s → StepSays image s.next t → t ≡ s
  refusal_again s t r e f = again s t (subst (StepFinds image place s) e f).next f

-- a reader is its image and its place
pub reader_one : (image : Bor (List ℕ)) (place : ℕ) (r s : Reader) → ReaderAt image place r → ReaderAt image place s → r ≡ s
reader_one image place r s f g = λ i. record { image = (f.keeps ∙ sym g.keeps) i; place = (f.stands ∙ sym g.stands) i }

-- ---- verdicts
module _ (r : Run) (image : List ℕ) where
  pub code_one : (i c d : ℕ) → CodeOf r image i c → CodeOf r image i d → c ≡ d
  code_one i c d h g = answer_one c d (verdict_on_one r (block_at image (suc i)) (answer c) (answer d) h g)

  list_one : (before a b : List ℕ) (m n : ℕ) → Filled r image before a m → Filled r image before b n → a ≡ b
  list_one before a b m n f g = stays_one 0 (count image) before a b f.stays g.stays (λ i h. code_one i (get_or a i 0) (get_or b i 0) (f.verdicts i h) (g.verdicts i h))

  -- at most one answer, and one later content of the list
  pub verdicts_one : (before a b : List ℕ) (x y : Counted) → VerdictsSay r image before a x → VerdictsSay r image before b y → (x ≡ y) × (a ≡ b)
  verdicts_one before a b (Ok m) (Ok n) f g = (ap Ok (f.pieces ∙ sym g.pieces), list_one before a b m n f g)
  verdicts_one before a b (Ok m) (Err y) f g = absurd (never_both (verdicts_checks r image before) (definite_verdicts r image before) (room_said y) f.passes g.0)
  verdicts_one before a b (Err x) (Ok n) f g = absurd (never_both (verdicts_checks r image before) (definite_verdicts r image before) (room_said x) g.passes f.0)
  verdicts_one before a b (Err x) (Err y) f g =
      (ap Err (refusal_one x y (one_fault (verdicts_checks r image before) (definite_verdicts r image before) (room_said x) (room_said y) f.0 g.0)), f.1 ∙ sym g.1)
