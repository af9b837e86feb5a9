-- One text answers an input. Assumes nothing.
use mathlib.Core.Path.{◌≡◌, refl, sym, ap, ◌∙◌, subst}
use mathlib.Core.Logic.{◌⊎◌, inl, inr}
use mathlib.Core.List.{List}
use Prim.Native.Nat.{ℕ, zero, suc, ◌<◌}
use native.Mathlib.Omega.{arith}
use lib.ListN.{get_or}
use Rattle.rules.specs.Reach.{Run}
use Rattle.rules.specs.Refusal.{Refusal, Check, Passes, Fault}
use Rattle.rules.proofs.Checks.{AllDefinite, definite_demand, never_both, one_fault}
use Rattle.block.specs.Reading.{run_block_checks, RunGood}
use Rattle.block.proofs.RunLaws.{run_one, block_in, block_passes}
use Rattle.block.proofs.OneFault.{definite_run_block}
use Rattle.room.specs.Image.{count, room_checks}
use Rattle.room.proofs.Unique.{definite_room, code_one}
use Rattle.notice.specs.Notice.{run_line, room_line}
use Rattle.shade.specs.Text.{piece_lines, page, Whole, length_checks, run_part, room_part, Page, Answers, bad_length, bad_run, bad_room, verdicts}

-- ---- the same codes, the same page
lines_one : (l m : List ℕ) (n : ℕ) → ((i : ℕ) → i < n → get_or l i 0 ≡ get_or m i 0) → piece_lines l n ≡ piece_lines m n
unfolding piece_lines
lines_one l m zero h = refl
lines_one l m (suc n) h =
    let e = lines_one l m n (λ i k. h i (omega arith)) in let f = h n (omega arith) in rw (e, f)

page_one : (l m : List ℕ) (n : ℕ) → ((i : ℕ) → i < n → get_or l i 0 ≡ get_or m i 0) → page l n ≡ page m n
unfolding page
page_one l m n h = rw (lines_one l m n h)

-- ---- checks, and what comes after them
-- the line of the first fault
record Bad (cs : List Check) (line : Refusal → List ℕ) (out : List ℕ) : Type 0 where
  pub refusal : Refusal
  pub fault : Fault cs refusal
  pub text : out ≡ line refusal

abbrev Stage : List Check → (Refusal → List ℕ) → (List ℕ → Type 0) → List ℕ → Type 0
Stage cs line After out = Bad cs line out ⊎ (Passes cs × After out)

-- one text, where one comes after
module _ (cs : List Check) (definite : AllDefinite cs) (line : Refusal → List ℕ) (After : List ℕ → Type 0) where
  stage_one : ((a b : List ℕ) → After a → After b → a ≡ b) → (a b : List ℕ) → Stage cs line After a → Stage cs line After b → a ≡ b
  stage_one one a b (inl f) (inl g) = f.text ∙ (ap line (one_fault cs definite f.refusal g.refusal f.fault g.fault) ∙ sym g.text)
  stage_one one a b (inl f) (inr g) = absurd (never_both cs definite f.refusal g.0 f.fault)
  stage_one one a b (inr f) (inl g) = absurd (never_both cs definite g.refusal f.0 g.fault)
  stage_one one a b (inr f) (inr g) = one a b f.1 g.1

-- ---- the length, then the run, then the room
module _ (input : List ℕ) where
  -- the room, on a good run
  abbrev Roomed : Run → List ℕ → Type 0
  Roomed r = Stage (room_checks (room_part input)) room_line (Page r input)

  record Ran (out : List ℕ) : Type 0 where
    pub run : Run
    pub good : RunGood (run_part input) run
    pub room : Roomed run out

  abbrev Staged : List ℕ → Type 0
  Staged = Stage (length_checks input) room_line (Stage (run_block_checks (run_part input)) run_line Ran)

  ran : (out : List ℕ) → Whole input → (r : Run) → RunGood (run_part input) r → Roomed r out → Staged out
  unfolding length_checks
  ran out w r g e = inr ((w, tt), inr (block_passes (run_part input) r g, record { run = r; good = g; room = e }))

  staged : (out : List ℕ) → Answers input out → Staged out
  unfolding length_checks
  staged out (bad_length x f e) = inl (record { refusal = x; fault = f; text = e })
  staged out (bad_run w x f e) = inr ((w, tt), inl (record { refusal = x; fault = f; text = e }))
  staged out (bad_room w r g x f e) = ran out w r g (inl (record { refusal = x; fault = f; text = e }))
  staged out (verdicts w r g p) = ran out w r g (inr (p.room, p))

  -- ---- one text
  same_page : (r : Run) (a b : List ℕ) → Page r input a → Page r input b → a ≡ b
  same_page r a b p q =
      p.text
      ∙ (page_one p.codes q.codes (count (room_part input)) (λ i h. code_one r (room_part input) i _ _ (p.each i h) (q.each i h)) ∙ sym q.text)

  same_run : (a b : List ℕ) → Ran a → Ran b → a ≡ b
  same_run a b f g =
      let e = run_one (run_part input) f.run g.run (block_in (run_part input) f.run f.good) (block_in (run_part input) g.run g.good) in
      stage_one (room_checks (room_part input)) (definite_room (room_part input)) room_line (Page g.run input) (same_page g.run) a b (subst (λ r. Roomed r a) e f.room) g.room

  definite_length : AllDefinite (length_checks input)
  unfolding length_checks
  definite_length = (definite_demand _ _, tt)

  pub one_text : (a b : List ℕ) → Answers input a → Answers input b → a ≡ b
  one_text a b f g =
      let run = run_part input in let ran = stage_one (run_block_checks run) (definite_run_block run) run_line Ran same_run in
      stage_one (length_checks input) definite_length room_line _ ran a b (staged a f) (staged b g)
