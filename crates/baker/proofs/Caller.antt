-- What a C caller knows from the macros alone, where BAKER_REFUSED says 0. Assumes nothing.
use Rattle.std.specs.Prelude.{None, Some, Result, Ok, Err}
use mathlib.Core.Path.{◌≡◌, sym, subst}
use mathlib.Core.Logic.{◌⊎◌, inl, inr, ⊎_elim}
use mathlib.Core.List.{List}
use Prim.Native.Nat.{ℕ}
use native.Mathlib.Omega.{arith}
use lib.IntN.{ℤ}
use lib.Ieee.{Float}
use Rattle.rules.specs.Reach.{Run, Piece}
use Rattle.rules.specs.Good.{run_checks, piece_checks}
use Rattle.rules.specs.Verdict as rules
use Rattle.rules.specs.Verdict.{NONE, answer}
use Rattle.refusal.specs.declared.Refusal.{Refusal}
use Rattle.refusal.specs.Said.{Checked, Finds, Writes}
use Rattle.piece.specs.Tells.{Verdict, Tells}
use Rattle.piece.proofs.Tells.{tells_code}
use Rattle.block.specs.Layout.{header_block, run_block}
use Rattle.piece_block.specs.Layout.{piece_block}
use Rattle.block.specs.Reading.{HeaderRead, header_asked, run_asked, HeaderSays}
use Rattle.piece_block.specs.Reading.{piece_asked}
use Rattle.obj.specs.File.{Outline, Drawn, ObjSays}
use Rattle.room.specs.Image.{Counted}
use Rattle.room.specs.Verdicts.{Filled, VerdictsSay}
use Rattle.book.specs.Ask.{AskSays, Hits, Misses, Kept}
use Rattle.book.specs.declared.Asked.{Asked}
use Rattle.book.specs.declared.Asked.TheVariants as asked
use Rattle.book.proofs.Kept.{true_hit}
use Rattle.coding.specs.Macros as macro
use Rattle.coding.specs.Coded.{Coded, checked_means, verdict_means, header_means, counted_means, asked_means, outline_means, checked_code}
use Rattle.coding.specs.Told.{Macros, Reads}
use Rattle.baker.specs.Export.{Exported}
use Rattle.baker.specs.Calls.{CheckRunGives, CheckPieceGives, VerdictGives, WriteHeaderGives, WriteRunGives, WritePieceGives, ReadHeaderGives, RoomVerdictsGives, AskGives, IntakeGives, ObjGives}
use Rattle.baker.proofs.Read.{check_run_read, check_piece_read, verdict_read, write_header_read, write_run_read}
use Rattle.baker.proofs.Read.{write_piece_read, read_header_read, room_verdicts_read, ask_read, intake_read, obj_read}

-- of a call that only checks, writes or takes in: every check passed, and what was lent is what was to be made
module _ (S : Checked → Type 0) (c : ℕ) (z : macro.refused c ≡ 0) where
  good : (h : Coded S checked_code c) → Reads c (checked_means h.answer) → S (Ok tt)
  good h k = by_case h.answer h.says k.macros
    where
      by_case : (x : Checked) → S x → Macros c (checked_means x) → S (Ok tt)
      by_case (Ok _) t m = t
      by_case (Err x) t m = let e = m.refused in absurd (omega arith)

pub check_run_good : (r : Run) (c : ℕ) → macro.refused c ≡ 0 → CheckRunGives r c → Finds (run_checks r) (Ok tt)
check_run_good r c z h = good (Finds (run_checks r)) c z h (check_run_read r c h)

pub check_piece_good : (k : Piece) (c : ℕ) → macro.refused c ≡ 0 → CheckPieceGives k c → Finds (piece_checks k) (Ok tt)
check_piece_good k c z h = good (Finds (piece_checks k)) c z h (check_piece_read k c h)

pub write_header_good : (n : ℕ) (before after : List ℕ) (c : ℕ) → macro.refused c ≡ 0 → WriteHeaderGives n before after c → Writes (header_asked before n) (header_block n) before after (Ok tt)
write_header_good n before after c z h = good (Writes (header_asked before n) (header_block n) before after) c z h (write_header_read n before after c h)

pub write_run_good : (r : Run) (before after : List ℕ) (c : ℕ) → macro.refused c ≡ 0 → WriteRunGives r before after c → Writes (run_asked before r) (run_block r) before after (Ok tt)
write_run_good r before after c z h = good (Writes (run_asked before r) (run_block r) before after) c z h (write_run_read r before after c h)

pub write_piece_good : (k : Piece) (before after : List ℕ) (c : ℕ) → macro.refused c ≡ 0 → WritePieceGives k before after c → Writes (piece_asked before k) (piece_block k) before after (Ok tt)
write_piece_good k before after c z h = good (Writes (piece_asked before k) (piece_block k) before after) c z h (write_piece_read k before after c h)

pub intake_good : (xs : List Float) (before after : List ℤ) (c : ℕ) → macro.refused c ≡ 0 → IntakeGives xs before after c → Exported xs before after (Ok tt)
intake_good xs before after c z h = good (Exported xs before after) c z h (intake_read xs before after c h)

-- of a code that is read
coded : (r : Run) (k : Piece) (c n : ℕ) → c ≡ n → rules.Verdict r k (answer n) → rules.Verdict r k (answer c)
coded r k c n e v = subst (λ (m : ℕ). rules.Verdict r k (answer m)) (sym e) v

-- of baker_verdict: BAKER_VALUE is the code of the verdict
pub verdict_value : (r : Run) (k : Piece) (c : ℕ) → VerdictGives r k c → macro.refused c ≡ 0 → rules.Verdict r k (answer (macro.value c))
verdict_value r k c h z = by_case h.answer h.says (verdict_read r k c h).macros
  where
    by_case : (x : Verdict) → Tells r k x → Macros c (verdict_means x) → rules.Verdict r k (answer (macro.value c))
    by_case (Ok None) t m = let w = tells_code r k (Ok None) t in coded r k (macro.value c) NONE m.value w.verdict
    by_case (Ok (Some n)) t m = let w = tells_code r k (Ok (Some n)) t in coded r k (macro.value c) n m.value w.verdict
    by_case (Err x) t m = let e = m.refused in absurd (omega arith)

-- of baker_read_header, baker_room_verdicts and baker_obj: it is the count
pub read_header_value : (l : List ℕ) (c : ℕ) → ReadHeaderGives l c → macro.refused c ≡ 0 → HeaderSays l (Ok (macro.value c))
read_header_value l c h z = by_case h.answer h.says (read_header_read l c h).macros
  where
    by_case : (x : HeaderRead) → HeaderSays l x → Macros c (header_means x) → HeaderSays l (Ok (macro.value c))
    by_case (Ok n) t m = subst (λ (i : ℕ). HeaderSays l (Ok i)) (sym m.value) t
    by_case (Err x) t m = let e = m.refused in absurd (omega arith)

pub obj_value : (file : List ℕ) (k : List ℤ → Piece) (before after : List ℤ) (c : ℕ) → ObjGives file k before after c → macro.refused c ≡ 0 → Drawn file k before after (macro.value c)
obj_value file k before after c h z = by_case h.answer h.says (obj_read file k before after c h).macros
  where
    by_case : (x : Outline) → ObjSays file k before after x → Macros c (outline_means x) → Drawn file k before after (macro.value c)
    by_case (Ok n) t m = subst (Drawn file k before after) (sym m.value) t
    by_case (Err x) t m = let e = m.refused in absurd (omega arith)

pub room_verdicts_value : (r : Run) (image before after : List ℕ) (c : ℕ) → RoomVerdictsGives r image before after c → macro.refused c ≡ 0 → Filled r image before after (macro.value c)
room_verdicts_value r image before after c h z = by_case h.answer h.says (room_verdicts_read r image before after c h).macros
  where
    by_case : (x : Counted) → VerdictsSay r image before after x → Macros c (counted_means x) → Filled r image before after (macro.value c)
    by_case (Ok n) t m = subst (Filled r image before after) (sym m.value) t
    by_case (Err x) t m = let e = m.refused in absurd (omega arith)

-- of baker_ask: BAKER_REMEMBERED tells a hit, which changed nothing, from a verdict that was worked out and stored
module _ (r : Run) (k : Piece) (book after : List ℕ) (c : ℕ) (h : AskGives r k book after c) (z : macro.refused c ≡ 0) where
  abbrev AHit : Type 0
  AHit = (macro.remembered c ≡ 1) × Hits book after r k (macro.value c)

  abbrev AMiss : Type 0
  AMiss = (macro.remembered c ≡ 0) × Misses book after r k (macro.value c)

  pub ask_value : AHit ⊎ AMiss
  ask_value = by_case h.answer h.says (ask_read r k book after c h).macros
    where
      by_case : (x : Result Asked Refusal) → AskSays book after r k x → Macros c (asked_means x) → AHit ⊎ AMiss
      by_case (Ok (asked.Remembered n)) t m = inl (m.remembered, subst (Hits book after r k) (sym m.value) t)
      by_case (Ok (asked.Worked n)) t m = inr (m.remembered, subst (Misses book after r k) (sym m.value) t)
      by_case (Err x) t m = let e = m.refused in absurd (omega arith)

  -- and in a book that began empty and was written by asking alone BAKER_VALUE is the code of the verdict
  pub ask_true : Kept book → rules.Verdict r k (answer (macro.value c))
  ask_true kept = ⊎_elim (λ w. true_hit book kept r k (macro.value c) w.1.passes w.1.hit) (λ w. w.1.verdict) ask_value
