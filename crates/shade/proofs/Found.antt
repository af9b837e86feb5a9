-- What the run and the room were found to be decides which text answers. Assumes nothing.
use mathlib.Core.Path.{◌≡◌, sym, ap, subst, ◌∙◌}
use mathlib.Core.Logic.{⊎_elim}
use mathlib.Core.List.{List, [], ◌∷◌, ◌++◌}
use Prim.Native.Nat.{ℕ, ◌-◌, ◌≤◌, ◌<◌}
use native.Mathlib.Omega.{arith}
use lib.ListN.{length, get_or, take, drop, length-take, length-drop}
use lib.Seq.{take_all}
use Rattle.std.proofs.lemmas.List.{get_or-take, length-take-le}
use Rattle.rules.specs.Reach.{Run}
use Rattle.rules.specs.Refusal.{Refusal, Passes, Fault, demand, refuse, in_block}
use Rattle.rules.specs.Good.{run_checks}
use Rattle.rules.proofs.Checks.{fault_past, fault_within, passes_left, passes_right}
use Rattle.rules.proofs.Good.{definite_run}
use Rattle.room.specs.Image.{count, room_checks}
use Rattle.room.proofs.Images.{few_pieces}
use Rattle.room.specs.Verdicts.{verdicts_checks, CodeOf, Filled}
use Rattle.io.specs.Counts.{IsPrefixLen}
use Rattle.print.specs.Put.{Puts}
use Rattle.shade.specs.Text.{page, length_checks, room_part, Page}

-- a wrong length is refused by itself
pub alone : (input : List ℕ) (x : Refusal) → Fault (length_checks input) x → in_block 0 x ≡ x
unfolding length_checks
alone input x f = ⊎_elim (λ h. ap (λ y. in_block 0 y) h.1 ∙ sym h.1) (λ h. absurd h.1) f

-- the part after the run block
pub rest : (input : List ℕ) → take (length input - 512) (drop 512 input) ≡ room_part input
rest input = take_all (length input - 512) (drop 512 input) (omega (arith, length-drop 512 input))

-- ---- the verdicts of a good run into a list for 126: the list is never too short
pub room_fault : (r : Run) (image list : List ℕ) → Passes (run_checks r) → 126 ≤ length list → (x : Refusal) → Fault (verdicts_checks r image list) x → Fault (room_checks image) x
unfolding verdicts_checks
room_fault r image list good long x f =
    let short = demand (count image ≤ length list) (refuse 10 0 0) ∷ [] in
    fault_within (room_checks image) short x (λ p g. ⊎_elim (λ h. h.0 (omega (arith, few_pieces image p))) (λ h. h.1) g)
    (fault_past (run_checks r) (room_checks image ++ short) (definite_run r) x good f)

module _ (r : Run) (image list after : List ℕ) (n : ℕ) (f : Filled r image list after n) where
  room_passes : Passes (room_checks image)
  unfolding verdicts_checks
  room_passes = passes_left (room_checks image) _ (passes_right (run_checks r) _ f.passes)

  pub few : n ≤ 126
  few = omega (arith, f.pieces, few_pieces image room_passes)

-- the first n of them are the room's, and no later element is printed
module _ (r : Run) (input list after : List ℕ) (n : ℕ) (f : Filled r (room_part input) list after n) (long : n ≤ length after) where
  pub codes_long : length (take n after) ≡ n
  codes_long = length-take-le n after long

  each : (i : ℕ) → i < count (room_part input) → CodeOf r (room_part input) i (get_or (take n after) i 0)
  each i h = subst (CodeOf r (room_part input) i) (sym (get_or-take n after i 0 (omega (arith, h, f.pieces)))) (f.verdicts i h)

  pub printed : let codes = take n after in Page r input (page codes (length codes))
  printed = let codes = take n after in record {
    room = room_passes r (room_part input) list after n f;
    codes = codes;
    each = each;
    text = ap (page codes) (codes_long ∙ f.pieces);
  }

-- ---- a short text is put whole, and is counted
module _ {before text after : List ℕ} {n : ℕ} (p : Puts before 0 text after n) where
  pub whole : n ≤ 6328 → 6328 ≤ length before → length text ≤ length before
  whole h g = omega (arith, p.end)

  pub counted : length text ≤ length before → IsPrefixLen n after
  counted h = (omega (arith, p.end, p.size), omega (arith, p.end, p.size, length-take n after))
