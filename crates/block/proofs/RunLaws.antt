-- A run and its block: what a block holds, and that the block of a good run passes. Assumes nothing.
use mathlib.Core.Path.{◌≡◌, refl, sym, subst, ◌∙◌}
use mathlib.Core.Logic.{inl, ⊎_elim}
use mathlib.Core.List.{List, [], ◌∷◌, ◌++◌}
use Prim.Native.Nat.{ℕ, zero, suc, ◌+◌, ◌*◌, ◌≤◌, ◌<◌}
use native.Mathlib.Omega.{arith}
use lib.Dec.{le→leb}
use lib.IntN.{ℤ, pos}
use lib.ListN.{get_or}
use lib.Signed.{le_z_yes}
use mir.Syntax.{w8, w32}
use mir.Val.{Fits, SFits, to_z, of_z}
use mir.Facts.{to_z-of_z, to_z_pos}
use Rattle.whole.proofs.Order.{ℕ_or}
use Rattle.rules.specs.Reach.{Run}
use Rattle.rules.specs.Refusal as rules
use Rattle.rules.specs.Refusal.{Passes, Fault}
use Rattle.rules.specs.Good.{RunKnown, run_checks}
use Rattle.rules.proofs.Reach.{run_known}
use Rattle.rules.proofs.Checks.{passes_append, passes_left, passes_right, fault_left, fault_right}
use Rattle.good.specs.declared.Run as plain
use Rattle.good.specs.Numbers.{run_of}
use Rattle.block.specs.Layout.{run_kind, run_numbers, run_body, run_block}
use Rattle.pair.specs.Pair.{word, words, Half, Halves}
use Rattle.seal.specs.Seal.{byte, block_checks}
use Rattle.block.specs.Reading.{RunGood, RunIn, inside, run_bytes, run_block_checks}
use Rattle.block.specs.Scan.{RunAt}
use Rattle.seal.proofs.Bytes.{block_length, block_at, block_sealed}
use Rattle.seal.proofs.Unnamed.{stable, unnamed_front}
use Rattle.pair.proofs.Bits.{half_fits}
use Rattle.pair.proofs.Words.{word_one, reach_half, speed_half}
use Rattle.block.proofs.Laid.{few, Numbers, laid_is, laid_numbers}

-- ---- a good run's numbers
module _ (r : Run) (p : Passes (run_checks r)) where
  known : RunKnown r
  known = run_known r p

  pub good_half : (j : ℕ) → j < 6 → Half (get_or (run_numbers r) j (pos 0))
  good_half zero h = reach_half r.start.x (known 0 (omega arith))
  good_half (suc zero) h = reach_half r.start.y (known 1 (omega arith))
  good_half (suc (suc zero)) h = reach_half r.start.z (known 2 (omega arith))
  good_half (suc (suc (suc zero))) h = speed_half r.speed.x (known 3 (omega arith))
  good_half (suc (suc (suc (suc zero)))) h = speed_half r.speed.y (known 4 (omega arith))
  good_half (suc (suc (suc (suc (suc zero))))) h = speed_half r.speed.z (known 5 (omega arith))
  good_half (suc (suc (suc (suc (suc (suc j)))))) h = absurd (omega arith)

  pub good_ticks : r.ticks ≤ 4096
  good_ticks = known 6 (omega arith)

  pub good_halves : Halves (run_numbers r)
  good_halves j h =
      ⊎_elim
      (λ (g : 6 ≤ j). let e : j ≡ 6 = omega arith in rw e (record { above = le_z_yes tt; below = record { le = le→leb r.ticks 32767 (let h = good_ticks in omega arith) } }))
      (λ (g : j < 6). good_half j g)
      (ℕ_or 6 j)

-- ---- what a block holds
module _ (l : List ℕ) (r : plain.Run) (at : RunAt l r) (bytes : (i : ℕ) → Fits w8 (byte l i)) (p : Passes (block_checks l ++ run_bytes l)) where
  first : Passes (block_checks l)
  first = passes_left (block_checks l) (run_bytes l) p

  second : Passes (run_bytes l)
  second = passes_right (block_checks l) (run_bytes l) p

  zero_at : (j : ℕ) → j < 494 → byte l (16 + j) ≡ 0
  unfolding run_bytes
  zero_at j h = stable (byte l (16 + j)) 0 (second.1.1.0 j h)

  numbers : Numbers l (run_numbers (run_of r))
  numbers zero h = at.x.bits
  numbers (suc zero) h = at.y.bits
  numbers (suc (suc zero)) h = at.z.bits
  numbers (suc (suc (suc zero))) h = at.vx.bits
  numbers (suc (suc (suc (suc zero)))) h = at.vy.bits
  numbers (suc (suc (suc (suc (suc zero))))) h = at.vz.bits
  numbers (suc (suc (suc (suc (suc (suc zero)))))) h = at.ticks
  numbers (suc (suc (suc (suc (suc (suc (suc n))))))) h =
      let e : 2 + 2 * suc (suc (suc (suc (suc (suc (suc n)))))) ≡ 16 + 2 * n = omega arith in
      let f : 3 + 2 * suc (suc (suc (suc (suc (suc (suc n)))))) ≡ 16 + (2 * n + 1) = omega arith in
      rw (e, f, zero_at (2 * n) (omega arith), zero_at (2 * n + 1) (omega arith))

  signed : (j : ℕ) → j < 6 → Half (get_or (run_numbers (run_of r)) j (pos 0))
  signed zero h = at.x.half
  signed (suc zero) h = at.y.half
  signed (suc (suc zero)) h = at.z.half
  signed (suc (suc (suc zero))) h = at.vx.half
  signed (suc (suc (suc (suc zero)))) h = at.vy.half
  signed (suc (suc (suc (suc (suc zero))))) h = at.vz.half
  signed (suc (suc (suc (suc (suc (suc j)))))) h = absurd (omega arith)

  same : l ≡ run_block (run_of r)
  unfolding run_block run_body block_checks run_bytes
  same = laid_is l bytes run_kind 0 (run_numbers (run_of r)) numbers (omega arith) first.0 first.1.0 second.0 second.1.0

  pub run_in : RunIn l (run_of r)
  run_in = record { signed = signed; ticks = omega (arith, at.ticks, bytes 14, bytes 15); same = same }

-- ---- the block of a run that is refused
pub bytes_refused : (l : List ℕ) (x : rules.Refusal) → Fault (block_checks l ++ run_bytes l) x → Fault (run_block_checks l) x
unfolding run_block_checks
bytes_refused l x f = fault_left (block_checks l ++ run_bytes l) (inside (RunIn l) run_checks ∷ []) x f

pub run_refused : (l : List ℕ) (r : Run) (x : rules.Refusal) → Passes (block_checks l ++ run_bytes l) → RunIn l r → Fault (run_checks r) x → Fault (run_block_checks l) x
unfolding run_block_checks
run_refused l r x p i f = fault_right (block_checks l ++ run_bytes l) (inside (RunIn l) run_checks ∷ []) x p (inl (r, i, f))

-- ---- the block of a good run passes
pub good_in : (r : Run) → Passes (run_checks r) → RunIn (run_block r) r
good_in r p = record { signed = good_half r p; ticks = let h = good_ticks r p in omega arith; same = refl }

pub run_passes : (r : Run) → Passes (run_checks r) → Passes (run_block_checks (run_block r))
unfolding run_block_checks run_block run_body block_checks run_bytes
run_passes r p =
    let f : List ℕ = run_kind ∷ 0 ∷ words (run_numbers r) in let k = few run_kind 0 (run_numbers r) (omega arith) in
    passes_append (block_checks (run_block r) ++ run_bytes (run_block r)) (inside (RunIn (run_block r)) run_checks ∷ [])
    (passes_append (block_checks (run_block r)) (run_bytes (run_block r)) (block_length f k, (block_sealed f k, tt))
    (block_at f k 0 (omega arith), (block_at f k 1 (omega arith), (unnamed_front f 16 k (omega arith), tt)))) ((r, good_in r p, p), tt)

-- a block that is the block of a good run
pub block_in : (l : List ℕ) (r : Run) → RunGood l r → RunIn l r
block_in l r f = subst (λ l. RunIn l r) (sym f.same) (good_in r f.good)

pub block_passes : (l : List ℕ) (r : Run) → RunGood l r → Passes (run_block_checks l)
block_passes l r f = subst (λ l. Passes (run_block_checks l)) (sym f.same) (run_passes r f.good)

-- ---- a block holds one run
run_numbers_lem : (l : List ℕ) (r : Run) → l ≡ run_block r → Numbers l (run_numbers r)
unfolding run_block run_body
run_numbers_lem l r e = rw e (laid_numbers run_kind 0 (run_numbers r) (omega arith))

module _ (l : List ℕ) (r s : Run) (a : RunIn l r) (b : RunIn l s) where
  bits : (j : ℕ) → j < 254 → word (get_or (run_numbers r) j (pos 0)) ≡ word (get_or (run_numbers s) j (pos 0))
  bits j h = run_numbers_lem l r a.same j h ∙ sym (run_numbers_lem l s b.same j h)

  one : (j : ℕ) → j < 6 → get_or (run_numbers r) j (pos 0) ≡ get_or (run_numbers s) j (pos 0)
  one j h = word_one (get_or (run_numbers r) j (pos 0)) (get_or (run_numbers s) j (pos 0)) (a.signed j h) (b.signed j h) (bits j (omega arith))

  pub run_one : r ≡ s
  run_one = λ i. record {
    start = record { x = one 0 (omega arith) i; y = one 1 (omega arith) i; z = one 2 (omega arith) i };
    speed = record { x = one 3 (omega arith) i; y = one 4 (omega arith) i; z = one 5 (omega arith) i };
    ticks = bits 6 (omega arith) i;
  }

-- ---- as code has the numbers
abbrev pub machine : plain.Run → List ℤ
machine r =
    to_z w32 (of_z w32 r.x)
    ∷ to_z w32 (of_z w32 r.y)
    ∷ to_z w32 (of_z w32 r.z)
    ∷ to_z w32 (of_z w32 r.vx)
    ∷ to_z w32 (of_z w32 r.vy)
    ∷ to_z w32 (of_z w32 r.vz)
    ∷ to_z w32 r.ticks
    ∷ []

pub read_run : (r : plain.Run) → SFits w32 r.x → SFits w32 r.y → SFits w32 r.z → SFits w32 r.vx → SFits w32 r.vy → SFits w32 r.vz → r.ticks ≤ 4096 → machine r ≡ run_numbers (run_of r)
read_run r a b c d e f h = rw (to_z-of_z a, to_z-of_z b, to_z-of_z c, to_z-of_z d, to_z-of_z e, to_z-of_z f, to_z_pos w32 {n = r.ticks} (omega arith))

-- a good run's numbers are within what the machine holds
pub read_good : (r : plain.Run) → Passes (run_checks (run_of r)) → machine r ≡ run_numbers (run_of r)
read_good r p =
    let h = good_half (run_of r) p in
    read_run r
    (half_fits r.x (h 0 (omega arith)))
    (half_fits r.y (h 1 (omega arith)))
    (half_fits r.z (h 2 (omega arith)))
    (half_fits r.vx (h 3 (omega arith)))
    (half_fits r.vy (h 4 (omega arith)))
    (half_fits r.vz (h 5 (omega arith)))
    (good_ticks (run_of r) p)
