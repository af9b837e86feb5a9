-- What a caller knows of its lengths and its numbers is what a call answers. Assumes nothing.
use Rattle.std.specs.Prelude.{Ok, Err}
use mathlib.Core.Path.{◌≡◌, refl, sym}
use mathlib.Core.List.{List, [], ◌∷◌}
use Prim.Native.Nat.{ℕ, ◌*◌}
use lib.IntN.{ℤ}
use lib.ListN.{length}
use Rattle.rules.specs.Refusal.{Passes}
use Rattle.rules.proofs.Reach.{between_stable}
use Rattle.rules.proofs.Checks.{definite_demand, never_both}
use Rattle.refusal.specs.Said.{said, Checked}
use Rattle.refusal.proofs.Unique.{written}
use Rattle.pair.specs.Pair.{words, Halves, NumbersOf, paired_check, pairs_asked, WritePairsSays, ReadPairsSays}
use Rattle.pair.proofs.Words.{numbers_one}
use Rattle.pair.proofs.Unique.{definite_pairs_asked}

-- ---- writing
pub pairs_pass : (l : List ℕ) (zs : List ℤ) → length l ≡ 2 * length zs → Halves zs → Passes (pairs_asked l zs)
unfolding pairs_asked
pairs_pass l zs e h = (e, (λ j g w. w (h j g), tt))

pub pairs_halves : (l : List ℕ) (zs : List ℤ) → Passes (pairs_asked l zs) → Halves zs
unfolding pairs_asked
pairs_halves l zs p j g = between_stable _ _ _ (p.1.0 j g)

pub pairs_written : (zs : List ℤ) (before after : List ℕ) (r : Checked) → WritePairsSays zs before after r → length before ≡ 2 * length zs → Halves zs → (r ≡ Ok tt) × (after ≡ words zs)
pairs_written zs before after r w e h = written (pairs_asked before zs) (definite_pairs_asked before zs) (words zs) before after r w (pairs_pass before zs e h)

-- ---- reading
pub pairs_read : (l : List ℕ) (before after : List ℤ) (r : Checked) → ReadPairsSays l before after r → length l ≡ 2 * length before → (r ≡ Ok tt) × NumbersOf l after
pairs_read l before after (Ok _) f e = (refl, f.2)
pairs_read l before after (Err x) f e = absurd (never_both (paired_check l before ∷ []) (definite_demand _ _, tt) (said x) (e, tt) f.0)

-- ---- there and back
pub read_back : (zs : List ℤ) (l made : List ℕ) (before after : List ℤ) → WritePairsSays zs l made (Ok tt) → ReadPairsSays made before after (Ok tt) → after ≡ zs
read_back zs l made before after w f = numbers_one made after zs f.2 (record { halves = pairs_halves l zs w.0; same = sym w.1 })
