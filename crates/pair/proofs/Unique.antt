-- Two outcomes that both meet a public contract, answer and what is left, are equal. Assumes nothing.
use Rattle.std.specs.Prelude.{Option, Ok, Err}
use mathlib.Core.Path.{◌≡◌, refl, sym, ap, ◌∙◌}
use mathlib.Core.List.{List, [], ◌∷◌}
use Prim.Native.Nat.{ℕ}
use lib.IntN.{ℤ}
use lib.ListN.{length}
use Rattle.rules.specs.Refusal.{Check as Test, Sought}
use Rattle.rules.proofs.Checks.{AllDefinite, sought_one, definite_demand, definite_each, never_both}
use Rattle.refusal.specs.Said.{said, Checked}
use Rattle.refusal.proofs.Unique.{refused_one, writes_one}
use Rattle.pair.specs.Pair.{Wide, words, paired_check, pairs_asked, WritePairsSays, ReadPairsSays}
use Rattle.pair.proofs.Words.{numbers_one}

-- ---- first_wide
pub first_wide_one : (zs : List ℤ) (r s : Option ℕ) → Sought (Wide zs) (length zs) r → Sought (Wide zs) (length zs) s → r ≡ s
first_wide_one zs = sought_one (Wide zs) (length zs)

-- ---- write_pairs
pub definite_pairs_asked : (l : List ℕ) (zs : List ℤ) → AllDefinite (pairs_asked l zs)
unfolding pairs_asked
definite_pairs_asked l zs = (definite_demand _ _, (definite_each _ _ _, tt))

pub write_pairs_one : (zs : List ℤ) (before a b : List ℕ) (r s : Checked) → WritePairsSays zs before a r → WritePairsSays zs before b s → (r ≡ s) × (a ≡ b)
write_pairs_one zs before a b r s = writes_one (pairs_asked before zs) (definite_pairs_asked before zs) (words zs) before a b r s

-- ---- read_pairs
module _ (l : List ℕ) (before a b : List ℤ) where
  abbrev asked : List Test
  asked = paired_check l before ∷ []

  definite : AllDefinite asked
  definite = (definite_demand _ _, tt)

  pub read_pairs_one : (r s : Checked) → ReadPairsSays l before a r → ReadPairsSays l before b s → (r ≡ s) × (a ≡ b)
  read_pairs_one (Ok _) (Ok _) f g = (refl, numbers_one l a b f.2 g.2)
  read_pairs_one (Ok _) (Err y) f g = absurd (never_both asked definite (said y) f.0 g.0)
  read_pairs_one (Err x) (Ok _) f g = absurd (never_both asked definite (said x) g.0 f.0)
  read_pairs_one (Err x) (Err y) f g = (ap Err (refused_one asked definite x y f.0 g.0), f.1 ∙ sym g.1)
