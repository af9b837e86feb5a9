-- The bytes of a kind that are no numbers, one check after the other. Assumes nothing.
use mathlib.Core.Path.{◌≡◌}
use mathlib.Core.List.{List, [], ◌∷◌}
use Prim.Native.Nat.{ℕ, ◌+◌, ◌*◌, ◌<◌}
use lib.ListN.{length}
use Rattle.rules.specs.Reach.{Corners, Pieces}
use Rattle.rules.specs.Refusal.{refuse, demand, each}
use Rattle.rules.proofs.Checks.{definite_demand}
use Rattle.refusal.specs.Said.{Finds}
use Rattle.refusal.proofs.Finds.{finds_after, finds_past}
use Rattle.refusal.specs.Said.{Checked}
use Rattle.seal.specs.Seal.{block_size, byte, length_check, unnamed_check}
use Rattle.block.specs.Layout.{edition, piece_kind, run_kind}
use Rattle.block.specs.Reading.{byte_check, Misspelt, header_bytes, run_bytes, piece_bytes}

-- a block is zero from here up to its check, as a call finds it
abbrev Found : List ℕ → ℕ → Checked → Type 0
Found l from r = Finds (length_check l ∷ unnamed_check l from ∷ []) r

-- where the length is known, what is found of those bytes
unnamed_found : (l : List ℕ) (from : ℕ) (r : Checked) → length l ≡ block_size → Found l from r → Finds (unnamed_check l from ∷ []) r
unnamed_found l from r e f = finds_past (length_check l) (unnamed_check l from ∷ []) (definite_demand _ _) r e f

pub header_last : (l : List ℕ) (r : Checked) → length l ≡ block_size → ((j : ℕ) → j < 4 → Misspelt l j → ⊥) → byte l 4 ≡ edition → Pieces (byte l 5) → Found l 6 r → Finds (header_bytes l) r
unfolding header_bytes
header_last l r n a b c f =
    let count = demand (Pieces (byte l 5)) (refuse 3 5 0) in
    finds_after (each (Misspelt l) 4 (λ i. refuse 3 i 0)) (byte_check l 4 edition ∷ count ∷ unnamed_check l 6 ∷ []) r a
    (finds_after (byte_check l 4 edition) (count ∷ unnamed_check l 6 ∷ []) r b (finds_after count (unnamed_check l 6 ∷ []) r c (unnamed_found l 6 r n f)))

pub run_last : (l : List ℕ) (r : Checked) → length l ≡ block_size → byte l 0 ≡ run_kind → byte l 1 ≡ 0 → Found l 16 r → Finds (run_bytes l) r
unfolding run_bytes
run_last l r n a b f =
    finds_after (byte_check l 0 run_kind) (byte_check l 1 0 ∷ unnamed_check l 16 ∷ []) r a (finds_after (byte_check l 1 0) (unnamed_check l 16 ∷ []) r b (unnamed_found l 16 r n f))

pub piece_last : (l : List ℕ) (r : Checked) → length l ≡ block_size → byte l 0 ≡ piece_kind → Corners (byte l 1) → Found l (12 + 4 * byte l 1) r → Finds (piece_bytes l) r
unfolding piece_bytes
piece_last l r n a b f =
    let rest = unnamed_check l (12 + 4 * byte l 1) ∷ [] in let count = demand (Corners (byte l 1)) (refuse 5 0 0) in
    finds_after (byte_check l 0 piece_kind) (count ∷ rest) r a (finds_after count rest r b (unnamed_found l (12 + 4 * byte l 1) r n f))
