-- The checks of blocks are definite: each list of bytes has at most one first fault. Assumes nothing.
use mathlib.Core.Path.{◌≡◌, subst}
use mathlib.Core.List.{List, [], ◌∷◌, ◌++◌}
use Prim.Native.Nat.{ℕ}
use Rattle.rules.specs.Reach.{Run}
use Rattle.rules.specs.Refusal.{Check, Passes, Fault}
use Rattle.rules.specs.Good.{run_checks}
use Rattle.rules.proofs.Checks.{Definite, AllDefinite, never_both, one_fault, definite_demand, definite_each, definite_append}
use Rattle.rules.proofs.Good.{definite_run}
use Rattle.seal.specs.Seal.{block_checks}
use Rattle.seal.proofs.OneFault.{definite_block}
use Rattle.block.specs.declared.kind.Kind.{Kind}
use Rattle.block.specs.declared.kind.Kind.TheVariants as kind
use Rattle.block.specs.Reading.{bytes_of, header_bytes, header_checks, run_bytes, piece_bytes, RunIn, inside, run_block_checks, header_asked, run_body_asked, run_asked}
use Rattle.block.proofs.RunLaws.{run_one}

-- ---- reading
-- the bytes of each kind
pub definite_bytes : (k : Kind) (l : List ℕ) → AllDefinite (bytes_of k l)
unfolding header_bytes run_bytes piece_bytes
definite_bytes kind.Header l = (definite_each _ _ _, (definite_demand _ _, (definite_demand _ _, (definite_each _ _ _, tt))))
definite_bytes kind.Run l = (definite_demand _ _, (definite_demand _ _, (definite_each _ _ _, tt)))
definite_bytes kind.Piece l = (definite_demand _ _, (definite_demand _ _, (definite_each _ _ _, tt)))

pub definite_kind : (k : Kind) (l : List ℕ) → AllDefinite (block_checks l ++ bytes_of k l)
definite_kind k l = definite_append (block_checks l) (bytes_of k l) (definite_block l) (definite_bytes k l)

pub definite_header : (l : List ℕ) → AllDefinite (header_checks l)
unfolding header_checks
definite_header l = definite_kind kind.Header l

-- the checks of what a block holds are definite where it holds one thing
pub definite_inside : {A : Type 0} (In : A → Type 0) (cs : A → List Check) → ((a b : A) → In a → In b → a ≡ b) → ((a : A) → AllDefinite (cs a)) → Definite (inside In cs)
definite_inside In cs one definite = record {
  never = λ s p f. never_both (cs f.0) (definite f.0) s (subst (λ a. Passes (cs a)) (one p.0 f.0 p.1 f.1) p.2) f.2;
  one = λ s t f g. one_fault (cs g.0) (definite g.0) s t (subst (λ a. Fault (cs a) s) (one f.0 g.0 f.1 g.1) f.2) g.2;
}

-- a block's bytes, and then what is in it
module _ {A : Type 0} (l : List ℕ) (bytes : List Check) (In : A → Type 0) (cs : A → List Check) where
  pub definite_held : AllDefinite bytes → ((a b : A) → In a → In b → a ≡ b) → ((a : A) → AllDefinite (cs a)) → AllDefinite ((block_checks l ++ bytes) ++ (inside In cs ∷ []))
  definite_held s one all = definite_append (block_checks l ++ bytes) (inside In cs ∷ []) (definite_append (block_checks l) bytes (definite_block l) s) (definite_inside In cs one all, tt)

pub definite_run_block : (l : List ℕ) → AllDefinite (run_block_checks l)
unfolding run_block_checks
definite_run_block l = definite_held l (run_bytes l) (RunIn l) run_checks (definite_bytes kind.Run l) (run_one l) definite_run

-- ---- writing
pub definite_run_body_asked : (bytes : List ℕ) (r : Run) → AllDefinite (run_body_asked bytes r)
unfolding run_body_asked
definite_run_body_asked bytes r = (definite_demand _ _, definite_run r)

pub definite_header_asked : (l : List ℕ) (n : ℕ) → AllDefinite (header_asked l n)
unfolding header_asked
definite_header_asked l n = (definite_demand _ _, (definite_demand _ _, tt))

pub definite_run_asked : (l : List ℕ) (r : Run) → AllDefinite (run_asked l r)
unfolding run_asked
definite_run_asked l r = (definite_demand _ _, definite_run r)
