-- `book::slot::First::keep` meets its contract: parts of these lengths fit. Assumes nothing.
use Rattle.std.specs.Prelude.{is_ok}
use Rattle.std.proofs.Common.{◌≡◌, List, ℕ, ◌++◌, ◌≤◌, length, ap, rules, arith}
use Rattle.rules.specs.Refusal.{Passes}
use Rattle.seal.specs.Seal.{block_size, filled, block_of}
use Rattle.seal.specs.Parts.{parts_asked}
use Rattle.seal.proofs.OneFault.{definite_parts_asked}
use Rattle.refusal.proofs.Unique.{written}
use Rattle.book.specs.Entry.{code_at}
use Rattle.book.proofs.slot.First.keep.Goals as goal

fit : (slot first last : List ℕ) → length slot ≡ block_size → length first ≤ code_at → length last ≡ 4 → Passes (parts_asked slot first last code_at)
unfolding parts_asked
fit slot first last long few four = (long, (record { begin = few; end = omega arith }, tt))

pub unwrap-requires : goal.unwrap-requires
unwrap-requires c =
    let f = c.args.self.bytes.now in let w = c.write_parts in let l = c.to_le_bytes.result in
    ap is_ok (written _ (definite_parts_asked _ f l code_at) (block_of (filled code_at f ++ l)) _ w.new.block w.result w.ensures
    (fit _ f l (search rules) c.args.self.short (ap length c.to_le_bytes.ensures))).0
