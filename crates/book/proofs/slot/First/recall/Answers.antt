-- `book::slot::First::recall` meets its contract: a sound slot has the question's bytes, a possible code and no other byte. Assumes nothing.
use Rattle.std.proofs.Common.{inl, inr, rules, arith}
use Rattle.good.specs.Numbers.{run_of}
use Rattle.seal.specs.Seal.{filled}
use Rattle.seal.proofs.Bytes.{filled_length}
use Rattle.book.specs.Entry.{code_at, Possible}
use Rattle.book.proofs.Look.{beyond, looked}
use Rattle.book.proofs.slot.First.recall.Goals as goal
use Rattle.book.proofs.slot.First.recall.Goals.{else-code-via-then-code+else-run-code, else-code-via-else-code}

pub returns-then-run-code : goal.returns-then-run-code
returns-then-run-code c =
    let a = c.args in let d = c.code_in-code in let f = a.self.bytes.now in
    beyond a.slot.now (filled code_at f) (run_of a.run) (filled_length code_at f a.self.short) d.result d.ensures c.if-code.true (omega arith)

pub returns : goal.returns
returns c =
    let a = c.args in let d = c.code_in-code in let f = a.self.bytes.now in
    let p : Possible a.run.ticks d.result = elim c.else-code.branch [ else-code-via-then-code+else-run-code w ↦ inr (omega arith) | else-code-via-else-code w ↦ inl (omega arith) ] in
    rw c.then_some.ensures (looked a.slot.now (filled code_at f) (run_of a.run) (filled_length code_at f a.self.short) d.result d.ensures c.is_entry.result (search rules) p c.is_entry.ensures)
