-- `book::answer` meets its contract: what a look at the home slot finds, and else what is worked out, by the laws of Asking. Assumes nothing.
use Rattle.std.proofs.Common.{◌≡◌, List, ℕ, ◌+◌, ◌%◌, arith, rules}
use Rattle.std.proofs.lemmas.Result.{err_from_is_err_and}
use Rattle.rules.specs.Reach.{Run, Piece}
use Rattle.rules.specs.Refusal.{Passes}
use Rattle.rules.specs.Good.{run_checks}
use Rattle.rules.proofs.Reach.{run_known}
use Rattle.seal.specs.Seal.{byte, sum}
use Rattle.book.specs.Entry.{Slots, slots, key_length}
use Rattle.book.specs.Steps.{run_in, piece_in, first_bytes, Begun}
use Rattle.book.proofs.Asking.{Asking, lent, piece_fault, hits, works}
use Rattle.book.proofs.answer.Goals as goal

module _ (book front : List ℕ) (r : Run) (k : Piece) (end i : ℕ) (sized : Slots book) (good : Passes (run_checks r)) (begun : Begun r k front end) where
  asking : i ≡ sum (λ j. byte front (2 + j)) key_length % slots book → Asking book front r k end i
  asking e = record { sized = sized; good = good; begun = begun; at = e }

pub recall-requires : goal.recall-requires
recall-requires c =
    let a = c.args in run_known (run_in a.query) c.requires.1 6 (omega arith)

pub returns-in-None : goal.returns-in-None
unfolding first_bytes
returns-in-None c =
    let a = c.args in let d = c.lay-end in let h = c.home_of-from in
    let q = asking a.book.now d.new.front (run_in a.query) (piece_in a.query) d.result h.result c.requires.0 c.requires.1 d.ensures h.ensures in
    let e : c.unwrap.result.now ≡ lent a.book.now h.result = search rules in
    works q (rw e at c.in-None.ensures) c.work.new.slot c.work.result c.work.ensures

pub returns-in_err-check_piece-in-Some : goal.returns-in_err-check_piece-in-Some
returns-in_err-check_piece-in-Some c =
    let a = c.args in let d = c.lay-end in let h = c.home_of-from in
    let q = asking a.book.now d.new.front (run_in a.query) (piece_in a.query) d.result h.result c.requires.0 c.requires.1 d.ensures h.ensures in
    let p = err_from_is_err_and c.from_residual.result c.from_residual.ensures.1 in
    rw (p.1, p.2) (piece_fault q _ c.in_err-check_piece-in-Some.ensures)

pub returns-in_ok-check_piece-in-Some : goal.returns-in_ok-check_piece-in-Some
unfolding first_bytes
returns-in_ok-check_piece-in-Some c =
    let a = c.args in let d = c.lay-end in let h = c.home_of-from in
    let q = asking a.book.now d.new.front (run_in a.query) (piece_in a.query) d.result h.result c.requires.0 c.requires.1 d.ensures h.ensures in
    let e : c.unwrap.result.now ≡ lent a.book.now h.result = search rules in
    hits q c.in-Some.code (rw e at c.in-Some.ensures) c.in_ok-check_piece-in-Some.ensures
