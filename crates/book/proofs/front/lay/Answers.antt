-- `book::front::lay` meets its contract: the run's bytes, and then the piece's, which are promised of a good one. Assumes nothing.
use Rattle.std.proofs.Common.{◌≡◌, rules, ap, ◌∙◌, List, ℕ, arith, length, set, take, drop, length-set}
use Rattle.std.specs.Prelude.{Ok, is_ok}
use Rattle.rules.specs.Reach.{Run}
use Rattle.rules.specs.Refusal.{Passes}
use Rattle.rules.specs.Good.{run_checks}
use Rattle.rules.proofs.Checks.{never_both}
use Rattle.refusal.specs.Said.{Checked}
use Rattle.refusal.proofs.Unique.{written}
use Rattle.block.specs.Layout.{run_body_size, run_body}
use Rattle.block.specs.Reading.{run_body_asked, WriteRunBodySays}
use Rattle.piece_block.specs.Reading.{piece_body_asked}
use Rattle.seal.proofs.Replaced.{mid, part_length}
use Rattle.piece_block.proofs.PieceLaws.{good_asked}
use Rattle.block.proofs.OneFault.{definite_run_body_asked}
use Rattle.piece_block.proofs.OneFault.{definite_piece_body_asked}
use Rattle.book.specs.Entry.{kind, piece_at, piece_length, code_at}
use Rattle.book.specs.Steps.{run_in, piece_in}
use Rattle.book.proofs.Lay.{headed_length, begin, begin_bad}
use Rattle.book.proofs.front.lay.Goals as goal

-- ---- what is given, with its first two bytes, the run's bytes, and the part for them
module _ (r : Run) (front bytes : List ℕ) (z : length front ≡ code_at) (good : Passes (run_checks r)) (x y : ℕ) where
  abbrev begun : List ℕ
  begun = set (set front 0 x) 1 y

  abbrev part : List ℕ
  part = take run_body_size (drop 2 begun)

  part_long : length part ≡ run_body_size
  part_long = part_length begun 2 run_body_size (simp length-set (omega (arith, z)))

  done : (w : Checked) → WriteRunBodySays r part bytes w → (w ≡ Ok tt) × (bytes ≡ run_body r)
  unfolding run_body_asked
  done w s = written (run_body_asked part r) (definite_run_body_asked part r) (run_body r) part bytes w s (part_long, good)

-- ---- the part for the piece's
module _ (r : Run) (front bytes : List ℕ) (z : length front ≡ code_at) (laid : bytes ≡ run_body r) where
  abbrev rest : List ℕ
  rest = take piece_length (drop piece_at (mid 2 run_body_size (set (set front 0 kind) 1 0) bytes))

  rest_long : length rest ≡ piece_length
  rest_long = part_length (mid 2 run_body_size (set (set front 0 kind) 1 0) bytes) piece_at piece_length (omega (arith, headed_length r front bytes z laid))

pub unwrap-requires : goal.unwrap-requires
unwrap-requires c =
    let w = c.write_run_body in ap is_ok (done (run_in c.args.query) c.args.front.now w.new.bytes (search rules) c.requires _ _ w.result w.ensures).0

pub returns-in-Err : goal.returns-in-Err
returns-in-Err c =
    let a = c.args in let w = c.write_run_body in let r = run_in a.query in let k = piece_in a.query in
    let laid = (done r a.front.now w.new.bytes (search rules) c.requires _ _ w.result w.ensures).1 in
    let part = rest r a.front.now w.new.bytes (search rules) laid in
    let n = rest_long r a.front.now w.new.bytes (search rules) laid in
    begin_bad _ k _ (λ p. never_both (piece_body_asked part k) (definite_piece_body_asked part k) _ (good_asked k p part n) c.in-Err.ensures.0)

pub returns-in-Ok : goal.returns-in-Ok
unfolding piece_body_asked
returns-in-Ok c =
    let a = c.args in let w = c.write_run_body in let v = c.write_piece_body in let r = run_in a.query in let t = c.in-Ok.ensures in
    let laid = (done r a.front.now w.new.bytes (search rules) c.requires _ _ w.result w.ensures).1 in
    let n = rest_long r a.front.now w.new.bytes (search rules) laid in
    begin r a.front.now w.new.bytes (search rules) laid (piece_in a.query) v.new.bytes (v.auto.bytes ∙ n) t.1 t.0.1.0.most _ (omega arith)
