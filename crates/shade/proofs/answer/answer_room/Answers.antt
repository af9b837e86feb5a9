-- `shade::answer::answer_room` meets its contract: a refused room has its line, a good one the page of its verdicts. Assumes nothing.
use Rattle.std.proofs.Common.{◌≤◌, length, refl, arith, length-take}
use Rattle.good.specs.Numbers.{run_of}
use Rattle.shade.specs.Text.{bad_room, verdicts}
use Rattle.shade.proofs.Found.{rest, room_fault, few, codes_long, printed, whole}
use Rattle.shade.proofs.answer.answer_room.Goals as goal

pub slice_bounds-codes-end : goal.slice_bounds-codes-end
slice_bounds-codes-end c = let w = c.in-Ok.ensures in omega (arith, few (run_of c.args.run) _ _ _ _ w, w.stays.size)

pub slice_bounds-put_page-end : goal.slice_bounds-put_page-end
slice_bounds-put_page-end c =
    let w = c.in-Ok.ensures in
    omega (arith, few (run_of c.args.run) _ _ _ _ w, w.stays.size, length-take c.in-Ok.n c.verdicts.new.list)

pub slice_bounds-put_page-end-in-Ok : goal.slice_bounds-put_page-end-in-Ok
slice_bounds-put_page-end-in-Ok c =
    let w = c.in-Ok.ensures in
    omega (arith, few (run_of c.args.run) _ _ _ _ w, w.stays.size, length-take c.in-Ok.n c.verdicts.new.list)

pub returns-in-Err : goal.returns-in-Err
returns-in-Err c =
    let run = run_of c.args.run in
    let f = rw (rest c.args.input.now) at (room_fault run _ _ c.requires.1.good (omega arith) _ c.in-Err.ensures.0) in
    record {
      text = _;
      answers = bad_room c.requires.0 run c.requires.1 _ f refl;
      room = whole c.room_line.ensures.puts (omega (arith, c.room_line.ensures.upper_bound)) (omega arith);
      puts = c.room_line.ensures.puts;
    }

pub returns-in-Ok : goal.returns-in-Ok
returns-in-Ok c =
    let run = run_of c.args.run in
    let w = rw (rest c.args.input.now) at c.in-Ok.ensures in
    let n = few run _ _ _ _ w in
    let long : c.in-Ok.n ≤ length c.verdicts.new.list = omega (arith, n, w.stays.size) in
    record {
      text = _;
      answers = verdicts c.requires.0 run c.requires.1 (printed run c.args.input.now _ _ _ w long);
      room = whole c.put_page.ensures.puts (omega (arith, c.put_page.ensures.upper_bound, codes_long run c.args.input.now _ _ _ w long, n)) (omega arith);
      puts = c.put_page.ensures.puts;
    }
