-- `notice::room_line` meets its contract: the parts put one after the other are the line of a refused room, each number that of the row. Assumes nothing.
use Rattle.std.proofs.Common.{rules}
use Rattle.refusal.specs.Said.{said_in}
use Rattle.notice.specs.Notice.{room_line}
use Rattle.print.specs.Put.{Puts}
use Rattle.print.proofs.Put.{then}
use Rattle.notice.proofs.room_line.Goals as goal

pub returns-clause-puts : goal.returns-clause-puts
unfolding room_line
returns-clause-puts c =
    let row = c.from-row.ensures in
    let fields = then (rw row.1 at c.field-3.ensures.puts) (then (rw row.2 at c.field-4.ensures.puts) c.byte.ensures.puts) in
    let line : Puts c.args.out.now 0 (room_line (said_in c.args.x c.args.block)) c.byte.new.self.out.now c.byte.new.self.at =
    then (rw row.0 at c.field.ensures.puts) (then c.field-2.ensures.puts fields) in
    search rules
