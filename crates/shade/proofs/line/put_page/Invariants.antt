-- The lines of the pieces passed stand after the count's line. Assumes nothing.
use Rattle.std.proofs.Common.{◌≡◌, ◌+◌, ◌*◌, ◌≤◌}
use Rattle.shade.specs.Text.{piece_lines}
use Rattle.print.specs.Put.{Puts}
use Rattle.shade.proofs.line.put_page.Given as goal

abbrev pub invariant-loop-i : goal.invariant-loop-i
invariant-loop-i l =
    record {
      same : l.lines.out.ghost_name ≡ l.initial.lines.out.ghost_name;
      puts : Puts l.initial.lines.out.now l.initial.lines.at (piece_lines l.codes l.i) l.lines.out.now l.lines.at;
      upper_bound : l.lines.at ≤ l.initial.lines.at + 50 * l.i;
    }
