-- `shade::line::put_page` meets its contract: the count's line, and the pieces' lines after it, are the page. Assumes nothing.
use Rattle.std.proofs.Common.{◌≡◌, rules, refl, ◌∙◌, arith, add-one, length}
use Rattle.shade.specs.Text.{piece_lines, page}
use Rattle.print.specs.Put.{Puts}
use Rattle.print.proofs.Put.{none, then}
use Rattle.shade.proofs.line.put_page.Goals as goal

pub loop-i-init : goal.loop-i-init
unfolding piece_lines
loop-i-init c =
    let after = c.byte.ensures.puts in
    record { same = refl; puts = none c.byte.new.self.out.now c.byte.new.self.at (omega (arith, after.end)); upper_bound = omega arith }

pub loop-i-preserved : goal.loop-i-preserved
unfolding piece_lines
loop-i-preserved c =
    let line = c.piece_line.ensures in let before = c.loop-i.invariant in
    record {
      same = line.same ∙ before.same;
      puts = rw (add-one c.loop-i.i) (then before.puts line.puts);
      upper_bound = omega (arith, line.upper_bound, before.upper_bound);
    }

pub returns-clause-puts : goal.returns-clause-puts
unfolding page
returns-clause-puts c =
    let codes = c.args.codes.now in
    let end : c.loop-i.i ≡ length codes = omega arith in
    let lines = then c.byte.ensures.puts (rw end at c.loop-i.invariant.puts) in
    let whole : Puts c.args.out.now 0 (page codes (length codes)) c.loop-i.lines.out.now c.loop-i.lines.at = then c.field.ensures.puts lines in
    search rules
