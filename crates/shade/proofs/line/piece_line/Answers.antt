-- `shade::line::piece_line` meets its contract: number, answer and feed, put one after the other, are the line. Assumes nothing.
use Rattle.shade.specs.Text.{piece_line}
use Rattle.print.proofs.Put.{then}
use Rattle.shade.proofs.line.piece_line.Goals as goal

pub returns-clause-puts : goal.returns-clause-puts
unfolding piece_line
returns-clause-puts c = then c.number.ensures.puts (then c.put_answer.ensures.puts c.byte.ensures.puts)
