-- What is put so far, into the page as it was lent, is the bytes of the word that were passed. Assumes nothing.
use Rattle.std.proofs.Common.{◌≡◌, take}
use Rattle.print.specs.Put.{Puts}
use Rattle.print.proofs.Page.word.Given as goal

abbrev pub invariant-loop-byte : goal.invariant-loop-byte
invariant-loop-byte l =
    record {
      same : l.self.out.ghost_name ≡ l.fn.self.out.ghost_name;
      puts : Puts l.fn.self.out.now l.fn.self.at (take l.byte-index l.word) l.self.out.now l.self.at;
    }
