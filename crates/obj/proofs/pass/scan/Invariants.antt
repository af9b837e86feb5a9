-- `obj::pass::scan`: before each line, those before it pass and are seen. Assumes nothing.
use Rattle.std.proofs.Common.{option_copied}
use Rattle.obj.specs.Steps.{taken_by}
use Rattle.obj.proofs.Seen.{Under}
use Rattle.obj.proofs.pass.scan.Given as goal

abbrev pub invariant-loop-rest : goal.invariant-loop-rest
invariant-loop-rest l = Under l.file l.table l.seen (option_copied l.rest) l.i

abbrev pub decreases-loop-rest : goal.decreases-loop-rest
decreases-loop-rest l = taken_by (option_copied l.rest)
