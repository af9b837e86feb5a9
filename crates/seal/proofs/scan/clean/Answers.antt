-- `seal::scan::clean` decides: the bytes' bits together are zero where each byte is. Assumes nothing.
use Rattle.std.proofs.Common.{rules, ◌≡◌}
use Rattle.std.proofs.iter.runs.Made.{chains}
use Rattle.seal.proofs.Clean.{bits_of, clean_by}
use Rattle.seal.proofs.scan.clean.Goals as goal

pub returns : goal.returns
returns c = let e : c.fold.result ≡ bits_of 0 c.args.bytes.now = search (rules, chains) in rw e (clean_by c.args.bytes.now)
