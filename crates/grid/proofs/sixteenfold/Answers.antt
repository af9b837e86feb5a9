-- `grid::sixteenfold` meets its contract: the product is exact. Assumes nothing.
use lib.Ieee.{of_bits, fits, binary32}
use Rattle.whole.proofs.Flag.{yes_of}
use Rattle.grid.proofs.Exact.{exact}
use Rattle.grid.proofs.sixteenfold.Goals as goal

pub returns : goal.returns
unfolding of_bits
returns c = exact c.args.x (yes_of (fits binary32 c.args.x) c.well_formed.0.1)
