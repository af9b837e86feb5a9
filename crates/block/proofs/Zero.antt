-- A block of zeros, whose check is right, is refused for its first byte. Assumes nothing.
use mathlib.Core.Path.{refl}
use mathlib.Core.Logic.{inl}
use mathlib.Core.List.{[], ◌∷◌, ◌++◌}
use native.Mathlib.Omega.{arith}
use Rattle.rules.specs.Refusal.{refuse, Fault}
use Rattle.rules.specs.Good.{run_checks}
use Rattle.rules.proofs.Checks.{fault_left, fault_right}
use Rattle.seal.specs.Seal.{block_checks}
use Rattle.block.specs.Reading.{RunIn, inside, header_bytes, header_checks, run_bytes, run_block_checks}
use Rattle.seal.proofs.Zero.{zeros, zero_not, zero_sealed}

pub zero_header : Fault (header_checks zeros) (refuse 3 0 0)
unfolding header_checks header_bytes
zero_header =
    fault_right (block_checks zeros) (header_bytes zeros) (refuse 3 0 0) zero_sealed
    (inl (0, record { below = omega arith; bad = zero_not 81; before = λ j h b. absurd (omega arith) }, refl))

pub zero_run : Fault (run_block_checks zeros) (refuse 3 0 0)
unfolding run_block_checks run_bytes
zero_run =
    fault_left (block_checks zeros ++ run_bytes zeros) (inside (RunIn zeros) run_checks ∷ []) (refuse 3 0 0)
    (fault_right (block_checks zeros) (run_bytes zeros) (refuse 3 0 0) zero_sealed (inl (zero_not 1, refl)))
