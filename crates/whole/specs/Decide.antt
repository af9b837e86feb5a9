-- What a test answers. Assumes nothing.
use Rattle.std.specs.Prelude.{Bool, true, false}

-- true where P holds, false where it does not
abbrev pub Decides : Type 0 → Bool → Type 0
Decides P true = P
Decides P false = P → ⊥
