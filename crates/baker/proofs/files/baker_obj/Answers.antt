-- `baker_obj` meets its contract: whatever the corners, the piece that was made is that of the numbers, so the answer to the one is that to the other. Assumes nothing.
use Rattle.std.proofs.Common.{rules, ◌∙◌, List, ℤ}
use mathlib.Core.Path.{fun_ext}
use Rattle.rules.specs.Reach.{Piece}
use Rattle.obj.specs.File.{ObjSays}
use Rattle.coding.specs.Coded.{outline_code}
use Rattle.baker.proofs.Back.{coded_back}
use Rattle.baker.proofs.files.baker_obj.Goals as goal

-- whatever corners the file has
pub returns : goal.returns
returns c =
    coded_back (λ (k : List ℤ → Piece). ObjSays c.args.file.now k c.args.list.now c.footprint.new.list) outline_code c.footprint.result
    (fun_ext (λ l. c.slab_of-slab.ensures l ∙ search rules)) c.footprint.ensures c.code.ensures
