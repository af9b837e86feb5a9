-- `line::read_face` meets its contract: the words passed are corners, and `all` says whether they name vertices. Assumes nothing.
use mathlib.Core.Path.{sym, ap, ◌∙◌}
use mathlib.Core.Bool.{Bool}
use mathlib.Core.List.{List, ◌∷◌}
use Prim.Native.Nat.{ℕ}
use Rattle.std.proofs.Common.{Ok, Err}
use Rattle.line.specs.declared.Unnamed.TheVariants.{NoVertex, NoCorner}
use Rattle.line.specs.Text.{words}
use Rattle.line.specs.Steps.{Taken}
use Rattle.line.proofs.Words.{taken_words, words_none}
use Rattle.line.proofs.Corners.{corner_is}
use Rattle.line.proofs.Says.{Left, left_next, left_unnamed, left_other, left_none}
use Rattle.line.proofs.read_face.Goals as goal

-- the word at hand, and those after it
at_hand : (k : ℕ) (ws : List (List ℕ)) (rest w after : List ℕ) (all : Bool) → Taken rest w after → Left k ws (words rest) all → Left k ws (w ∷ words after) all
at_hand k ws rest w after all t l = rw (taken_words rest w after t) at l

pub returns-in-Err-NoCorner : goal.returns-in-Err-NoCorner
returns-in-Err-NoCorner c =
    let e = sym (ap Err c.in-Err-NoCorner.field-0-is) ∙ c.in-Err-NoCorner.ensures in
    left_other _ _ _ _ _ (at_hand _ _ _ _ _ _ c.in-Some.ensures c.loop-w.invariant) (corner_is _ _ (Err NoCorner) e)

pub loop-w-preserved-in-Ok : goal.loop-w-preserved-in-Ok
loop-w-preserved-in-Ok c =
    let f = corner_is _ _ (Ok c.in-Ok.field-0) c.in-Ok.ensures in
    left_next _ _ _ _ _ (at_hand _ _ _ _ _ _ c.in-Some.ensures c.loop-w.invariant) f.0 f.2

pub loop-w-preserved : goal.loop-w-preserved
loop-w-preserved c =
    let e = sym (ap Err c.in-Err-NoVertex.field-0-is) ∙ c.in-Err-NoVertex.ensures in
    let f = corner_is _ _ (Err NoVertex) e in
    left_unnamed _ _ _ _ _ (at_hand _ _ _ _ _ _ c.in-Some.ensures c.loop-w.invariant) f.0 f.1

pub returns : goal.returns
returns c = left_none _ _ _ (rw (words_none _ c.in_default.ensures) at c.loop-w.invariant)
