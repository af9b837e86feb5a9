-- A reader that reads on from place 0 gives the pieces of a room in their order, and then the end for ever. Assumes nothing.
use Rattle.std.specs.Prelude.{Some, None, Ok}
use mathlib.Core.Path.{◌≡◌, refl, ap, subst, ◌∙◌}
use mathlib.Core.List.{List, [], ◌∷◌, ◌++◌}
use Prim.Native.Nat.{ℕ, suc, ◌+◌, ◌-◌, ◌≤◌, ◌<◌}
use native.Mathlib.Omega.{arith}
use lib.IntN.{pos}
use lib.ListN.{length, get_or, replicate}
use Rattle.rules.specs.Reach as reach
use Rattle.rules.specs.Ring.{ring}
use Rattle.rules.specs.Refusal.{Passes}
use Rattle.rules.specs.Good.{piece_checks}
use Rattle.seal.specs.Seal.{block_at}
use Rattle.piece_block.specs.Layout.{piece_block}
use Rattle.piece_block.specs.Reading.{HoldsPiece}
use Rattle.piece_block.specs.declared.PieceRead.{PieceRead}
use Rattle.room.specs.declared.Step.{Step}
use Rattle.room.specs.Image.{count, head_checks, room_checks, AllGood, image_of, Furnishes}
use Rattle.room.specs.Step.{StepSays, StepsFrom, Shows, InOrder}
use Rattle.room.proofs.Unique.{step_one}
use Rattle.room.proofs.RoundTrip.{image_count, image_at, image_head, image_back}

-- a reading that holds a piece
abbrev read_of : reach.Piece → PieceRead
read_of k = record {
  slab = record { bottom = k.bottom; top = k.top; vx = k.speed.x; vy = k.speed.y; vz = k.speed.z };
  corners = k.corners ++ replicate (128 - length k.corners) (pos 0);
  count = (ring k.corners).size;
}

held : (k : reach.Piece) → HoldsPiece (read_of k) k
held k = record { numbers = refl; count = refl; corners = refl }

-- the step that gives a piece, and that at the end
abbrev given : reach.Piece → ℕ → Step
given k place = record { found = Ok (Some (read_of k)); next = suc place }

abbrev ended : ℕ → Step
ended place = record { found = Ok None; next = place }

shown : (k : reach.Piece) (place : ℕ) (s : Step) → s ≡ given k place → Shows k s
shown k place s e = record { piece = read_of k; found = ap (λ (t : Step). t.found) e; holds = held k }

-- the pieces from a place on: their blocks stand there, and no more
record PiecesFrom (image : List ℕ) (place : ℕ) (ks : List reach.Piece) : Type 0 where
  pub good : AllGood ks
  pub many : count image ≡ place + length ks
  pub at : (z : reach.Piece) (i j : ℕ) → i < length ks → j ≡ place + i → block_at image (suc j) ≡ piece_block (get_or ks i z)

module _ (image : List ℕ) (head : Passes (head_checks image)) where
  gives : (place : ℕ) (k : reach.Piece) → place < count image → Passes (piece_checks k) → block_at image (suc place) ≡ piece_block k → StepSays image place (given k place)
  gives place k below good same = record { head = head; below = below; good = record { piece = k; good = good; same = same; holds = held k }; next = refl }

  ends : (place : ℕ) → count image ≤ place → StepSays image place (ended place)
  ends place past = record { head = head; past = past; next = refl }

  -- steps that begin with one that is known
  begins : (s t : Step) (steps : List Step) → s ≡ t → StepsFrom image s.next steps → StepsFrom image t.next steps
  begins s t steps e w = subst (λ (u : Step). StepsFrom image u.next steps) e w

  in_order_from : (ks : List reach.Piece) (place : ℕ) (steps : List Step) → PiecesFrom image place ks → StepsFrom image place steps → InOrder ks steps
  in_order_from [] place [] f w = tt
  in_order_from (k ∷ ks) place [] f w = tt
  in_order_from [] place (s ∷ steps) f w =
      let e = step_one image place s (ended place) w.0 (ends place (omega (arith, f.many))) in
      (ap (λ (t : Step). t.found) e, in_order_from [] place steps f (begins s (ended place) steps e w.1))
  in_order_from (k ∷ ks) place (s ∷ steps) f w =
      let e = step_one image place s (given k place) w.0 (gives place k (omega (arith, f.many)) f.good.0 (f.at k 0 place (omega arith) (omega arith))) in
      (shown k place s e, in_order_from ks (suc place) steps later (begins s (given k place) steps e w.1))
    where
      later : PiecesFrom image (suc place) ks
      later = record { good = f.good.1; many = omega (arith, f.many); at = λ z i j h e. f.at z (suc i) j (omega arith) (omega arith) }

-- from place 0 on, the pieces that a room was made of
pub in_order : (ks : List reach.Piece) → Furnishes ks → (steps : List Step) → StepsFrom (image_of ks) 0 steps → InOrder ks steps
in_order ks f steps w = in_order_from (image_of ks) (image_head ks f) ks 0 steps all w
  where
    all : PiecesFrom (image_of ks) 0 ks
    all = record {
      good = f.good;
      many = omega (arith, image_count ks f);
      at = λ z i j h e. let same : j ≡ i = omega arith in ap (λ n. block_at (image_of ks) (suc n)) same ∙ image_at ks f z i h;
    }

-- and so of every image that passes
pub in_order_back : (image : List ℕ) (p : Passes (room_checks image)) (steps : List Step) → StepsFrom image 0 steps → InOrder (image_back image p).0 steps
in_order_back image p steps w = let back = image_back image p in in_order back.0 back.1 steps (subst (λ (l : List ℕ). StepsFrom l 0 steps) back.2 w)
