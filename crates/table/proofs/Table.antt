-- The worked examples that are in the proved set, and further ones: two lists, one claim, computed. Assumes nothing.
use Rattle.std.specs.Prelude.{Ok, Err, Some, None}
use Rattle.piece.specs.declared.spot.Spot.TheVariants.{Inside, Outside}
use mathlib.Core.List.{List, [], ◌∷◌, ◌++◌}
use Prim.Native.Nat.{ℕ}
use lib.IntN.{ℤ, pos, negsuc}
use Rattle.rules.specs.Reach.{Run, Piece, run, piece as pieceSaid}
use Rattle.rules.specs.Ring.{Pt, ring, next}
use Rattle.rules.specs.Good.{piece_checks}
use Rattle.rules.specs.Place.{Count}
use Rattle.decide.specs.Crossing.{parity}
use Rattle.decide.proofs.Parity.{tally, tally_counts}
use Rattle.refusal.specs.Said.{Checked, Finds}
use Rattle.refusal.specs.declared.Refusal.TheVariants.{Fold, Meet, Clockwise}
use Rattle.decide.specs.Span.{clip, raise, lower, none}
use Rattle.decide.specs.Touch.{on_line, within, on_edge, touch, touches, on_some, place, band_span, first_mark, code}
use Rattle.footprint.specs.Shape.{back}
use Rattle.good.specs.Numbers.{pt}
use Rattle.piece.specs.Place.{Placed, Lies}
use Rattle.piece.specs.Tells.{Verdict, Tells}
use Rattle.table.proofs.Judge.{seek_from, shape_of, footprint_of, judge, judge_right, place_of, place_lies, run_of, verdict_of, verdict_tells}

-- a verdict told, a place asked, edges counted, or a piece checked, with the answer
pub data Row : Type 0 where
  told : Run → List ℤ → Verdict → Row
  asked : Pt → List ℤ → Placed → Row
  counted : Pt → List ℤ → ℕ → Row
  checked : List ℤ → Checked → Row

-- with the band 0 to 32, still
abbrev pub piece : List ℤ → Piece
piece l = pieceSaid (pos 0) (pos 32) (pos 0) (pos 0) (pos 0) l

abbrev pub True : Row → Type 0
True (told r l v) = Tells r (piece l) v
True (asked p l r) = Lies p l r
True (counted p l k) = Count (ring l) p (ring l).size k
True (checked l r) = Finds (piece_checks (piece l)) r

abbrev pub AllTrue : List Row → Type 0
AllTrue [] = Unit {0}
AllTrue (r ∷ rs) = True r × AllTrue rs

abbrev pub q : List ℤ
q = pos 0 ∷ pos 0 ∷ pos 64 ∷ pos 0 ∷ pos 64 ∷ pos 64 ∷ pos 0 ∷ pos 64 ∷ []

abbrev pub u : List ℤ
u = pos 0 ∷ pos 0 ∷ pos 96 ∷ pos 0 ∷ pos 96 ∷ pos 96 ∷ pos 64 ∷ pos 96 ∷ pos 64 ∷ pos 32 ∷ pos 32 ∷ pos 32 ∷ pos 32 ∷ pos 96 ∷ pos 0 ∷ pos 96 ∷ []

abbrev pub crossed : List ℤ
crossed = pos 0 ∷ pos 0 ∷ pos 64 ∷ pos 64 ∷ pos 64 ∷ pos 0 ∷ pos 0 ∷ pos 64 ∷ []

abbrev pub folded : List ℤ
folded = pos 0 ∷ pos 0 ∷ pos 64 ∷ pos 0 ∷ pos 32 ∷ pos 0 ∷ pos 32 ∷ pos 64 ∷ []

abbrev pub clockwise : List ℤ
clockwise = pos 0 ∷ pos 0 ∷ pos 0 ∷ pos 64 ∷ pos 64 ∷ pos 64 ∷ pos 64 ∷ pos 0 ∷ []

-- the rows that the rules mark P, in their order, each under its own text
abbrev pub marked : List Row
marked =
    -- (-64,32,16); (16,0,0); 4 | Q | 1024
    told (run (negsuc 63) (pos 32) (pos 16) (pos 16) (pos 0) (pos 0) 4) q (Ok (Some 1024))
    -- same; 3 | Q | clear
    ∷ told (run (negsuc 63) (pos 32) (pos 16) (pos 16) (pos 0) (pos 0) 3) q (Ok None)
    -- (32,32,16); (0,0,0); 0 | Q | 0
    ∷ told (run (pos 32) (pos 32) (pos 16) (pos 0) (pos 0) (pos 0) 0) q (Ok (Some 0))
    -- (-32,32,16); (16,16,0); 8 | Q | 512, a corner grazed
    ∷ told (run (negsuc 31) (pos 32) (pos 16) (pos 16) (pos 16) (pos 0) 8) q (Ok (Some 512))
    -- (-64,32,16); (3,0,0); 22 | Q | 5461
    ∷ told (run (negsuc 63) (pos 32) (pos 16) (pos 3) (pos 0) (pos 0) 22) q (Ok (Some 5461))
    -- (-64,32,40); (16,0,-1); 16 | Q | 2048
    ∷ told (run (negsuc 63) (pos 32) (pos 40) (pos 16) (pos 0) (negsuc 0) 16) q (Ok (Some 2048))
    -- (-64,32,40); (17,0,-1); 16 | Q | clear
    ∷ told (run (negsuc 63) (pos 32) (pos 40) (pos 17) (pos 0) (negsuc 0) 16) q (Ok None)
    -- (-100,32,16); (255,0,0); 1 | Q | 100
    ∷ told (run (negsuc 99) (pos 32) (pos 16) (pos 255) (pos 0) (pos 0) 1) q (Ok (Some 100))
    -- (48,200,16); (0,-8,0); 21 | U | 5376
    ∷ told (run (pos 48) (pos 200) (pos 16) (pos 0) (negsuc 7) (pos 0) 21) u (Ok (Some 5376))
    -- places in U: (48,64) outside
    ∷ asked (pt (pos 48) (pos 64)) u (Ok Outside)
    -- (48,16) inside
    ∷ asked (pt (pos 48) (pos 16)) u (Ok Inside)
    -- (32,-16) outside with two edges counted
    ∷ asked (pt (pos 32) (negsuc 15)) u (Ok Outside)
    ∷ counted (pt (pos 32) (negsuc 15)) u 2
    -- refused: (0,0) (64,64) (64,0) (0,64): 8 at 0, 2
    ∷ checked crossed (Err (Meet 0 2))
    -- (0,0) (64,0) (32,0) (32,64): 7 at 1
    ∷ checked folded (Err (Fold 1))
    ∷ []

-- further rows: two that the rules have without the mark, and that the pieces of the rows above are good
abbrev pub further : List Row
further =
    -- a trap: the first row with (7,0,0) and T 10 must give 2340
    told (run (negsuc 63) (pos 32) (pos 16) (pos 7) (pos 0) (pos 0) 10) q (Ok (Some 2340))
    -- (0,0) (0,64) (64,64) (64,0): 9
    ∷ checked clockwise (Err Clockwise)
    ∷ checked q (Ok tt)
    ∷ checked u (Ok tt)
    ∷ []

abbrev pub rows : List Row
rows = marked ++ further

-- the answer that is computed for a row, put in the place of the row's own
abbrev computed : Row → Row
computed (told r l v) = told r l (verdict_of r (piece l))
computed (asked p l r) = asked p l (place_of p l)
computed (counted p l k) = counted p l (tally (ring l) p (ring l).size)
computed (checked l r) = checked l (judge (piece l))

computed_true : (r : Row) → True (computed r)
computed_true (told r l v) = verdict_tells r (piece l)
computed_true (asked p l r) = place_lies p l
computed_true (counted p l k) = tally_counts (ring l) p (ring l).size
computed_true (checked l r) = judge_right (piece l)

abbrev all_computed : List Row → List Row
all_computed [] = []
all_computed (r ∷ rs) = computed r ∷ all_computed rs

all_true : (rs : List Row) → AllTrue (all_computed rs)
all_true [] = tt
all_true (r ∷ rs) = (computed_true r, all_true rs)

-- every row is what is computed for it
pub table : AllTrue rows
unfolding seek_from shape_of footprint_of judge place_of tally run_of verdict_of next back place on_some parity clip raise lower none on_line within on_edge touch touches band_span first_mark code
table = all_true rows
