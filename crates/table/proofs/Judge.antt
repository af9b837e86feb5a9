-- What is good and where a point lies, computed: the answers that the public calls must give. Assumes nothing.
use Rattle.std.specs.Prelude.{Option, Ok, Err, Some, None}
use Rattle.piece.specs.declared.spot.Spot.TheVariants.{On, Inside, Outside}
use Rattle.std.specs.Option.{is_some, option_map, option_and_then}
use mathlib.Core.Path.{◌≡◌, refl}
use mathlib.Core.Bool.{Bool, true, false, not, cond, ◌&&◌, ◌||◌}
use mathlib.Core.Logic.{inl, inr, ⊎_elim}
use mathlib.Core.List.{List}
use Prim.Native.Nat.{ℕ, zero, suc, ◌+◌, ◌*◌, ◌/◌, ◌%◌, ◌<◌}
use native.Mathlib.Omega.{arith}
use lib.Dec.{eqb, leb, ltb}
use lib.IntN.{ℤ, pos, negsuc}
use lib.ListN.{length, get_or}
use lib.Signed.{le_z, lt_z}
use borrow.Author.Tests.{eqb-true, eq-eqb, leb-true, le-leb, ltb-true, lt-ltb}
use Rattle.whole.proofs.Flag.{decided, or_yes, or_left, or_right, and_yes, and_both, le_true, lt_true, lt_false, true_le}
use Rattle.rules.specs.Reach.{Between, Reach, Speed, Run, Piece}
use Rattle.rules.specs.Ring.{Pt, Ring, ring, next, from, to, Neighbours, Share}
use Rattle.rules.specs.Refusal.{Check, Passes, Fault, First, Sought}
use Rattle.rules.specs.Verdict as rules
use Rattle.rules.specs.Verdict.{Answer, clear, blocked, verdict_checks, answer}
use Rattle.rules.proofs.Checks.{passes_append, fault_left, fault_right}
use Rattle.rules.specs.Good.{Sized, Same, Meet, FirstMeet, area, RunNumber, BandNumber, run_checks, sized_check, band_check, shape_checks, footprint_checks, piece_checks}
use Rattle.rules.specs.Place.{Where, on, inside, outside, Place, PointNumber, place_checks}
use Rattle.rules.proofs.Reach.{run_known}
use Rattle.refusal.specs.Said.{said, Checked, Finds}
use Rattle.refusal.specs.declared.Refusal.{Refusal}
use Rattle.refusal.specs.declared.Refusal.TheVariants as refusal
use Rattle.decide.specs.Touch.{ranged, place, code}
use Rattle.decide.proofs.Verdict.{verdict_right}
use Rattle.decide.proofs.Place.{range_yes, yes_range, place_right}
use Rattle.whole.specs.Decide.{Decides}
use Rattle.footprint.specs.Shape.{Stray, back, Bend, FirstPair, equal, bends, edges_share}
use Rattle.piece.specs.Place.{Placed, Lies}
use Rattle.piece.specs.Tells.{Verdict, Tells}
use Rattle.whole.proofs.Decide.{yes, no, truth, decides, Below, none_yet, one_more}
use Rattle.footprint.proofs.Shape.{shares_decides, equal_decides, bends_decides}
use Rattle.footprint.proofs.Finds.{found_stray, found_same, found_fold, found_meet, found_clockwise, found_good, footprint_finds}
use Rattle.good.proofs.Finds.{piece_finds, place_finds}

-- ---- the first of several
unfoldable pub seek_from : (ℕ → Bool) → ℕ → ℕ → Option ℕ
seek_from f i zero = None
seek_from f i (suc k) = cond (f i) (Some i) (seek_from f (i + 1) k)

abbrev pub seek : (ℕ → Bool) → ℕ → Option ℕ
seek f n = seek_from f 0 n

sought_from : (Bad : ℕ → Type 0) (f : ℕ → Bool) (n : ℕ) → ((j : ℕ) → j < n → Decides (Bad j) (f j)) → (i k : ℕ) → i + k ≡ n → Below Bad i → Sought Bad n (seek_from f i k)
unfolding seek_from
sought_from Bad f n d i zero e b = λ j l. b j (omega arith)
sought_from Bad f n d i (suc k) e b =
    ⊎_elim (λ t. rw t (record { below = omega arith; bad = yes _ _ (d i (omega arith)) t; before = b }))
    (λ t. rw t (sought_from Bad f n d (i + 1) k (omega arith) (one_more Bad i b (no _ _ (d i (omega arith)) t))))
    (decided (f i))

pub sought : (Bad : ℕ → Type 0) (f : ℕ → Bool) (n : ℕ) → ((j : ℕ) → j < n → Decides (Bad j) (f j)) → Sought Bad n (seek f n)
sought Bad f n d = sought_from Bad f n d 0 n (omega arith) (none_yet Bad)

-- ---- numbers
range_decides : (low high z : ℤ) → Decides (Between low high z) (ranged low z high)
range_decides low high z = decides _ (ranged low z high) (λ e. let k = range_yes low z high e in record { above = k.0; below = k.1 }) (λ b. yes_range _ _ _ b.above b.below)

-- not so
other : (P : Type 0) (t : Bool) → Decides P t → Decides (P → ⊥) (not t)
other P true h = λ f. f h
other P false h = h

abbrev pub reaches : ℤ → Bool
reaches z = ranged (negsuc 16383) z (pos 16384)

abbrev pub is_speed : ℤ → Bool
is_speed v = ranged (negsuc 254) v (pos 255)

reach_decides : (z : ℤ) → Decides (Reach z) (reaches z)
reach_decides z = range_decides (negsuc 16383) (pos 16384) z

speed_decides : (v : ℤ) → Decides (Speed v) (is_speed v)
speed_decides v = range_decides (negsuc 254) (pos 255) v

-- ---- pairs of edges
abbrev pub neighbours : ℕ → ℕ → ℕ → Bool
neighbours n i j = eqb (next n i) j || eqb (next n j) i

abbrev pub meet_flag : Ring → ℕ → ℕ → Bool
meet_flag r i j = (ltb i j && not (neighbours r.size i j)) && edges_share r i j

neighbours_decides : (n i j : ℕ) → Decides (Neighbours n i j) (neighbours n i j)
neighbours_decides n i j =
    decides _ (neighbours n i j) (λ e. ⊎_elim (λ f. inl (eqb-true _ _ f)) (λ f. inr (eqb-true _ _ f)) (or_yes (eqb (next n i) j) (eqb (next n j) i) e))
    (λ h. ⊎_elim (λ q. or_left (eqb (next n i) j) (eqb (next n j) i) (eq-eqb _ _ q)) (λ q. or_right (eqb (next n i) j) (eqb (next n j) i) (eq-eqb _ _ q)) h)

meet_decides : (r : Ring) (i j : ℕ) → j < r.size → Decides (Meet r i j) (meet_flag r i j)
meet_decides r i j h =
    decides (Meet r i j) (meet_flag r i j)
    (λ e. let a = and_yes (ltb i j && not (neighbours r.size i j)) (edges_share r i j) e in let b = and_yes (ltb i j) (not (neighbours r.size i j)) a.0 in record {
      order = ltb-true i j b.0;
      below = h;
      parted = yes (Neighbours r.size i j → ⊥) (not (neighbours r.size i j)) (other (Neighbours r.size i j) (neighbours r.size i j) (neighbours_decides r.size i j)) b.1;
      share = yes (Share (from r i) (to r i) (from r j) (to r j)) (edges_share r i j) (shares_decides (from r i) (to r i) (from r j) (to r j)) a.1;
    })
    (λ m. and_both _ _
    (and_both _ _ (lt-ltb i j m.order)
    (truth (Neighbours r.size i j → ⊥) (not (neighbours r.size i j))
    (other (Neighbours r.size i j) (neighbours r.size i j) (neighbours_decides r.size i j)) m.parted))
    (truth (Share (from r i) (to r i) (from r j) (to r j)) (edges_share r i j) (shares_decides (from r i) (to r i) (from r j) (to r j)) m.share))

-- ---- the searches of a footprint
abbrev pub stray_of : List ℤ → Option ℕ
stray_of l = seek (λ j. not (reaches (get_or l j (pos 0)))) (length l)

abbrev pub same_of : Ring → Option ℕ
same_of r = seek (λ i. equal (from r i) (to r i)) r.size

abbrev pub fold_of : Ring → Option ℕ
fold_of r = seek (λ i. bends (r.at (back r.size i)) (r.at i) (to r i)) r.size

-- the first edge that meets edge i
abbrev pub row_of : Ring → ℕ → Option ℕ
row_of r i = seek (meet_flag r i) r.size

abbrev pub pair_of : Ring → Option (ℕ × ℕ)
pair_of r = option_and_then (λ i. option_map (λ j. (i, j)) (row_of r i)) (seek (λ i. is_some (row_of r i)) r.size)

module _ (l : List ℤ) where
  stray_sought : Sought (Stray l) (length l) (stray_of l)
  stray_sought = sought (Stray l) _ (length l) (λ j h. other (Reach (get_or l j (pos 0))) (reaches (get_or l j (pos 0))) (reach_decides (get_or l j (pos 0))))

  same_sought : Sought (Same (ring l)) (ring l).size (same_of (ring l))
  same_sought = sought (Same (ring l)) _ (ring l).size (λ i b. equal_decides (from (ring l) i) (to (ring l) i))

  fold_sought : Sought (Bend (ring l)) (ring l).size (fold_of (ring l))
  fold_sought = sought (Bend (ring l)) _ (ring l).size (λ i b. bends_decides ((ring l).at (back (ring l).size i)) ((ring l).at i) (to (ring l) i))

module _ (r : Ring) where
  abbrev Meets : ℕ → Type 0
  Meets i = (j : ℕ) × Meet r i j

  row_sought : (i : ℕ) → Sought (Meet r i) r.size (row_of r i)
  row_sought i = sought (Meet r i) (meet_flag r i) r.size (λ j h. meet_decides r i j h)

  row_decides : (i : ℕ) (o : Option ℕ) → Sought (Meet r i) r.size o → Decides (Meets i) (is_some o)
  row_decides i None s = λ m. s m.0 m.1.below m.1
  row_decides i (Some j) s = (j, s.bad)

  first_beside : (i : ℕ) → First Meets r.size i → (o : Option ℕ) → Sought (Meet r i) r.size o → FirstPair r (option_map (λ j. (i, j)) o)
  first_beside i f None s = absurd (s f.bad.0 f.bad.1.below f.bad.1)
  first_beside i f (Some j) s = record { meet = s.bad; before = λ h k l m. f.before h l (k, m); then = λ k l m. s.before k l m }

  first_of_rows : (o : Option ℕ) → Sought Meets r.size o → FirstPair r (option_and_then (λ i. option_map (λ j. (i, j)) (row_of r i)) o)
  first_of_rows None s = λ i j m. let a = m.order in let b = m.below in s i (omega arith) (j, m)
  first_of_rows (Some i) s = first_beside i s (row_of r i) (row_sought i)

  pub first_pair : FirstPair r (pair_of r)
  first_pair = first_of_rows _ (sought Meets (λ i. is_some (row_of r i)) r.size (λ i h. row_decides i (row_of r i) (row_sought i)))

-- ---- the answers
-- what was found is refused
abbrev pub pick : Option ℕ → (ℕ → Refusal) → Checked → Checked
pick None x fine = fine
pick (Some i) x fine = Err (x i)

abbrev pub pick_pair : Option (ℕ × ℕ) → Checked → Checked
pick_pair None fine = fine
pick_pair (Some p) fine = Err (refusal.Meet p.0 p.1)

pick_finds : (cs : List Check) (Bad : ℕ → Type 0) (n : ℕ) (o : Option ℕ) (x : ℕ → Refusal) (fine : Checked) → Sought Bad n o
    → ((i : ℕ) → First Bad n i → Fault cs (said (x i))) → (((j : ℕ) → j < n → Bad j → ⊥) → Finds cs fine) → Finds cs (pick o x fine)
pick_finds cs Bad n None x fine s f g = g s
pick_finds cs Bad n (Some i) x fine s f g = f i s

pick_pair_finds : (cs : List Check) (r : Ring) (o : Option (ℕ × ℕ)) (fine : Checked) → FirstPair r o
    → ((i j : ℕ) → FirstMeet r i j → Fault cs (said (refusal.Meet i j))) → (((i j : ℕ) → Meet r i j → ⊥) → Finds cs fine) → Finds cs (pick_pair o fine)
pick_pair_finds cs r None fine s f g = g s
pick_pair_finds cs r (Some p) fine s f g = f p.0 p.1 s

unfoldable pub shape_of : List ℤ → Checked
shape_of l =
    pick (stray_of l) (λ j. refusal.Reach (12 + 2 * j))
    (pick (same_of (ring l)) refusal.Same
    (pick (fold_of (ring l)) refusal.Fold
    (pick_pair (pair_of (ring l)) (cond (lt_z (pos 0) (area (ring l) (ring l).size)) (Ok tt) (Err refusal.Clockwise)))))

shape_finds : (l : List ℤ) → Finds (shape_checks l) (shape_of l)
unfolding shape_of
shape_finds l =
    pick_finds _ _ _ _ _ _ (stray_sought l) (λ j f. found_stray l _ (inl (j, f, refl)))
    (λ s. pick_finds _ _ _ _ _ _ (same_sought l) (found_same l s)
    (λ e. pick_finds _ _ _ _ _ _ (fold_sought l) (found_fold l s e)
    (λ f. pick_pair_finds _ _ _ _ (first_pair (ring l)) (found_meet l s e f) (λ m. last s e f m (lt_z (pos 0) (area (ring l) (ring l).size)) refl))))
  where
    last : ((j : ℕ) → j < length l → Stray l j → ⊥) → ((j : ℕ) → j < (ring l).size → Same (ring l) j → ⊥) → ((j : ℕ) → j < (ring l).size → Bend (ring l) j → ⊥)
        → ((i j : ℕ) → Meet (ring l) i j → ⊥) → (t : Bool) → lt_z (pos 0) (area (ring l) (ring l).size) ≡ t
        → Finds (shape_checks l) (cond t (Ok tt) (Err refusal.Clockwise))
    last s e f m true q = found_good l s e f m (lt_true _ _ q)
    last s e f m false q = found_clockwise l s e f m (lt_false _ _ q)

abbrev pub sized_flag : List ℤ → Bool
sized_flag l = eqb (length l % 2) 0 && (leb 3 (length l / 2) && leb (length l / 2) 64)

sized_decides : (l : List ℤ) → Decides (Sized l) (sized_flag l)
sized_decides l =
    decides (Sized l) (sized_flag l)
    (λ e. let a = and_yes (eqb (length l % 2) 0) (leb 3 (length l / 2) && leb (length l / 2) 64) e in
    let b = and_yes (leb 3 (length l / 2)) (leb (length l / 2) 64) a.1 in
    record { even = eqb-true _ _ a.0; corners = record { least = leb-true _ _ b.0; most = leb-true _ _ b.1 } })
    (λ s. and_both _ _ (eq-eqb _ _ s.even) (and_both _ _ (le-leb _ _ s.corners.least) (le-leb _ _ s.corners.most)))

unfoldable pub footprint_of : List ℤ → Checked
footprint_of l = cond (sized_flag l) (shape_of l) (Err refusal.Corners)

pub footprint_right : (l : List ℤ) → Finds (footprint_checks l) (footprint_of l)
unfolding footprint_of footprint_checks sized_check
footprint_right l = go (sized_flag l) (sized_decides l)
  where
    go : (t : Bool) → Decides (Sized l) t → Finds (footprint_checks l) (cond t (shape_of l) (Err refusal.Corners))
    go true h = footprint_finds l (shape_of l) h (shape_finds l)
    go false h = inl (h, refl)

-- ---- a piece
abbrev pub band_flag : Piece → ℕ → Bool
band_flag k zero = reaches k.bottom
band_flag k (suc zero) = reaches k.top && le_z k.bottom k.top
band_flag k (suc (suc zero)) = is_speed k.speed.x
band_flag k (suc (suc (suc zero))) = is_speed k.speed.y
band_flag k (suc (suc (suc (suc n)))) = is_speed k.speed.z

band_decides : (k : Piece) (j : ℕ) → Decides (BandNumber k j) (band_flag k j)
band_decides k zero = reach_decides k.bottom
band_decides k (suc zero) = decides _ (reaches k.top && le_z k.bottom k.top)
    (λ e. let a = and_yes (reaches k.top) (le_z k.bottom k.top) e in
    (yes (Reach k.top) (reaches k.top) (reach_decides k.top) a.0, le_true _ _ a.1))
    (λ h. and_both _ _ (truth (Reach k.top) (reaches k.top) (reach_decides k.top) h.0) (true_le _ _ h.1))
band_decides k (suc (suc zero)) = speed_decides k.speed.x
band_decides k (suc (suc (suc zero))) = speed_decides k.speed.y
band_decides k (suc (suc (suc (suc n)))) = speed_decides k.speed.z

abbrev pub band_of : Piece → Option ℕ
band_of k = seek (λ j. not (band_flag k j)) 5

unfoldable pub judge : Piece → Checked
judge k = cond (sized_flag k.corners) (pick (band_of k) (λ j. refusal.Reach (2 + 2 * j)) (shape_of k.corners)) (Err refusal.Corners)

pub judge_right : (k : Piece) → Finds (piece_checks k) (judge k)
unfolding judge piece_checks sized_check band_check
judge_right k = go (sized_flag k.corners) (sized_decides k.corners)
  where
    slab : Sought (λ j. BandNumber k j → ⊥) 5 (band_of k)
    slab = sought _ _ 5 (λ j h. other (BandNumber k j) (band_flag k j) (band_decides k j))

    go : (t : Bool) → Decides (Sized k.corners) t → Finds (piece_checks k) (cond t (pick (band_of k) (λ j. refusal.Reach (2 + 2 * j)) (shape_of k.corners)) (Err refusal.Corners))
    go true h = pick_finds (piece_checks k) _ _ _ _ _ slab (λ j f. inr (h, inl (j, f, refl))) (λ a. piece_finds k (shape_of k.corners) h a (shape_finds k.corners))
    go false h = inl (h, refl)

-- ---- a place
abbrev pub point_flag : Pt → ℕ → Bool
point_flag p zero = reaches p.x
point_flag p (suc n) = reaches p.y

point_decides : (p : Pt) (j : ℕ) → Decides (PointNumber p j) (point_flag p j)
point_decides p zero = reach_decides p.x
point_decides p (suc n) = reach_decides p.y

abbrev pub point_fault : Pt → Option ℕ
point_fault p = seek (λ j. not (point_flag p j)) 2

abbrev pub placing : Checked → Where → Placed
placing (Err r) w = Err r
placing (Ok _) on = Ok On
placing (Ok _) inside = Ok Inside
placing (Ok _) outside = Ok Outside

unfoldable pub place_of : Pt → List ℤ → Placed
place_of p l = placing (pick (point_fault p) (λ j. refusal.Reach (2 + 2 * j)) (footprint_of l)) (place (ring l) p)

pub place_lies : (p : Pt) (l : List ℤ) → Lies p l (place_of p l)
unfolding place_of place_checks
place_lies p l = go (pick (point_fault p) (λ j. refusal.Reach (2 + 2 * j)) (footprint_of l)) (place (ring l) p) found (place_right (ring l) p)
  where
    point : Sought (λ j. PointNumber p j → ⊥) 2 (point_fault p)
    point = sought _ _ 2 (λ j h. other (PointNumber p j) (point_flag p j) (point_decides p j))

    found : Finds (place_checks p l) (pick (point_fault p) (λ j. refusal.Reach (2 + 2 * j)) (footprint_of l))
    found = pick_finds (place_checks p l) _ _ _ _ _ point (λ j f. inl (j, f, refl)) (λ a. place_finds p l (footprint_of l) a (footprint_right l))

    go : (c : Checked) (w : Where) → Finds (place_checks p l) c → Place (ring l) p w → Lies p l (placing c w)
    go (Err r) w f h = f
    go (Ok _) on f h = (f, h)
    go (Ok _) inside f h = (f, h)
    go (Ok _) outside f h = (f, h)

-- ---- a run, and the verdict
abbrev pub run_flag : Run → ℕ → Bool
run_flag r zero = reaches r.start.x
run_flag r (suc zero) = reaches r.start.y
run_flag r (suc (suc zero)) = reaches r.start.z
run_flag r (suc (suc (suc zero))) = is_speed r.speed.x
run_flag r (suc (suc (suc (suc zero)))) = is_speed r.speed.y
run_flag r (suc (suc (suc (suc (suc zero))))) = is_speed r.speed.z
run_flag r (suc (suc (suc (suc (suc (suc n)))))) = leb r.ticks 4096

run_decides : (r : Run) (j : ℕ) → Decides (RunNumber r j) (run_flag r j)
run_decides r zero = reach_decides r.start.x
run_decides r (suc zero) = reach_decides r.start.y
run_decides r (suc (suc zero)) = reach_decides r.start.z
run_decides r (suc (suc (suc zero))) = speed_decides r.speed.x
run_decides r (suc (suc (suc (suc zero)))) = speed_decides r.speed.y
run_decides r (suc (suc (suc (suc (suc zero))))) = speed_decides r.speed.z
run_decides r (suc (suc (suc (suc (suc (suc n)))))) = decides _ (leb r.ticks 4096) (leb-true r.ticks 4096) (le-leb r.ticks 4096)

abbrev pub run_fault : Run → Option ℕ
run_fault r = seek (λ j. not (run_flag r j)) 7

unfoldable pub run_of : Run → Checked
run_of r = pick (run_fault r) (λ j. refusal.Reach (2 + 2 * j)) (Ok tt)

run_right : (r : Run) → Finds (run_checks r) (run_of r)
unfolding run_of run_checks
run_right r = pick_finds (run_checks r) _ _ _ _ _ run (λ j f. inl (j, f, refl)) (λ a. (a, tt))
  where
    run : Sought (λ j. RunNumber r j → ⊥) 7 (run_fault r)
    run = sought _ _ 7 (λ j h. other (RunNumber r j) (run_flag r j) (run_decides r j))

abbrev pub telling : Checked → Checked → Answer → Verdict
telling (Err x) c a = Err x
telling (Ok _) (Err x) a = Err x
telling (Ok _) (Ok _) clear = Ok None
telling (Ok _) (Ok _) (blocked m) = Ok (Some m)

unfoldable pub verdict_of : Run → Piece → Verdict
verdict_of r k = telling (run_of r) (judge k) (answer (code r k))

pub verdict_tells : (r : Run) (k : Piece) → Tells r k (verdict_of r k)
unfolding verdict_of verdict_checks
verdict_tells r k = go (run_of r) (judge k) (answer (code r k)) (run_right r) (judge_right k) (λ p. verdict_right r k (run_known r p 6 (omega arith)))
  where
    go : (c d : Checked) (a : Answer) → Finds (run_checks r) c → Finds (piece_checks k) d → (Passes (run_checks r) → rules.Verdict r k a) → Tells r k (telling c d a)
    go (Err x) d a f g h = fault_left (run_checks r) (piece_checks k) _ f
    go (Ok _) (Err x) a f g h = fault_right (run_checks r) (piece_checks k) _ f g
    go (Ok _) (Ok _) clear f g h = (passes_append (run_checks r) (piece_checks k) f g, h f)
    go (Ok _) (Ok _) (blocked m) f g h = (passes_append (run_checks r) (piece_checks k) f g, h f)
