-- The corners of a face one after the other: what the checks find, and what the list holds. Assumes nothing.
use mathlib.Core.Path.{◌≡◌, refl, sym, ap, ◌∙◌}
use mathlib.Core.Bool.{true}
use mathlib.Core.Logic.{⊎_elim}
use mathlib.Core.List.{List, [], ◌∷◌, map}
use Prim.Native.Nat.{ℕ, zero, suc, ◌+◌, ◌*◌, ◌≤◌, ◌<◌}
use native.Mathlib.Omega.{arith}
use native.Mathlib.Numerals.{add-one}
use borrow.Author.Tests.{lt-ltb, le-ltb, ltb-true}
use lib.Dec.{ltb}
use lib.IntN.{ℤ, pos}
use lib.ListN.{length, get_or, drop, length-set, length-map}
use Rattle.std.proofs.Common.{Option, Some, None, IsSome, Ok, Err, IsOk}
use Rattle.whole.proofs.Order.{ℕ_or}
use Rattle.whole.proofs.Flag.{and_yes, by_flag}
use Rattle.rules.specs.Refusal.{Passes, in_turn}
use Rattle.rules.proofs.Checks.{passes_append, in_turn_fault}
use Rattle.refusal.specs.Said.{said}
use Rattle.refusal.specs.declared.Refusal.{Refusal}
use Rattle.line.specs.Number.{gridded, is_corner, index}
use Rattle.line.specs.declared.Corner.{Corner}
use Rattle.line.specs.Text.{words}
use Rattle.line.specs.Line.{Point, face, line_of, all_corners, names, all_named}
use Rattle.line.specs.Calls.{part, Word, Next}
use Rattle.line.proofs.Told.{no}
use Rattle.line.proofs.Parts.{drop_some, drop_none}
use Rattle.line.proofs.Words.{within_is, word_there, word_gone}
use Rattle.line.proofs.Says.{face_words}
use Rattle.obj.specs.declared.table.Entry.{Entry}
use Rattle.obj.specs.File.{nowhere, points, point_checks, points_checks, corners}
use Rattle.obj.specs.Steps.{unset, entered, Tabled, FitBoth, kept, Drafted, Gather}
use Rattle.obj.proofs.Points.{point_stored}

-- ---- word i of a face: a corner, whose index names a vertex
word_named : (k : ℕ) (ws : List (List ℕ)) (i : ℕ) (w : List ℕ) (rest : List (List ℕ)) → drop i ws ≡ w ∷ rest
    → all_corners ws ≡ true → all_named k (map index ws) ≡ true → (is_corner w ≡ true) × (names k (index w) < k)
unfolding all_corners all_named
word_named k [] zero w rest e c n = no (cc)
word_named k [] (suc i) w rest e c n = no (cc)
word_named k (v ∷ ws) zero w rest e c n =
    let a = and_yes (is_corner v) (all_corners ws) c in
    let b = and_yes (ltb (names k (index v)) k) (all_named k (map index ws)) n in
    let q : v ≡ w = cc in
    (rw q at a.0, rw q at (ltb-true (names k (index v)) k b.0))
word_named k (v ∷ ws) (suc i) w rest e c n =
    word_named k ws i w rest e (and_yes (is_corner v) (all_corners ws) c).1 (and_yes (ltb (names k (index v)) k) (all_named k (map index ws)) n).1

-- and the point that it names
module _ (vs : List Point) where
  abbrev named : List ℕ → Point
  named w = get_or vs (names (length vs) (index w)) nowhere

  word_point : (ws : List (List ℕ)) (i : ℕ) (w : List ℕ) (rest : List (List ℕ)) → drop i ws ≡ w ∷ rest → get_or (points vs (map index ws)) i nowhere ≡ named w
  word_point [] zero w rest e = cc
  word_point [] (suc i) w rest e = cc
  word_point (v ∷ ws) zero w rest e = let q : v ≡ w = cc in ap named q
  word_point (v ∷ ws) (suc i) w rest e = word_point ws i w rest e

  points_size : (ws : List (List ℕ)) → length (points vs (map index ws)) ≡ length ws
  points_size ws = length-map (map index ws) _ ∙ length-map ws index

-- ---- the first i corners: they pass, and stand in the list as far as it goes
pub record Part (ps : List Point) (i : ℕ) (list : List ℤ) : Type 0 where
  pub passes : Passes (points_checks ps i)
  pub numbers : (j : ℕ) → j < 2 * i → j < 128 → get_or list j (pos 0) ≡ get_or (corners ps) j (pos 0)

part_none : (ps : List Point) (list : List ℤ) → Part ps 0 list
unfolding in_turn
part_none ps list = record { passes = tt; numbers = λ j h k. absurd (omega arith) }

module _ (ps : List Point) (i : ℕ) (list : List ℤ) (h : i < length ps) (size : length list ≡ 128) (part : Part ps i list) where
  abbrev p : Point
  p = get_or ps i nowhere

  keeps : (x y : ℤ) → x ≡ gridded p.x → y ≡ gridded p.y → (j : ℕ) → j < 2 * (i + 1) → j < 128 → get_or (kept x y i list) j (pos 0) ≡ get_or (corners ps) j (pos 0)
  keeps x y e f j g l =
      ⊎_elim
      (λ (q : 64 ≤ i). rw (le-ltb i 64 q) (part.numbers j (omega arith) l))
      (λ (q : i < 64). rw (lt-ltb i 64 q) (point_stored gridded ps i h list (omega arith) x y e f (λ k m. part.numbers k m (omega arith)) j g))
      (ℕ_or 64 i)

  part_more : (x y : ℤ) → x ≡ gridded p.x → y ≡ gridded p.y → Passes (point_checks ps i) → Part ps (i + 1) (kept x y i list)
  unfolding in_turn
  part_more x y e f c = record { passes = rw (add-one i) (passes_append (points_checks ps i) (point_checks ps i) part.passes c); numbers = keeps x y e f }

kept_size : (x y : ℤ) (i : ℕ) (list : List ℤ) → length (kept x y i list) ≡ length list
kept_size x y i list = by_flag (λ l. length l ≡ length list) (ltb i 64) _ list (λ e. simp length-set) (λ e. refl)

-- ---- the face's words from a place on, where i corners are passed
pub record Gathering (line : List ℕ) (k : ℕ) (table : List Entry) (list : List ℤ) (at i : ℕ) : Type 0 where
  pub below : at ≤ length line
  pub number : i ≤ at
  pub size : length list ≡ 128
  pub fits : k ≤ length table
  pub all : List (List ℕ)
  pub count : i ≤ length all
  pub face : line_of line ≡ face (map index all)
  pub corners : all_corners all ≡ true
  pub named : all_named k (map index all) ≡ true
  pub rest : drop i all ≡ words (drop at line)
  pub part : (vs : List Point) → k ≡ length vs → Tabled vs table → Part (points vs (map index all)) i list

-- a face begins with a word
module _ (line : List ℕ) (k : ℕ) (table : List Entry) (d : Drafted line k table) where
  pub begins : (r : Option Corner) → Next line 0 k r → IsSome r
  begins (Some c) n = refl
  begins None n =
      let f = face_words line d.indices d.says in
      let w = rw (within_is line 0 (omega arith)) at n.words in
      no (cc (f.1, w, word_gone line (length line) (length line) (omega arith)))

  pub gather_start : (list : List ℤ) (c : Corner) → length list ≡ 128 → Next line 0 k (Some c) → Gathering line k table list c.to 0
  gather_start list c size n =
      let f = face_words line d.indices d.says in
      let w = rw (within_is line 0 (omega arith)) at n.word.words in
      let h = word_there line c.from c.to n.some in
      let e : d.indices ≡ map index f.0 = f.3 in
      record {
        below = n.word.ends.below;
        number = omega arith;
        size = size;
        fits = d.fits;
        all = f.0;
        count = omega arith;
        face = d.says ∙ ap face e;
        corners = f.2;
        named = rw e at d.named;
        rest = let q = f.1 in cc;
        part = λ vs q t. part_none _ list;
      }

module _ (line : List ℕ) (k : ℕ) (table : List Entry) (list : List ℤ) (at i : ℕ) (g : Gathering line k table list at i) where
  -- all are passed
  pub gather_end : Next line at k None → Gather line k table list (Ok i)
  gather_end n vs ns q e t =
      let w = rw (within_is line at g.below) at n.words in
      let l = drop_none g.all i (g.rest ∙ (w ∙ word_gone line (length line) (length line) (omega arith))) in
      let m : ns ≡ map index g.all = let d = g.face in cc in
      let z = points_size vs g.all in
      let p = g.part vs q t in
      let c = g.count in let n : i ≡ length g.all = omega arith in
      rw m record {
        count = n ∙ sym z;
        passes = rw (z, ← n) p.passes;
        size = g.size;
        numbers = p.numbers;
      }

  -- the corner at hand
  module _ (c : Corner) (n : Next line at k (Some c)) where
    abbrev w : List ℕ
    w = part c.from c.to line

    place : Word line at c.from c.to
    place = rw (within_is line at g.below) at n.word

    hand : drop i g.all ≡ w ∷ words (drop c.to line)
    hand = g.rest ∙ (place.words ∙ word_there line c.from c.to n.some)

    next : (drop (suc i) g.all ≡ words (drop c.to line)) × (i < length g.all)
    next = let d = drop_some g.all i [] w (words (drop c.to line)) hand in (d.1, d.2)

    corner : (is_corner w ≡ true) × (names k (index w) < k)
    corner = word_named k g.all i w (words (drop c.to line)) hand g.corners g.named

    names_it : c.vertex ≡ Ok (names k (index w))
    names_it = n.vertex ∙ rw (corner.0, lt-ltb (names k (index w)) k corner.1)

    pub is_ok_vertex : IsOk c.vertex
    is_ok_vertex = rw names_it

    module _ (v : ℕ) (is : c.vertex ≡ Ok v) where
      it : v ≡ names k (index w)
      it = let e = names_it in cc

      pub corner_below : v < length table
      corner_below = let b = corner.1 in let f = g.fits in let e = it in omega arith

      -- the points that the face names among some vertices, and the one at hand
      module _ (vs : List Point) (q : k ≡ length vs) (t : Tabled vs table) where
        abbrev ps : List Point
        ps = points vs (map index g.all)

        within : i < length ps
        within = let l = next.1 in let z = points_size vs g.all in omega arith

        point_is : get_or ps i nowhere ≡ get_or vs v nowhere
        point_is = word_point vs g.all i w (words (drop c.to line)) hand ∙ ap (λ j. get_or vs j nowhere) (ap (λ n. names n (index w)) (sym q) ∙ sym it)

        entry_is : get_or table v unset ≡ entered (get_or ps i nowhere)
        entry_is = let b = corner.1 in let e = it in t v (omega arith) ∙ ap entered (sym point_is)

      -- it is refused
      pub gather_fault : (r : Refusal) → FitBoth (get_or table v unset) i (Err r) → Gather line k table list (Err r)
      gather_fault r f vs ns q e t =
          let m : ns ≡ map index g.all = let d = g.face in cc in
          let l = ps vs q t in
          rw m (in_turn_fault (point_checks l) (said r) i (length l) (within vs q t) (g.part vs q t).passes (f (get_or l i nowhere) (entry_is vs q t)))

      kept_part : (x y : ℤ) → FitBoth (get_or table v unset) i (Ok (x, y)) → (vs : List Point) (q : k ≡ length vs) (t : Tabled vs table) → Part (ps vs q t) (i + 1) (kept x y i list)
      kept_part x y f vs q t =
          let l = ps vs q t in
          let told = f (get_or l i nowhere) (entry_is vs q t) in
          part_more l i list (within vs q t) g.size (g.part vs q t) x y (ap (λ (n : ℤ × ℤ). n.0) told.1) (ap (λ (n : ℤ × ℤ). n.1) told.1) told.0

      -- it is kept
      pub gather_next : (x y : ℤ) → FitBoth (get_or table v unset) i (Ok (x, y)) → Gathering line k table (kept x y i list) c.to (i + 1)
      gather_next x y f =
          let m = g.number in let o = place.begins.above in let s = place.some n.some in let l = next.1 in
          record {
            below = place.ends.below;
            number = omega arith;
            size = kept_size x y i list ∙ g.size;
            fits = g.fits;
            all = g.all;
            count = omega arith;
            face = g.face;
            corners = g.corners;
            named = g.named;
            rest = rw (add-one i) next.0;
            part = kept_part x y f;
          }
