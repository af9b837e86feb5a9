-- What the single steps of reading a file compute. Assumes nothing.
use Rattle.std.specs.Prelude.{◌≡◌, true, cond, List, [], ◌∷◌, ◌++◌, ℕ, suc, ◌+◌, ◌*◌, ◌/◌, ◌≤◌, ◌<◌, ltb, ℤ, pos, length, get_or, set}
use Rattle.std.specs.Prelude.{Option, None, Some, Result, Ok, Err}
use Rattle.whole.specs.Front.{fronted}
use Rattle.rules.specs.Reach.{Piece}
use Rattle.rules.specs.Refusal.{Check, Passes, Fault, demand, refuse}
use Rattle.rules.specs.Good.{piece_checks}
use Rattle.refusal.specs.declared.Refusal.{Refusal}
use Rattle.refusal.specs.declared.Refusal.TheVariants as refusal
use Rattle.refusal.specs.Said.{said, Told}
use Rattle.line.specs.declared.Missed.{Missed}
use Rattle.line.specs.declared.Missed.TheVariants.{Beyond, OffGrid}
use Rattle.line.specs.Text.{lines}
use Rattle.line.specs.Number.{Decimal, gridded}
use Rattle.line.specs.Line.{Point, face, line_of, all_named}
use Rattle.line.specs.Calls.{entry}
use Rattle.obj.specs.declared.table.Entry.{Entry}
use Rattle.obj.specs.declared.pass.Face.{Face}
use Rattle.obj.specs.declared.pass.Seen.{Seen}
use Rattle.obj.specs.File.{Outline, above, nowhere, points, none, drawn, face_in, lines_checks, line_checks, decimal_checks, points_checks, corners}

-- ---- lines
-- the lines that stand after a feed, if one stood
abbrev pub lines_in : Option (List ℕ) → List (List ℕ)
lines_in None = []
lines_in (Some text) = lines text

-- what they take of a file, with the feed before them
abbrev pub taken_by : Option (List ℕ) → ℕ
taken_by None = 0
taken_by (Some text) = suc (length text)

-- the first line of a text, without its end, and what stands after its feed
pub record FirstLine (text line : List ℕ) (rest : Option (List ℕ)) : Type 0 where
  pub lines : lines text ≡ line ∷ lines_in rest
  pub shorter : length line + taken_by rest ≤ length text

-- a place of the table that no vertex has yet
abbrev pub unset : Entry
unset = record { x = Ok (pos 0); y = Ok (pos 0) }

abbrev pub entered : Point → Entry
entered p = record { x = entry p.x; y = entry p.y }

-- the vertices stand in the table
abbrev pub Tabled : List Point → List Entry → Type 0
Tabled vs table = (j : ℕ) → j < length vs → get_or table j unset ≡ entered (get_or vs j nowhere)

-- the face that was seen, with k vertices so far: its line, and those above it
pub record Faced (file : List ℕ) (n k : ℕ) (f : Face) (table : List Entry) : Type 0 where
  pub indices : List ℤ
  pub vertices : List Point
  pub line : line_of f.line.now ≡ face indices
  pub count : f.above ≡ length vertices
  pub few : f.above ≤ k
  pub named : all_named f.above indices ≡ true
  pub tabled : Tabled vertices table
  pub face : face_in file n ≡ drawn (points vertices indices)

abbrev pub FaceSeen : List ℕ → ℕ → ℕ → List Entry → Option Face → Type 0
FaceSeen file n k table None = face_in file n ≡ none
FaceSeen file n k table (Some f) = Faced file n k f table

-- what was seen of the first n lines
pub record SeenTo (file : List ℕ) (n : ℕ) (seen : Seen) (table : List Entry) : Type 0 where
  pub count : seen.vertices ≡ length (above file n)
  pub tabled : Tabled (above file n) table
  pub face : FaceSeen file n seen.vertices table seen.face

-- a line past n others, and a table that has room for it
pub record Room (line : List ℕ) (n : ℕ) (seen : Seen) (table : List Entry) : Type 0 where
  pub number : n ≤ 65536
  pub size : length table ≡ 8192
  pub bytes : 8 * seen.vertices + length line ≤ 65536

-- line n of a file passes and is seen too, or its refusal
pub record Gone (file : List ℕ) (n most : ℕ) (seen : Seen) (table : List Entry) : Type 0 where
  pub passes : Passes (line_checks file n)
  pub bytes : 8 * seen.vertices ≤ most
  pub holds : SeenTo file (suc n) seen table

-- what was seen, or the refusal
abbrev pub Stepped : Type 0
Stepped = Result Seen Refusal

abbrev pub Goes : List ℕ → ℕ → ℕ → List Entry → Stepped → Type 0
Goes file n most table (Ok s) = Gone file n most s table
Goes file n most table (Err x) = Fault (line_checks file n) (said x)

-- of any file that has it as line n, where those before it were seen
abbrev pub Stepping : List ℕ → ℕ → Seen → List Entry → List Entry → Stepped → Type 0
Stepping line n seen table after r =
    (file : List ℕ) → get_or (lines file) n [] ≡ line → SeenTo file n seen table → Goes file n (8 * seen.vertices + suc (length line)) after r

-- all lines
pub record Scanned (file : List ℕ) (seen : Seen) (table : List Entry) : Type 0 where
  pub passes : Passes (lines_checks file (length (lines file)))
  pub bytes : 8 * seen.vertices ≤ suc (length file)
  pub holds : SeenTo file (length (lines file)) seen table

abbrev pub Scans : List ℕ → List Entry → Stepped → Type 0
Scans file table (Ok s) = Scanned file s table
Scans file table (Err x) = Fault (lines_checks file (length (lines file))) (said x)

-- ---- the corners of the face
-- the refusal of what keeps a number from the grid
abbrev pub missing : Missed → ℕ → ℕ → Refusal
missing Beyond a b = refusal.Beyond a b
missing OffGrid a b = refusal.OffGrid a b

-- the grid number of a decimal that the table has so, or the first fault of its checks
abbrev pub Fit : Result ℤ Missed → ℕ → ℕ → Result ℤ Refusal → Type 0
Fit e a b r = (d : Decimal) → e ≡ entry d → Told (decimal_checks d a b) (λ k. k ≡ gridded d) r

abbrev pub FitBoth : Entry → ℕ → Result (ℤ × ℤ) Refusal → Type 0
FitBoth e a r = (p : Point) → e ≡ entered p → Told (decimal_checks p.x a 0 ++ decimal_checks p.y a 1) (λ k. k ≡ (gridded p.x, gridded p.y)) r

-- a corner in its two places, as far as there are any
abbrev pub kept : ℤ → ℤ → ℕ → List ℤ → List ℤ
kept x y i l = cond (ltb i 64) (set (set l (2 * i) x) (2 * i + 1) y) l

-- the line of a face, every index of which names a vertex in the table
pub record Drafted (line : List ℕ) (k : ℕ) (table : List Entry) : Type 0 where
  pub indices : List ℤ
  pub says : line_of line ≡ face indices
  pub named : all_named k indices ≡ true
  pub fits : k ≤ length table

-- all of them, of which the first 64 stand in the list
pub record Gathered (ps : List Point) (n : ℕ) (list : List ℤ) : Type 0 where
  pub count : n ≡ length ps
  pub passes : Passes (points_checks ps (length ps))
  pub size : length list ≡ 128
  pub numbers : (j : ℕ) → j < 2 * n → j < 128 → get_or list j (pos 0) ≡ get_or (corners ps) j (pos 0)

abbrev pub Gathers : List Point → List ℤ → Outline → Type 0
Gathers ps list (Ok n) = Gathered ps n list
Gathers ps list (Err x) = Fault (points_checks ps (length ps)) (said x)

-- of the points that the indices name among any vertices that stand in the table
abbrev pub Gather : List ℕ → ℕ → List Entry → List ℤ → Outline → Type 0
Gather line k table list r = (vs : List Point) (ns : List ℤ) → k ≡ length vs → line_of line ≡ face ns → Tabled vs table → Gathers (points vs ns) list r

-- ---- the piece, and the list
abbrev pub draw_checks : (List ℤ → Piece) → List ℤ → ℕ → List Check
draw_checks k l size = piece_checks (k l) ++ (demand (length l ≤ size) (refuse 10 0 0) ∷ [])

abbrev pub Draws : (List ℤ → Piece) → List ℤ → List ℤ → List ℤ → Outline → Type 0
Draws k l before after (Ok n) = Passes (draw_checks k l (length before)) × (n ≡ length l / 2) × (after ≡ fronted l before)
Draws k l before after (Err x) = Fault (draw_checks k l (length before)) (said x) × (after ≡ before)
