-- Every refusal that the checks of a call can give fits in the bits of its code. Assumes nothing.
use mathlib.Core.Path.{◌≡◌, refl, sym, subst}
use mathlib.Core.Logic.{inl, inr, ⊎_elim}
use mathlib.Core.List.{List, [], ◌∷◌, ◌++◌}
use Prim.Native.Nat.{ℕ, zero, suc, ◌+◌, ◌^◌, ◌≤◌, ◌<◌}
use native.Mathlib.Omega.{arith}
use lib.IntN.{ℤ}
use lib.ListN.{length}
use Rattle.rules.specs.Reach.{Run, Piece}
use Rattle.rules.specs.Ring.{Pt}
use Rattle.rules.specs.Refusal.{Refusal, refuse, Check, Passes, Fault, demand, each, in_turn, in_block}
use Rattle.rules.specs.Good.{Sized, run_checks, sized_check, band_check, shape_checks, footprint_checks, piece_checks}
use Rattle.rules.specs.Place.{place_checks}
use Rattle.rules.specs.Verdict.{verdict_checks}
use Rattle.line.specs.Text.{lines}
use Rattle.line.specs.Number.{Decimal}
use Rattle.line.specs.Line.{Point}
use Rattle.obj.specs.File as obj
use Rattle.obj.proofs.Bounds.{lines_few, face_few}
use Rattle.seal.specs.Seal.{block_at, block_checks}
use Rattle.block.specs.Reading.{header_bytes, header_checks, run_bytes, piece_bytes, RunIn, inside, run_block_checks, header_asked, run_asked}
use Rattle.piece_block.specs.Reading.{PieceIn, piece_block_checks, piece_asked}
use Rattle.piece_block.proofs.PieceLaws.{sized_most}
use Rattle.room.specs.Image.{head_checks, pieces_check, room_checks}
use Rattle.room.specs.Step.{StepFault, head, block}
use Rattle.room.specs.Verdicts.{verdicts_checks}
use Rattle.room.proofs.Images.{head_few}
use Rattle.book.specs.Ask.{ask_checks}
use Rattle.coding.specs.Told.{Fits}

-- what a check gives
pub record Fit (c : Check) : Type 0 where
  pub fits : (s : Refusal) → c.fails s → Fits s

-- what the first of several that does not pass gives
pub record AllFit (cs : List Check) : Type 0 where
  pub fits : (s : Refusal) → Fault cs s → Fits s

pub small : (n a b : ℕ) → n < 2 ^ 8 → a < 2 ^ 24 → b < 2 ^ 16 → Fits (refuse n a b)
small n a b h k l = record { number = h; block = omega arith; a = k; b = l }

-- ---- checks in a row: a later one may rely on those before
none : AllFit []
none = record { fits = λ s f. absurd f }

pub first : {c : Check} {cs : List Check} → Fit c → (c.passes → AllFit cs) → AllFit (c ∷ cs)
first f g = record { fits = λ s h. ⊎_elim (λ k. f.fits s k) (λ k. (g k.0).fits s k.1) h }

pub last : {c : Check} → Fit c → AllFit (c ∷ [])
last f = first f (λ p. none)

demands : {P : Type 0} {n a b : ℕ} {cs : List Check} → n < 2 ^ 8 → a < 2 ^ 24 → b < 2 ^ 16 → (P → AllFit cs) → AllFit (demand P (refuse n a b) ∷ cs)
demands {P} {n} {a} {b} h k l = first (record { fits = λ s f. subst Fits (sym f.1) (small n a b h k l) })

pub asks : {P : Type 0} {n a : ℕ} {cs : List Check} → n + a < 2 ^ 8 → (P → AllFit cs) → AllFit (demand P (refuse n a 0) ∷ cs)
asks h = demands (omega arith) (omega arith) (omega arith)

scans : {Bad : ℕ → Type 0} {m n : ℕ} {at : ℕ → ℕ} {cs : List Check} → n < 2 ^ 8 → ((i : ℕ) → i < m → at i < 2 ^ 24) → AllFit cs → AllFit (each Bad m (λ i. refuse n (at i) 0) ∷ cs)
scans {Bad} {m} {n} {at} h k g = first (record { fits = λ s f. subst Fits (sym f.2) (small n (at f.0) 0 h (k f.0 f.1.below) (omega arith)) }) (λ p. g)

fit_append : (cs ds : List Check) → AllFit cs → (Passes cs → AllFit ds) → AllFit (cs ++ ds)
fit_append [] ds f g = g tt
fit_append (c ∷ cs) ds f g =
    first (record { fits = λ s k. f.fits s (inl k) }) (λ p. fit_append cs ds (record { fits = λ s k. f.fits s (inr (p, k)) }) (λ q. g (p, q)))

pub fit_in_turn : (f : ℕ → List Check) (n : ℕ) → ((i : ℕ) → i < n → AllFit (f i)) → AllFit (in_turn f n)
unfolding in_turn
fit_in_turn f zero h = none
fit_in_turn f (suc n) h = fit_append (in_turn f n) (f n) (fit_in_turn f n (λ i k. h i (omega arith))) (λ p. h n (omega arith))

-- ---- runs, footprints and pieces
pub fit_run : (r : Run) → AllFit (run_checks r)
unfolding run_checks
fit_run r = scans (omega arith) (λ i h. omega arith) none

fit_shape : (l : List ℤ) → Sized l → AllFit (shape_checks l)
unfolding shape_checks
fit_shape l z =
    let m = sized_most l z in
    scans (omega arith) (λ i h. omega arith)
    (scans (omega arith) (λ i h. omega arith)
    (scans (omega arith) (λ i h. omega arith)
    (first (record { fits = λ s f. let w = f.2.meet in subst Fits (sym f.3) (small 8 f.0 f.1 (omega arith) (omega (arith, w)) (omega (arith, w))) })
    (λ p. asks (omega arith) (λ p. none)))))

pub fit_place : (p : Pt) (l : List ℤ) → AllFit (place_checks p l)
unfolding place_checks footprint_checks sized_check
fit_place p l = scans (omega arith) (λ i h. omega arith) (asks (omega arith) (λ z. fit_shape l z))

pub fit_piece : (k : Piece) → AllFit (piece_checks k)
unfolding piece_checks sized_check band_check
fit_piece k = asks (omega arith) (λ z. scans (omega arith) (λ i h. omega arith) (fit_shape k.corners z))

pub fit_verdict : (r : Run) (k : Piece) → AllFit (verdict_checks r k)
unfolding verdict_checks
fit_verdict r k = fit_append (run_checks r) (piece_checks k) (fit_run r) (λ p. fit_piece k)

pub fit_ask : (book : List ℕ) (r : Run) (k : Piece) → AllFit (ask_checks book r k)
unfolding ask_checks
fit_ask book r k = asks (omega arith) (λ p. fit_verdict r k)

-- ---- blocks
fit_block : (l : List ℕ) → AllFit (block_checks l)
unfolding block_checks
fit_block l = asks (omega arith) (λ p. asks (omega arith) (λ p. none))

pub fit_header : (l : List ℕ) → AllFit (header_checks l)
unfolding header_checks header_bytes
fit_header l =
    fit_append (block_checks l) (header_bytes l) (fit_block l)
    (λ p. scans (omega arith) (λ i h. omega arith)
    (asks (omega arith) (λ p. asks (omega arith) (λ p. scans (omega arith) (λ i h. omega arith) none))))

-- a block's own bytes, and then what is inside
module _ {A : Type 0} (l : List ℕ) (bytes : List Check) (In : A → Type 0) (cs : A → List Check) where
  fit_inside : AllFit bytes → ((a : A) → AllFit (cs a)) → AllFit ((block_checks l ++ bytes) ++ (inside In cs ∷ []))
  fit_inside f h = fit_append (block_checks l ++ bytes) _ (fit_append (block_checks l) bytes (fit_block l) (λ p. f)) (λ p. last (record { fits = λ s g. (h g.0).fits s g.2 }))

pub fit_run_block : (l : List ℕ) → AllFit (run_block_checks l)
unfolding run_block_checks run_bytes
fit_run_block l = fit_inside l (run_bytes l) (RunIn l) run_checks (asks (omega arith) (λ p. asks (omega arith) (λ p. scans (omega arith) (λ i h. omega arith) none))) fit_run

pub fit_piece_block : (l : List ℕ) → AllFit (piece_block_checks l)
unfolding piece_block_checks piece_bytes
fit_piece_block l = fit_inside l (piece_bytes l) (PieceIn l) piece_checks (asks (omega arith) (λ p. asks (omega arith) (λ p. scans (omega arith) (λ i h. omega arith) none))) fit_piece

pub fit_header_asked : (l : List ℕ) (n : ℕ) → AllFit (header_asked l n)
unfolding header_asked
fit_header_asked l n = asks (omega arith) (λ p. asks (omega arith) (λ p. none))

pub fit_run_asked : (l : List ℕ) (r : Run) → AllFit (run_asked l r)
unfolding run_asked
fit_run_asked l r = asks (omega arith) (λ p. fit_run r)

pub fit_piece_asked : (l : List ℕ) (k : Piece) → AllFit (piece_asked l k)
unfolding piece_asked
fit_piece_asked l k = asks (omega arith) (λ p. fit_piece k)

-- ---- rooms: a block's number is at most 126
in_block_lem : (image : List ℕ) (n : ℕ) (s : Refusal) → suc n ≤ 126 → Fault (piece_block_checks (block_at image (suc n))) s → Fits (in_block (suc n) s)
in_block_lem image n s h k =
    let f = (fit_piece_block (block_at image (suc n))).fits s k in
    record { number = f.number; block = omega arith; a = f.a; b = f.b }

fit_head : (image : List ℕ) → AllFit (head_checks image)
unfolding head_checks
fit_head image = asks (omega arith) (λ p. fit_append (header_checks (block_at image 0)) _ (fit_header (block_at image 0)) (λ p. asks (omega arith) (λ p. none)))

fit_room : (image : List ℕ) → AllFit (room_checks image)
unfolding room_checks
fit_room image =
    fit_append (head_checks image) (pieces_check piece_block_checks image ∷ []) (fit_head image)
    (λ p. last (record { fits = λ s f. subst Fits (sym f.same) (in_block_lem image f.piece f.refusal (omega (arith, head_few image p, f.below)) f.fault) }))

pub fit_verdicts : (r : Run) (image list : List ℕ) → AllFit (verdicts_checks r image list)
unfolding verdicts_checks
fit_verdicts r image list = fit_append (run_checks r) _ (fit_run r) (λ p. fit_append (room_checks image) _ (fit_room image) (λ p. asks (omega arith) (λ p. none)))

pub fit_step : (image : List ℕ) (place : ℕ) (x : Refusal) → StepFault image place x → Fits x
fit_step image place x (head f) = (fit_head image).fits x f
fit_step image place x (block p l r f e) = subst Fits (sym e) (in_block_lem image place r (omega (arith, head_few image p)) f)

-- ---- files: at most 65,537 lines, and as many corners
fit_line : (file : List ℕ) (i : ℕ) → suc i < 2 ^ 24 → AllFit (obj.line_checks file i)
unfolding obj.line_checks
fit_line file i h = demands (omega arith) h (omega arith) (λ p. demands (omega arith) h (omega arith) (λ p. demands (omega arith) h (omega arith) (λ p. none)))

fit_decimal : (d : Decimal) (a b : ℕ) → a < 2 ^ 24 → b < 2 ^ 16 → AllFit (obj.decimal_checks d a b)
unfolding obj.decimal_checks
fit_decimal d a b h k = demands (omega arith) h k (λ p. demands (omega arith) h k (λ p. none))

fit_point : (ps : List Point) (i : ℕ) → i < 2 ^ 24 → AllFit (obj.point_checks ps i)
fit_point ps i h = fit_append (obj.decimal_checks _ i 0) (obj.decimal_checks _ i 1) (fit_decimal _ i 0 h (omega arith)) (λ p. fit_decimal _ i 1 h (omega arith))

fit_drawn : (k : List ℤ → Piece) (size : ℕ) (ps : List Point) → length ps < 2 ^ 24 → AllFit (obj.corners_checks k size ps)
unfolding obj.corners_checks
fit_drawn k size ps h =
    fit_append (obj.points_checks ps (length ps)) _ (fit_in_turn (obj.point_checks ps) (length ps) (λ i g. fit_point ps i (omega arith)))
    (λ p. fit_append (piece_checks (k (obj.corners ps))) _ (fit_piece (k (obj.corners ps))) (λ p. asks (omega arith) (λ p. none)))

fit_face : (k : List ℤ → Piece) (size : ℕ) (f : obj.LastFace) → ((ps : List Point) → f ≡ obj.drawn ps → length ps < 2 ^ 24) → AllFit (obj.face_checks k size f)
fit_face k size obj.none h = asks (omega arith) (λ p. none)
fit_face k size (obj.drawn ps) h = fit_drawn k size ps (h ps refl)

pub fit_obj : (file : List ℕ) (k : List ℤ → Piece) (size : ℕ) → AllFit (obj.obj_checks file k size)
unfolding obj.obj_checks
fit_obj file k size =
    asks (omega arith) λ short.
    fit_append (obj.lines_checks file (length (lines file))) _ (fit_in_turn (obj.line_checks file) (length (lines file)) (λ i h. fit_line file i (omega (arith, lines_few file))))
    (λ p. fit_face k size (obj.face_in file (length (lines file))) (λ ps e. omega (arith, face_few file (length (lines file)) ps e)))

-- a lent list that is too short
pub fit_short : Fits (refuse 10 0 0)
fit_short = small 10 0 0 (omega arith) (omega arith) (omega arith)
