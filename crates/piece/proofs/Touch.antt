-- What a motion and an edge within reach give is small. Assumes nothing.
use mathlib.Core.Path.{◌≡◌, ◌∙◌}
use mathlib.Core.Bool.{true, false}
use Prim.Native.Nat.{ℕ, ◌≤◌}
use native.Mathlib.Omega.{arith}
use lib.Dec.{le→leb}
use lib.IntN.{ℤ, pos, neg_ℤ, nat_abs, ◌+ℤ◌, ◌-ℤ◌, ◌*ℤ◌}
use mir.Syntax.{w64}
use mir.Val.{SFits}
use Rattle.whole.proofs.Range.{abs_by, abs_add, abs_sub, abs_mul_le, abs_neg}
use Rattle.rules.specs.Reach.{Speed, Run, Piece}
use Rattle.rules.specs.Ring.{Pt, Ring}
use Rattle.rules.specs.Good.{RunKnown, PieceKnown}
use Rattle.decide.specs.Side.{side_of}
use Rattle.decide.specs.Span.{Span, ticks, some, first}
use Rattle.rules.specs.Verdict.{NONE}
use Rattle.decide.proofs.Place.{least_of, most_of}
use Rattle.decide.specs.Touch.{least, most, swing, across, same_side, within, on_edge, touch, touches, band_span, start_point, over, point_of, motion, place, contact, first_mark}
use Rattle.piece.specs.Sizes.{Close, Slow, Flat, Level, Tame, Bounds, Slope, AlongSteps}
use Rattle.piece.proofs.Steps.{word, back, gap_back}
use Rattle.footprint.specs.Steps.{CrossSteps}
use Rattle.footprint.proofs.Steps.{fit, reach_abs, product, cross_most, cross_steps}
use Rattle.piece.proofs.Moving.{tame_clip}

-- numbers within reach, and their differences
diff : (a b : ℤ) → nat_abs a ≤ 16384 → nat_abs b ≤ 16384 → nat_abs (a -ℤ b) ≤ 32768
diff a b h k = omega (arith, abs_sub a b)

-- the side of a corner against the line of motion, as the code has it
module _ (p w v : Pt) (h : Close p) (i : Slow w) (k : Close v) where
  across_as_read : (P : ℤ → ℤ → ℤ → ℤ → Type 0) → P w.x w.y (v.x -ℤ p.x) (v.y -ℤ p.y) → P (word w.x) (word w.y) (word (word v.x -ℤ word p.x)) (word (word v.y -ℤ word p.y))
  across_as_read P q =
      rw (back w.x (omega (arith, i.x)), back w.y (omega (arith, i.y)), gap_back v.x p.x (omega (arith, k.x)) (omega (arith, h.x)), gap_back v.y p.y (omega (arith, k.y)) (omega (arith, h.y))) q

  pub across_steps : CrossSteps (word w.x) (word w.y) (word (word v.x -ℤ word p.x)) (word (word v.y -ℤ word p.y))
  across_steps = across_as_read CrossSteps
      (cross_steps _ _ _ _ (omega (arith, i.x)) (omega (arith, i.y)) (omega (arith, diff v.x p.x k.x h.x)) (omega (arith, diff v.y p.y k.y h.y)))

  pub across_said : (r : ℤ) → r ≡ word w.x *ℤ word (word v.y -ℤ word p.y) -ℤ word w.y *ℤ word (word v.x -ℤ word p.x) → r ≡ across p w v
  across_said r = across_as_read (λ x y u v'. r ≡ x *ℤ v' -ℤ y *ℤ u → r ≡ across p w v) (λ e. e)

-- the line of an edge
module _ (p w a b : Pt) (h : Close p) (i : Slow w) (j : Close a) (k : Close b) where
  run : nat_abs (b.x -ℤ a.x) ≤ 32768
  run = diff b.x a.x k.x j.x

  rise : nat_abs (b.y -ℤ a.y) ≤ 32768
  rise = diff b.y a.y k.y j.y

  along : nat_abs (p.x -ℤ a.x) ≤ 32768
  along = diff p.x a.x h.x j.x

  up : nat_abs (p.y -ℤ a.y) ≤ 32768
  up = diff p.y a.y h.y j.y

  side_most : nat_abs (side_of a b p) ≤ 2147483648
  side_most = omega (arith, cross_most 32768 32768 (b.x -ℤ a.x) (b.y -ℤ a.y) (p.x -ℤ a.x) (p.y -ℤ a.y) run rise along up)

  swing_most : nat_abs (swing a b w) ≤ 33423360
  swing_most = omega (arith, cross_most 32768 510 (b.x -ℤ a.x) (b.y -ℤ a.y) w.x w.y run rise i.x i.y)

  swing_as_read : (P : ℤ → ℤ → ℤ → ℤ → Type 0) → P (b.x -ℤ a.x) (b.y -ℤ a.y) w.x w.y → P (word (word b.x -ℤ word a.x)) (word (word b.y -ℤ word a.y)) (word w.x) (word w.y)
  swing_as_read P q =
      rw (back w.x (omega (arith, i.x)), back w.y (omega (arith, i.y)), gap_back b.x a.x (omega (arith, k.x)) (omega (arith, j.x)), gap_back b.y a.y (omega (arith, k.y)) (omega (arith, j.y))) q

  pub swing_steps : CrossSteps (word (word b.x -ℤ word a.x)) (word (word b.y -ℤ word a.y)) (word w.x) (word w.y)
  swing_steps = swing_as_read CrossSteps (cross_steps _ _ _ _ (omega (arith, run)) (omega (arith, rise)) (omega (arith, i.x)) (omega (arith, i.y)))

  pub swing_said : (r : ℤ) → r ≡ word (word b.x -ℤ word a.x) *ℤ word w.y -ℤ word (word b.y -ℤ word a.y) *ℤ word w.x → r ≡ swing a b w
  swing_said r = swing_as_read (λ x y u v. r ≡ x *ℤ v -ℤ y *ℤ u → r ≡ swing a b w) (λ e. e)

  -- the line's inequality, and the other way round
  pub line : Slope (side_of a b p) (swing a b w)
  line = record { base = omega (arith, side_most); slope = omega (arith, swing_most) }

  pub line' : Slope (neg_ℤ (side_of a b p)) (neg_ℤ (swing a b w))
  line' = record { base = rw (abs_neg (side_of a b p)) line.base; slope = rw (abs_neg (swing a b w)) line.slope }

-- ---- along one coordinate
module _ (p w a b : ℤ) (h : Flat p w a b) where
  low_most : nat_abs (p -ℤ least a b) ≤ 32768
  low_most = diff p (least a b) h.start (least_of (λ z. nat_abs z ≤ 16384) a b h.from h.to)

  high_most : nat_abs (most a b -ℤ p) ≤ 32768
  high_most = diff (most a b) p (most_of (λ z. nat_abs z ≤ 16384) a b h.from h.to) h.start

  pub low_fits : SFits w64 (p -ℤ least a b)
  low_fits = fit _ (omega (arith, low_most))

  pub high_fits : SFits w64 (most a b -ℤ p)
  high_fits = fit _ (omega (arith, high_most))

  pub low : Slope (p -ℤ least a b) w
  low = record { base = omega (arith, low_most); slope = omega (arith, h.speed) }

  pub high : Slope (most a b -ℤ p) (neg_ℤ w)
  high = record { base = omega (arith, high_most); slope = rw (abs_neg w) (omega (arith, h.speed)) }

  -- as a call reads them
  pub within_read : (r t s : Span) → r ≡ within (word p) (word w) t (word a) (word b) → t ≡ s → r ≡ within p w s a b
  within_read r t s g e = g ∙ rw (e, back p (omega (arith, h.start)), back w (omega (arith, h.speed)), back a (omega (arith, h.from)), back b (omega (arith, h.to)))

module _ (p w a b : Pt) (h : Close p) (i : Slow w) (j : Close a) (k : Close b) where
  pub flat_x : Flat p.x w.x a.x b.x
  flat_x = record { start = h.x; speed = i.x; from = j.x; to = k.x }

  pub flat_y : Flat p.y w.y a.y b.y
  flat_y = record { start = h.y; speed = i.y; from = j.y; to = k.y }

-- ---- the first mark on an edge, by its tests
module _ (p w : Pt) (s : Span) (a b : Pt) where
  pub touch_aside : same_side (across p w a) (across p w b) ≡ true → touch p w s a b ≡ NONE
  unfolding touch
  touch_aside e = rw e

  pub touch_some : same_side (across p w a) (across p w b) ≡ false → some (on_edge p w s a b) ≡ true → touch p w s a b ≡ first (on_edge p w s a b)
  unfolding touch
  touch_some e f = rw (e, f)

  pub touch_none : same_side (across p w a) (across p w b) ≡ false → some (on_edge p w s a b) ≡ false → touch p w s a b ≡ NONE
  unfolding touch
  touch_none e f = rw (e, f)

-- ---- the band
pub tame_ticks : (t : ℕ) → t ≤ 4096 → Tame 32768 510 (ticks (pos t))
tame_ticks t h = record {
  begin = record { le = tt };
  end = record { le = le→leb t 4096 h };
  low = record { lt = tt };
  high = record { lt = tt };
  low_n = omega arith;
  low_d = omega arith;
  high_n = omega arith;
  high_d = omega arith;
}

abbrev pub climb : Run → Piece → ℤ
climb r k = r.speed.z -ℤ k.speed.z

module _ (r : Run) (k : Piece) (h : Level r k) where
  rise_most : nat_abs (climb r k) ≤ 510
  rise_most = omega (arith, abs_sub r.speed.z k.speed.z, h.rise, h.lift)

  pub over_bottom : Bounds 32768 510 (r.start.z -ℤ k.bottom) (climb r k)
  over_bottom = record { base = diff r.start.z k.bottom h.start h.bottom; slope = rise_most }

  pub under_top : Bounds 32768 510 (k.top -ℤ r.start.z) (neg_ℤ (climb r k))
  under_top = record { base = diff k.top r.start.z h.top h.start; slope = rw (abs_neg (climb r k)) rise_most }

  pub tame_band : Tame 32768 510 (band_span r k)
  unfolding band_span
  tame_band =
      tame_clip _ _ _ (tame_clip _ _ _ (tame_ticks r.ticks h.ticks) _ _ (omega arith) (omega arith) over_bottom) _ _ (omega arith) (omega arith) under_top

pub slope_of : (a b : ℤ) → Bounds 32768 510 a b → Slope a b
slope_of a b h = record { base = omega (arith, h.base); slope = omega (arith, h.slope) }

-- ---- the point over the denominator of a span's begin
module _ (d p n w : ℤ) (h : nat_abs d ≤ 510) (i : nat_abs p ≤ 16384) (j : nat_abs n ≤ 32768) (k : nat_abs w ≤ 510) where
  pub along_most : nat_abs (d *ℤ p +ℤ n *ℤ w) ≤ 25067520
  along_most = omega (arith, abs_add (d *ℤ p) (n *ℤ w), abs_mul_le d p 510 16384 h i, abs_mul_le n w 32768 510 j k)

  along_as_read : (P : ℤ → ℤ → Type 0) → P p w → P (word p) (word w)
  along_as_read P q = rw (back p (omega arith), back w (omega arith)) q

  pub along_steps : AlongSteps d (word p) n (word w)
  along_steps = along_as_read (λ p w. AlongSteps d p n w) (record {
    first = product d p (omega arith) (omega arith);
    second = product n w (omega arith) (omega arith);
    all = fit _ (omega (arith, along_most));
  })

  pub along_said : (r : ℤ) → r ≡ d *ℤ word p +ℤ n *ℤ word w → r ≡ d *ℤ p +ℤ n *ℤ w
  along_said r = along_as_read (λ p' w'. r ≡ d *ℤ p' +ℤ n *ℤ w' → r ≡ d *ℤ p +ℤ n *ℤ w) (λ e. e)

-- ---- the first mark within a span, by its tests
module _ (r : Ring) (p w : Pt) (s : Span) where
  pub first_mark_none : some s ≡ false → first_mark r p w s ≡ NONE
  unfolding first_mark
  first_mark_none e = rw e

  pub first_mark_here : some s ≡ true → contact (place (over s.low_d r) (start_point p w s)) ≡ true → first_mark r p w s ≡ first s
  unfolding first_mark
  first_mark_here e f = rw (e, f)

  pub first_mark_later : some s ≡ true → contact (place (over s.low_d r) (start_point p w s)) ≡ false → first_mark r p w s ≡ touches r p w s r.size
  unfolding first_mark
  first_mark_later e f = rw (e, f)

-- ---- numbers that are taken
speed_abs : (z : ℤ) → Speed z → nat_abs z ≤ 255
speed_abs z h = abs_by 255 z h.above h.below

module _ (r : Run) (k : Piece) (h : RunKnown r) (g : PieceKnown k) where
  pub level : Level r k
  level = record {
    start = reach_abs r.start.z (h 2 (omega arith));
    bottom = reach_abs k.bottom (g.band 0 (omega arith));
    top = reach_abs k.top (g.band 1 (omega arith)).0;
    rise = speed_abs r.speed.z (h 5 (omega arith));
    lift = speed_abs k.speed.z (g.band 4 (omega arith));
    ticks = h 6 (omega arith);
  }

  pub begins_close : Close (point_of r)
  begins_close = record { x = reach_abs r.start.x (h 0 (omega arith)); y = reach_abs r.start.y (h 1 (omega arith)) }

  pub motion_slow : Slow (motion r k)
  motion_slow = record {
    x = omega (arith, abs_sub r.speed.x k.speed.x, speed_abs r.speed.x (h 3 (omega arith)), speed_abs k.speed.x (g.band 2 (omega arith)));
    y = omega (arith, abs_sub r.speed.y k.speed.y, speed_abs r.speed.y (h 4 (omega arith)), speed_abs k.speed.y (g.band 3 (omega arith)));
  }
