-- "Footprint, place and contact", the second paragraph: on, inside, outside. Assumes nothing.
use Rattle.std.specs.Prelude.{◌≡◌, ◌⊎◌, List, ◌∷◌, ℕ, zero, suc, ◌+◌, ◌*◌, ◌%◌, ◌<◌, ℤ, pos, ◌*ℤ◌, ◌≤ℤ◌, ◌<ℤ◌}
use Rattle.rules.specs.Reach.{Reach}
use Rattle.rules.specs.Ring.{Pt, times, Ring, from, to, On}
use Rattle.rules.specs.Refusal.{Check, each, refuse}
use Rattle.rules.specs.Good.{footprint_checks}

-- p lies on some edge
pub record OnRing (r : Ring) (p : Pt) : Type 0 where
  pub edge : ℕ
  pub below : edge < r.size
  pub on : On p (from r edge) (to r edge)

-- exactly one end has an x that is at most the point's
pub data Straddles (p a b : Pt) : Type 0 where
  rightward : a.x ≤ℤ p.x → p.x <ℤ b.x → Straddles p a b
  leftward : b.x ≤ℤ p.x → p.x <ℤ a.x → Straddles p a b

-- the edge's height at the point's x, y over m, is strictly above the point's
pub record Above (p a b : Pt) : Type 0 where
  pub m : ℤ
  pub y : ℤ
  pub some : pos 0 <ℤ m
  pub at : On (record { x = m *ℤ p.x; y = y }) (times m a) (times m b)
  pub above : (m *ℤ p.y) <ℤ y

abbrev pub Counted : Ring → Pt → ℕ → Type 0
Counted r p i = Straddles p (from r i) (to r i) × Above p (from r i) (to r i)

-- of the first n edges, k are counted
pub data Count (r : Ring) (p : Pt) : ℕ → ℕ → Type 0 where
  start : Count r p zero zero
  more : {n k : ℕ} → Counted r p n → Count r p n k → Count r p (suc n) (suc k)
  pass : {n k : ℕ} → (Counted r p n → ⊥) → Count r p n k → Count r p (suc n) k

pub data Where : Type 0 where
  on inside outside : Where

-- not on, and the edges counted leave this remainder by 2
pub record Parity (r : Ring) (p : Pt) (rest : ℕ) : Type 0 where
  pub off : OnRing r p → ⊥
  pub count : ℕ
  pub counts : Count r p r.size count
  pub parity : count % 2 ≡ rest

-- odd is inside, even is outside
abbrev pub Place : Ring → Pt → Where → Type 0
Place r p on = OnRing r p
Place r p inside = Parity r p 1
Place r p outside = Parity r p 0

-- what contact asks of the place
abbrev pub OnOrInside : Ring → Pt → Type 0
OnOrInside r p = OnRing r p ⊎ Parity r p 1

-- the point's own numbers, at the offsets 2 and 4
abbrev pub PointNumber : Pt → ℕ → Type 0
PointNumber p zero = Reach p.x
PointNumber p (suc n) = Reach p.y

-- a place is asked with the point's numbers looked at first
unfoldable pub place_checks : Pt → List ℤ → List Check
place_checks p l = each (λ j. PointNumber p j → ⊥) 2 (λ i. refuse 4 (2 + 2 * i) 0) ∷ footprint_checks l
