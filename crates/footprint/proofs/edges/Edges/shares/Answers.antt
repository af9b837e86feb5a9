-- `edges::Edges::shares` is edges_share: each of the three tests is the definition's, of the corners that the edges' numbers name. Assumes nothing.
use Rattle.std.proofs.Common.{◌≡◌, Bool, not, ◌||◌, ℕ, refl, sym, ap, ◌∙◌}
use Rattle.rules.specs.Ring.{Pt, Ring, ring, from, to}
use Rattle.footprint.specs.Point.{pt}
use Rattle.footprint.specs.Shape.{boxes_apart, aside, edges_share}
use Rattle.footprint.proofs.Table.{all_apart}
use Rattle.footprint.proofs.edges.Edges.shares.Goals as goal
use Rattle.footprint.proofs.edges.Edges.shares.Goals.{After-apart}

-- what each test says of the edges i and j
abbrev apart_edges : Ring → ℕ → ℕ → Bool
apart_edges r i j = boxes_apart (from r i) (to r i) (from r j) (to r j)

abbrev aside_edges : Ring → ℕ → ℕ → Bool
aside_edges r i j = aside (from r i) (to r i) (from r j) (to r j)

side : (r : Ring) (i j : ℕ) (a b c d : Pt) {s : Bool} → s ≡ aside a b c d → a ≡ from r i → b ≡ to r i → c ≡ from r j → d ≡ to r j → s ≡ aside_edges r i j
side r i j a b c d e p q u v = rw (p, q, u, v) at e

told : (r : Ring) (i j : ℕ) {a s u : Bool} → a ≡ apart_edges r i j → s ≡ aside_edges r i j → u ≡ aside_edges r j i → not (a || (s || u)) ≡ edges_share r i j
told r i j d e f = rw (d, e, f)

-- by the boxes of the table
boxes : (c : After-apart) → c.apart.result ≡ apart_edges (ring c.args.self.corners.list.now) c.args.i c.args.j
boxes c = c.apart.ensures ∙ all_apart (ring c.args.self.corners.list.now) _ _ c.args.i c.args.j _ _ c.args.self.tabled.boxed c.requires.0 c.requires.1

pub returns-then-not-aside : goal.returns-then-not-aside
returns-then-not-aside c =
    let r = ring c.args.self.corners.list.now in
    let i = c.args.i in
    let j = c.args.j in
    let b = c.at-b.ensures ∙ ap r.at c.after.ensures.next in
    let d = c.at-d.ensures ∙ ap r.at c.after-2.ensures.next in
    let apart = sym c.if-apart.false ∙ boxes (goal.at.returns-then-not-aside c).After-apart in
    let first = sym c.if-not-aside.true ∙ side r i j (pt c.at-a.result) (pt c.at-b.result) (pt c.at-c.result) (pt c.at-d.result) c.aside.ensures c.at-a.ensures b c.at-c.ensures d in
    let second = side r j i (pt c.at-c.result) (pt c.at-d.result) (pt c.at-a.result) (pt c.at-b.result) c.aside-then-not-aside.ensures c.at-c.ensures d c.at-a.ensures b in
    told r i j apart first second

pub returns-else-not-aside : goal.returns-else-not-aside
returns-else-not-aside c =
    let r = ring c.args.self.corners.list.now in
    let i = c.args.i in
    let j = c.args.j in
    let b = c.at-b.ensures ∙ ap r.at c.after.ensures.next in
    let d = c.at-d.ensures ∙ ap r.at c.after-2.ensures.next in
    let apart = sym c.if-apart.false ∙ boxes (goal.at.returns-else-not-aside c).After-apart in
    let first = sym c.if-not-aside.false ∙ side r i j (pt c.at-a.result) (pt c.at-b.result) (pt c.at-c.result) (pt c.at-d.result) c.aside.ensures c.at-a.ensures b c.at-c.ensures d in
    ap not c.if-not-aside.false ∙ told r i j apart first refl
