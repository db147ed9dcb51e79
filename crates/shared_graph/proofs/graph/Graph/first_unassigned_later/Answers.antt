use Rattle.std.proofs.Common.{ℕ, ap, sym, ◌∙◌, refl, arith, ◌<◌, ◌≡◌, Vec, Global, length, get_or, map, below_more, subst}
use Rattle.shared_graph.specs.Graphs.{GraphView, list_at, places_in}
use Rattle.shared_graph.proofs.graphs.Scans.{list_read, later_below, first_unassigned, none_unassigned}
use Rattle.shared_graph.proofs.graph.Graph.first_unassigned_later.Goals as goal

pub loop-m-init : goal.loop-m-init
loop-m-init g c j low = absurd (omega arith)

pub index-requires-then-m-ne0 : goal.index-requires-then-m-ne0
index-requires-then-m-ne0 g c =
    let e = c.self.inside in
    let v = c.args.self.now in
    let list = c.as_slice-m-items.result.now in
    let some = c.in-Some.ensures.some in
    let h = c.self.invariant in
    let low : c.in-Some.place < length (map (λ (l : Vec ℕ Global). l.items) e.later.items) =
    (let len = h.later_len in let same = ap length h.points in
    let lt : c.in-Some.place < length (places_in e.interface) =
    subst (λ (v : GraphView). c.in-Some.place < length (places_in v.face)) (sym c.self.view_is) some.0 in omega arith) in
    let read : list ≡ list_at (map (λ (l : Vec ℕ Global). l.items) e.later.items) c.in-Some.place =
    c.as_slice-m-items.ensures.value ∙ list_read (λ (l : Vec ℕ Global). l.items) e.later.items c.in-Some.place c.index.result.now low c.index.ensures in
    let below = later_below _ h v c.self.view_is c.in-Some.place c.args.point.0 some.0 some.1 c.requires.taken list read c.loop-m.m-index c.loop-m-test.true in
    omega (arith, e.points.ok.0)

pub returns-then-m-ne0 : goal.returns-then-m-ne0
returns-then-m-ne0 g c =
    let e = c.self.inside in
    let v = c.args.self.now in
    let list = c.as_slice-m-items.result.now in
    let some = c.in-Some.ensures.some in
    let h = c.self.invariant in
    let low : c.in-Some.place < length (map (λ (l : Vec ℕ Global). l.items) e.later.items) =
    (let len = h.later_len in let same = ap length h.points in
    let lt : c.in-Some.place < length (places_in e.interface) =
    subst (λ (v : GraphView). c.in-Some.place < length (places_in v.face)) (sym c.self.view_is) some.0 in omega arith) in
    let read : list ≡ list_at (map (λ (l : Vec ℕ Global). l.items) e.later.items) c.in-Some.place =
    c.as_slice-m-items.ensures.value ∙ list_read (λ (l : Vec ℕ Global). l.items) e.later.items c.in-Some.place c.index.result.now low c.index.ensures in
    first_unassigned _ h v c.self.view_is c.in-Some.place c.args.point.0 some.0 some.1 c.requires.taken list read refl c.loop-m.m-index
    c.index-then-m-ne0.result.now c.loop-m-test.true c.if-m-ne0.true c.loop-m.invariant c.index-then-m-ne0.ensures

pub loop-m-preserved : goal.loop-m-preserved
loop-m-preserved g c = below_more (λ j. get_or c.as_slice-m-items.result.now j 0 ≡ 0) c.loop-m.m-index c.loop-m.invariant c.if-m-ne0.false

pub returns : goal.returns
returns g c =
    let e = c.self.inside in
    let v = c.args.self.now in
    let list = c.as_slice-m-items.result.now in
    let some = c.in-Some.ensures.some in
    let h = c.self.invariant in
    let low : c.in-Some.place < length (map (λ (l : Vec ℕ Global). l.items) e.later.items) =
    (let len = h.later_len in let same = ap length h.points in
    let lt : c.in-Some.place < length (places_in e.interface) =
    subst (λ (v : GraphView). c.in-Some.place < length (places_in v.face)) (sym c.self.view_is) some.0 in omega arith) in
    let read : list ≡ list_at (map (λ (l : Vec ℕ Global). l.items) e.later.items) c.in-Some.place =
    c.as_slice-m-items.ensures.value ∙ list_read (λ (l : Vec ℕ Global). l.items) e.later.items c.in-Some.place c.index.result.now low c.index.ensures in
    none_unassigned _ h v c.self.view_is c.in-Some.place c.args.point.0 some.0 some.1 c.requires.taken list read refl
    (λ j lt. c.loop-m.invariant j (omega arith))
