use Rattle.std.proofs.Common.{ℕ, ap, sym, ◌∙◌, arith, ◌<◌, ◌≡◌, Vec, Global, length, get_or, map, below_more, true, false, subst}
use Rattle.shared_graph.specs.Graphs.{GraphView, flag_at, list_at, places_in}
use Rattle.shared_graph.proofs.graphs.Scans.{flag_read, list_read, later_below, first_unvisited, none_unvisited}
use Rattle.shared_graph.proofs.graph.Graph.first_unvisited_later.Goals as goal

pub loop-m-init : goal.loop-m-init
loop-m-init g c j low = absurd (omega arith)

pub index-requires-in-loop-m : goal.index-requires-in-loop-m
index-requires-in-loop-m g c =
    let e = c.self.inside in
    let v = c.args.self.now in
    let list = c.as_slice-m-items.result.now in
    let some = c.in-Some.ensures.some in
    let h = c.self.invariant in
    let low : c.in-Some.place < length (map (λ (l : Vec ℕ Global). l.items) e.later.items) =
    (let len = h.later_len in let same = ap length h.points in
    let lt : c.in-Some.place < length (places_in e.interface) =
    subst (λ (v : GraphView). c.in-Some.place < length (places_in v.face)) (sym c.self.view_is) some.0 in omega arith) in
    let read : list ≡ list_at (map (λ (l : Vec ℕ Global). l.items) e.later.items) c.in-Some.place =
    c.as_slice-m-items.ensures.value ∙ list_read (λ (l : Vec ℕ Global). l.items) e.later.items c.in-Some.place c.index.result.now low c.index.ensures in
    let below = later_below _ h v c.self.view_is c.in-Some.place c.args.point.0 some.0 some.1 c.requires.taken list read c.loop-m.m-index c.loop-m-test.true in
    let len = h.done_len in
    omega (arith, e.done.ok.0)

pub index-requires-then-not-index : goal.index-requires-then-not-index
index-requires-then-not-index g c =
    let e = c.self.inside in
    let v = c.args.self.now in
    let list = c.as_slice-m-items.result.now in
    let some = c.in-Some.ensures.some in
    let h = c.self.invariant in
    let low : c.in-Some.place < length (map (λ (l : Vec ℕ Global). l.items) e.later.items) =
    (let len = h.later_len in let same = ap length h.points in
    let lt : c.in-Some.place < length (places_in e.interface) =
    subst (λ (v : GraphView). c.in-Some.place < length (places_in v.face)) (sym c.self.view_is) some.0 in omega arith) in
    let read : list ≡ list_at (map (λ (l : Vec ℕ Global). l.items) e.later.items) c.in-Some.place =
    c.as_slice-m-items.ensures.value ∙ list_read (λ (l : Vec ℕ Global). l.items) e.later.items c.in-Some.place c.index.result.now low c.index.ensures in
    let below = later_below _ h v c.self.view_is c.in-Some.place c.args.point.0 some.0 some.1 c.requires.taken list read c.loop-m.m-index c.loop-m-test.true in
    omega (arith, e.points.ok.0)

pub returns-then-not-index : goal.returns-then-not-index
returns-then-not-index g c =
    let e = c.self.inside in
    let v = c.args.self.now in
    let list = c.as_slice-m-items.result.now in
    let some = c.in-Some.ensures.some in
    let h = c.self.invariant in
    let low : c.in-Some.place < length (map (λ (l : Vec ℕ Global). l.items) e.later.items) =
    (let len = h.later_len in let same = ap length h.points in
    let lt : c.in-Some.place < length (places_in e.interface) =
    subst (λ (v : GraphView). c.in-Some.place < length (places_in v.face)) (sym c.self.view_is) some.0 in omega arith) in
    let read : list ≡ list_at (map (λ (l : Vec ℕ Global). l.items) e.later.items) c.in-Some.place =
    c.as_slice-m-items.ensures.value ∙ list_read (λ (l : Vec ℕ Global). l.items) e.later.items c.in-Some.place c.index.result.now low c.index.ensures in
    let below = later_below _ h v c.self.view_is c.in-Some.place c.args.point.0 some.0 some.1 c.requires.taken list read c.loop-m.m-index c.loop-m-test.true in
    let inside : get_or list c.loop-m.m-index 0 < length e.done.items = (let len = h.done_len in omega arith) in
    first_unvisited _ h v c.self.view_is c.in-Some.place c.args.point.0 some.0 some.1 c.requires.taken list read c.loop-m.m-index
    c.index-then-not-index.result.now c.loop-m-test.true
    (flag_read e.done.items (get_or list c.loop-m.m-index 0) c.index-in-loop-m.result.now false inside c.index-in-loop-m.ensures c.if-not-index.true)
    c.loop-m.invariant c.index-then-not-index.ensures

pub loop-m-preserved : goal.loop-m-preserved
loop-m-preserved g c =
    let e = c.self.inside in
    let v = c.args.self.now in
    let list = c.as_slice-m-items.result.now in
    let some = c.in-Some.ensures.some in
    let h = c.self.invariant in
    let low : c.in-Some.place < length (map (λ (l : Vec ℕ Global). l.items) e.later.items) =
    (let len = h.later_len in let same = ap length h.points in
    let lt : c.in-Some.place < length (places_in e.interface) =
    subst (λ (v : GraphView). c.in-Some.place < length (places_in v.face)) (sym c.self.view_is) some.0 in omega arith) in
    let read : list ≡ list_at (map (λ (l : Vec ℕ Global). l.items) e.later.items) c.in-Some.place =
    c.as_slice-m-items.ensures.value ∙ list_read (λ (l : Vec ℕ Global). l.items) e.later.items c.in-Some.place c.index.result.now low c.index.ensures in
    let below = later_below _ h v c.self.view_is c.in-Some.place c.args.point.0 some.0 some.1 c.requires.taken list read c.loop-m.m-index c.loop-m-test.true in
    let inside : get_or list c.loop-m.m-index 0 < length e.done.items = (let len = h.done_len in omega arith) in
    below_more (λ j. flag_at e.done.items (get_or list j 0) ≡ true) c.loop-m.m-index c.loop-m.invariant
    (flag_read e.done.items (get_or list c.loop-m.m-index 0) c.index-in-loop-m.result.now true inside c.index-in-loop-m.ensures c.if-not-index.false)

pub returns : goal.returns
returns g c =
    let e = c.self.inside in
    let v = c.args.self.now in
    let list = c.as_slice-m-items.result.now in
    let some = c.in-Some.ensures.some in
    let h = c.self.invariant in
    let low : c.in-Some.place < length (map (λ (l : Vec ℕ Global). l.items) e.later.items) =
    (let len = h.later_len in let same = ap length h.points in
    let lt : c.in-Some.place < length (places_in e.interface) =
    subst (λ (v : GraphView). c.in-Some.place < length (places_in v.face)) (sym c.self.view_is) some.0 in omega arith) in
    let read : list ≡ list_at (map (λ (l : Vec ℕ Global). l.items) e.later.items) c.in-Some.place =
    c.as_slice-m-items.ensures.value ∙ list_read (λ (l : Vec ℕ Global). l.items) e.later.items c.in-Some.place c.index.result.now low c.index.ensures in
    none_unvisited _ h v c.self.view_is c.in-Some.place c.args.point.0 some.0 some.1 c.requires.taken list read
    (λ j lt. c.loop-m.invariant j (omega arith))
