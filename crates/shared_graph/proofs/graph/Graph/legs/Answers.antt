use Rattle.std.proofs.Common.{List, ℕ, ◌<◌, length, ◌∙◌, ap, sym, subst}
use Rattle.std.specs.List.{AllByRecursion}
use Rattle.elim_step.specs.declared.leaves.Leaf.{Leaf}
use Rattle.shared_graph.specs.Graphs.{GraphView, places_in}
use Rattle.shared_graph.proofs.graphs.Legs.{nothing_from, nothing_to}
use Rattle.shared_graph.proofs.graph.Graph.legs.Goals as goal

pub unreachable-requires : goal.unreachable-requires
unreachable-requires g c =
    let v = c.args.self.now in
    let p = c.in_default.ensures in
    nothing_from v.face p.interface v.state p.together c.args.i.0 c.args.j.0 p.none c.requires.apart c.requires.there

pub unreachable-requires-in_default-place_of : goal.unreachable-requires-in_default-place_of
unreachable-requires-in_default-place_of g c =
    let v = c.args.self.now in
    let p = c.in_default-place_of.ensures in
    nothing_to v.face p.interface v.state p.together c.args.i.0 c.args.j.0 p.none c.requires.apart c.requires.there

pub legs_of-requires : goal.legs_of-requires
legs_of-requires g c =
    subst (λ (leaves : List Leaf). AllByRecursion (λ (l : Leaf). (l.from < length c.as_slice.result.now) × (l.to < length c.as_slice.result.now)) leaves)
    (sym c.as_slice-2.ensures.value)
    (subst (λ (ps : List ℕ). AllByRecursion (λ (l : Leaf). (l.from < length ps) × (l.to < length ps)) c.in_ok-leaves.leaves.items)
    (sym (c.as_slice.ensures.value ∙ c.self.invariant.points ∙ ap (λ (v : GraphView). places_in v.face) c.self.view_is)) c.in_ok-leaves.ensures.within)
