use Rattle.std.proofs.Common.{◌<◌, ◌∙◌, ℕ, List, subst, sym}
use Rattle.std.specs.List.{AllPairs}
use Rattle.shared_graph.proofs.graphs.Standing.{places_rise}
use Rattle.shared_graph.proofs.graphs.Seeking.{nowhere_listed}
use Rattle.shared_graph.proofs.graph.Graph.place_of.Goals as goal

pub place_among-requires : goal.place_among-requires
place_among-requires g c =
    let same = c.as_slice.ensures.value ∙ c.self.invariant.points in
    record { rising = subst (λ (xs : List ℕ). AllPairs (λ p q. p < q) xs) (sym same) (places_rise c.self.inside.interface c.self.invariant.interface) }

pub returns-clause-none : goal.returns-clause-none
returns-clause-none g c =
    let same = c.as_slice.ensures.value ∙ c.self.invariant.points in
    rw (← c.self.view_is) (nowhere_listed c.self.inside.interface c.self.invariant.interface c.as_slice.result.now same c.args.point.0
    c.place_among.result c.place_among.ensures.none)
