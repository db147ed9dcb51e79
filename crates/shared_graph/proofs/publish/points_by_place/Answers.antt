use Rattle.std.proofs.Common.{◌≡◌, ◌<◌, ◌∙◌, ◌∷◌, ℕ, List, map, ap, subst, sym}
use Rattle.std.specs.List.{AllPairs}
use Rattle.std.proofs.lemmas.List.{take_all}
use Rattle.stn_model.specs.declared.ids.PointId.{PointId}
use Rattle.shared_graph.specs.Graphs.{places_in}
use Rattle.shared_graph.proofs.graphs.Standing.{places_rise}
use Rattle.shared_graph.proofs.publish.points_by_place.Goals as goal

pub returns-clause-rising : goal.returns-clause-rising
returns-clause-rising c =
    let shared = c.points-shared.result.now in
    let whole = take_all c.loop-point.point-index shared c.loop-point-test.false in
    let same : c.loop-point.points.items ≡ places_in c.args.interface.now =
    c.loop-point.invariant ∙ ap (λ ps. 0 ∷ map (λ (p : PointId). p.0) ps) whole ∙ ap (λ ps. 0 ∷ ps) c.points-shared.ensures.points in
    subst (λ (xs : List ℕ). AllPairs (λ p q. p < q) xs) (sym same) (places_rise c.args.interface.now c.points-shared.ensures.valid)
