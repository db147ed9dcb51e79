use Rattle.std.proofs.Common.{ap, sym, ◌∙◌, not, refl, ◌≡◌, [], ◌∷◌, ◌&&◌, true, None}
use Rattle.std.specs.Option.{option_map}
use Rattle.stn_model.specs.declared.ids.PointId.{PointId}
use Rattle.stn_walk.specs.Eliminations.{is_in}
use Rattle.shared_graph.specs.Interfaces.{IsInterface, points_of, is_listed, owner_in}
use Rattle.shared_graph.specs.Together.{HoldsTogether}
use Rattle.shared_graph.specs.Weights.{first_passing, is_later}
use Rattle.shared_graph.specs.Windows.{is_assigned}
use Rattle.shared_graph.proofs.graphs.FirstTimes.{taken_of, first_of_all}
use Rattle.shared_graph.proofs.graphs.Refusing.{listed_by}
use Rattle.shared_graph.proofs.graph.Graph.assign_refusal.Goals as goal

pub first_unassigned_later-requires-clause-taken : goal.first_unassigned_later-requires-clause-taken
first_unassigned_later-requires-clause-taken g c =
    let v = c.args.self.now in
    let known : IsInterface v.face = rw (← c.self.view_is) c.self.invariant.interface in
    let together : HoldsTogether v.face v.state = rw (← c.self.view_is) c.self.invariant.together in
    let listed : is_listed v.face c.args.point.0 ≡ true =
    listed_by c.owner.result (owner_in v.face c.args.point.0) c.is_none.result (rw (← c.self.view_is) c.owner.ensures) c.is_none.ensures c.if-is_none.false in
    taken_of v.face known v.state together c.args.point.0 listed (sym c.first_unvisited.ensures ∙ ap (option_map (λ (p : PointId). p.0)) c.in_default.is)

pub wrong_value-requires-clause-first : goal.wrong_value-requires-clause-first
wrong_value-requires-clause-first g c =
    let v = c.args.self.now in
    let known : IsInterface v.face = rw (← c.self.view_is) c.self.invariant.interface in
    let together : HoldsTogether v.face v.state = rw (← c.self.view_is) c.self.invariant.together in
    let listed : is_listed v.face c.args.point.0 ≡ true =
    listed_by c.owner.result (owner_in v.face c.args.point.0) c.is_none.result (rw (← c.self.view_is) c.owner.ensures) c.is_none.ensures c.if-is_none.false in
    let none : v.state.assigned ≡ [] = rw (← c.self.view_is) refl in
    let done : first_passing (λ p. not (is_in v.state.revisited p)) (points_of v.face) ≡ None =
    sym c.first_unvisited.ensures ∙ ap (option_map (λ (p : PointId). p.0)) c.in_default.is in
    let alone : first_passing (λ p. is_later v.face v.state c.args.point.0 p && not (is_assigned v.state p)) (0 ∷ points_of v.face) ≡ None =
    sym c.first_unassigned_later.ensures ∙ ap (option_map (λ (p : PointId). p.0)) c.in_default-first_unassigned_later.is in
    first_of_all v.face known v.state together c.args.point.0 listed done alone none
