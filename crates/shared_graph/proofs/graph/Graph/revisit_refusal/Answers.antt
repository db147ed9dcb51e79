use Rattle.std.proofs.Common.{ap, sym, ◌∙◌, ◌≡◌, true}
use Rattle.std.specs.Option.{option_map}
use Rattle.stn_model.specs.declared.ids.PointId.{PointId}
use Rattle.shared_graph.specs.Interfaces.{is_listed, owner_in}
use Rattle.shared_graph.proofs.graphs.Refusing.{listed_by, whole_at}
use Rattle.shared_graph.proofs.graph.Graph.revisit_refusal.Goals as goal

pub first_unvisited_later-requires-clause-taken : goal.first_unvisited_later-requires-clause-taken
first_unvisited_later-requires-clause-taken g c =
    let v = c.args.self.now in
    let listed : is_listed v.face c.args.point.0 ≡ true =
    listed_by c.owner.result (owner_in v.face c.args.point.0) c.is_none.result (rw (← c.self.view_is) c.owner.ensures) c.is_none.ensures c.if-is_none.false in
    whole_at v.face v.state c.args.point.0 listed (sym c.first_open.ensures ∙ ap (option_map (λ (p : PointId). p.0)) c.in_default-first_open.is)
