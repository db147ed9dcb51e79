use Rattle.std.proofs.Common.{ap, sym, ◌∙◌, Some, None}
use Rattle.std.specs.Prelude.{is_some, if◌then◌else◌}
use Rattle.elim_step.specs.Eliminated.{point_at}
use Rattle.shared_graph.specs.Graphs.{places_in}
use Rattle.shared_graph.proofs.graphs.Readied.{key_is}
use Rattle.shared_graph.proofs.graph.Graph.revisit_key.Goals as goal

pub returns-in-None : goal.returns-in-None
returns-in-None g c =
    let v = c.args.self.now in
    sym (ap (λ o. if is_some o then None else Some 0) c.in-None.is)
    ∙ key_is v.face v.state (point_at (places_in v.face) c.args.place) c.point_at.result c.refusal.result c.point_at.ensures c.refusal.ensures

pub returns-in-Some : goal.returns-in-Some
returns-in-Some g c =
    let v = c.args.self.now in
    sym (ap (λ o. if is_some o then None else Some 0) c.in-Some.is)
    ∙ key_is v.face v.state (point_at (places_in v.face) c.args.place) c.point_at.result c.refusal.result c.point_at.ensures c.refusal.ensures
