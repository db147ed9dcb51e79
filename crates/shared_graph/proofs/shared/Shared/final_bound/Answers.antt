use Rattle.std.proofs.Common.{◌≡◌, subst}
use Rattle.shared_graph.specs.Histories.{SharedView}
use Rattle.shared_graph.specs.Weights.{final}
use Rattle.shared_graph.proofs.graphs.Histories.{finals_are_least}
use Rattle.shared_graph.proofs.shared.Shared.final_bound.Goals as goal

pub returns-clause-least : goal.returns-clause-least
returns-clause-least c =
    finals_are_least c.args.self.now c.args.i.0 c.args.j.0 c.final_bound.result
    (subst (λ (v : SharedView). c.final_bound.result ≡ final v.face v.state c.args.i.0 c.args.j.0) c.self.view_is c.final_bound.ensures.value)
