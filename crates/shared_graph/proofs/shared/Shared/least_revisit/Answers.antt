use Rattle.std.proofs.Common.{sym, subst}
use Rattle.std.specs.Prelude.{IfNone}
use Rattle.elim_step.specs.Ranked.{key_at}
use Rattle.shared_graph.specs.Firsts.{IsLeastRevisit}
use Rattle.shared_graph.specs.Histories.{SharedView}
use Rattle.shared_graph.specs.Readiness.{IsShut}
use Rattle.shared_graph.specs.States.{point_id}
use Rattle.shared_graph.proofs.graphs.Relaying.{least_ready, none_first}
use Rattle.shared_graph.proofs.shared.Shared.least_revisit.Goals as goal

pub returns-in_err-place-clause-none : goal.returns-in_err-place-clause-none
returns-in_err-place-clause-none c =
    let i = c.self.inside in
    let shut : IsShut c.args.self.now.face c.args.self.now.state =
    subst (λ (v : SharedView). IsShut v.face v.state) c.self.view_is
    (none_first i.graph.face c.self.invariant.0.interface i.graph.state (key_at i.ready) c.self.invariant.2.keys c.in_err-place.ensures) in
    subst (λ o. IfNone o (IsShut c.args.self.now.face c.args.self.now.state)) (sym c.from_residual.ensures) shut

pub returns-clause-some : goal.returns-clause-some
returns-clause-some c =
    let i = c.self.inside in
    let least =
    least_ready i.graph.face c.self.invariant.0.interface i.graph.state (key_at i.ready) c.self.invariant.2.keys c.in_ok-place.place
    c.in_ok-place.ensures in
    subst (λ (v : SharedView). IsLeastRevisit v.face v.state c.point_at.result) c.self.view_is
    (subst (λ n. IsLeastRevisit i.graph.face i.graph.state (point_id n)) (sym c.point_at.ensures) least)
