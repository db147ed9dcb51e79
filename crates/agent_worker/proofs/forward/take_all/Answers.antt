use Rattle.std.proofs.Common.{rules, ◌≡◌, length, map, ap, sym, ◌∙◌, subst}
use Rattle.std.proofs.lemmas.Result.{IfOk-weaker}
use Rattle.private_elim.specs.ReducedViews.{ReducedView}
use Rattle.shared_graph.specs.Histories.{AreFitting}
use Rattle.shared_graph.specs.Interfaces.{InterfaceView}
use Rattle.agent_worker.specs.Forwards.{IsForward}
use Rattle.agent_worker.specs.Works.{IsGathered}
use Rattle.agent_worker.proofs.Comings.{forward_of}
use Rattle.agent_worker.proofs.Gathers.{gathered_parts, gathered_conflict}
use Rattle.agent_worker.proofs.Parts.{numbered_parts, agents_of, fits}
use Rattle.agent_worker.proofs.forward.take_all.Goals as goal

pub run_all-requires-clause-numbered : goal.run_all-requires-clause-numbered
run_all-requires-clause-numbered g c =
    search (rules, numbered_parts c.requires.parts.0 c.args.interface c.args.locals.now c.requires.parts.1)

pub join-requires-clause-one_each : goal.join-requires-clause-one_each
join-requires-clause-one_each g c =
    let from = gathered_parts _ c.args.locals.now c.in_ok-closed.results.items c.in_ok-closed.ensures c.in-Reduced.reduced.items
    (subst (IsGathered c.in_ok-closed.results.items) c.in-Reduced.is c.in_ok-gathered.ensures) in
    let all : length c.in-Reduced.reduced.items ≡ length c.in_ok-kept.kept.face.leans =
    from.one_each ∙ agents_of c.requires.parts.0 c.args.interface c.args.locals.now c.requires.parts.1
    ∙ ap (λ (f : InterfaceView). length f.leans) (sym (c.in_ok-kept.ensures.face ∙ c.in_ok-copy.ensures)) in
    search (rules, all)

pub join-requires-clause-fitting : goal.join-requires-clause-fitting
join-requires-clause-fitting g c =
    let from = gathered_parts _ c.args.locals.now c.in_ok-closed.results.items c.in_ok-closed.ensures c.in-Reduced.reduced.items
    (subst (IsGathered c.in_ok-closed.results.items) c.in-Reduced.is c.in_ok-gathered.ensures) in
    subst (λ (f : InterfaceView). AreFitting f (map (λ (r : ReducedView). r.summary) c.in-Reduced.reduced.items))
    (sym (c.in_ok-kept.ensures.face ∙ c.in_ok-copy.ensures))
    (fits _ c.requires.parts.0 c.args.interface c.args.locals.now c.requires.parts.1 c.in-Reduced.reduced.items from)

pub returns-in-PrivateConflict : goal.returns-in-PrivateConflict
returns-in-PrivateConflict g c =
    gathered_conflict _ c.args.locals.now c.in_ok-closed.results.items c.in_ok-closed.ensures c.in-PrivateConflict.agent.0 c.in-PrivateConflict.walk
    (subst (IsGathered c.in_ok-closed.results.items) c.in-PrivateConflict.is c.in_ok-gathered.ensures).0
    (subst (IsGathered c.in_ok-closed.results.items) c.in-PrivateConflict.is c.in_ok-gathered.ensures).1

pub returns-in-Reduced : goal.returns-in-Reduced
returns-in-Reduced g c =
    let from = gathered_parts _ c.args.locals.now c.in_ok-closed.results.items c.in_ok-closed.ensures c.in-Reduced.reduced.items
    (subst (IsGathered c.in_ok-closed.results.items) c.in-Reduced.is c.in_ok-gathered.ensures) in
    let face = c.in_ok-kept.ensures.face ∙ c.in_ok-copy.ensures in
    IfOk-weaker c.join.result (IsForward c.args.interface c.in-Reduced.reduced.items) _
    (λ f h. forward_of _ c.args.interface c.args.locals.now c.in-Reduced.reduced.items f from h) (rw face at c.join.ensures)
