use Rattle.std.proofs.Common.{◌≡◌, sym, ◌∙◌, subst, Some}
use Rattle.shared_graph.specs.Histories.{AreFitting}
use Rattle.shared_graph.specs.Interfaces.{InterfaceView, interface_of}
use Rattle.shared_graph.specs.Replays.{replay, fault_of}
use Rattle.shared_graph.specs.States.{start}
use Rattle.shared_graph.proofs.graphs.Histories.{verdict}
use Rattle.shared_graph.proofs.graphs.Replaying.{match_none, match_some}
use Rattle.shared_graph.proofs.states.Faults.{first_found}
use Rattle.shared_graph.proofs.shared.Shared.replay.Goals as goal

pub apply_all-requires-clause-fitting : goal.apply_all-requires-clause-fitting
apply_all-requires-clause-fitting c =
    subst (λ (f : InterfaceView). AreFitting f c.args.summaries.now) (sym c.in_ok-shared.ensures.face) c.requires.fitting

pub returns-in-None-clause-verdict : goal.returns-in-None-clause-verdict
returns-in-None-clause-verdict c net valid same right =
    let h = match_none _ _ c.in_ok-fault.fault c.in_ok-fault.ensures.applied c.in-None.is in
    let face = c.in_ok-shared.ensures.face ∙ same in
    let replays = subst (λ f. replay f c.args.summaries.now start c.args.entries.now ≡ Some c.apply_all.new.self.state) face h.2 in
    verdict c.apply_all.new.self net c.args.summaries.now valid (h.0 ∙ face) right
    (subst (λ es. replay (interface_of net) c.args.summaries.now start es ≡ Some c.apply_all.new.self.state) (sym h.1) replays)

pub returns-in-Some-clause-first : goal.returns-in-Some-clause-first
returns-in-Some-clause-first c =
    let fault = match_some _ _ c.in_ok-fault.fault (c.in-Some.place, c.in-Some.cause) c.in_ok-fault.ensures.applied c.in-Some.is in
    first_found c.args.interface c.args.summaries.now c.args.entries.now (record { place = c.in-Some.place; cause = c.in-Some.cause })
    (subst (λ f. fault_of f c.args.summaries.now start 0 c.args.entries.now ≡ Some (record { place = c.in-Some.place; cause = c.in-Some.cause }))
    c.in_ok-shared.ensures.face fault)
