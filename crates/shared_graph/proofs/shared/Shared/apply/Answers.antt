use Rattle.std.proofs.Common.{◌≡◌, ◌<◌, [], length, arith, sym, ◌∙◌, subst, None}
use Rattle.std.proofs.lemmas.List.{get_or_default}
use Rattle.shared_graph.specs.declared.events.Event.{Event}
use Rattle.shared_graph.specs.declared.events.Event.TheVariants.{Publish}
use Rattle.shared_graph.specs.Interfaces.{IsFitting}
use Rattle.shared_graph.specs.Refusals.{cause_of}
use Rattle.shared_graph.specs.Replays.{summary_of}
use Rattle.shared_graph.proofs.states.Passing.{no_stop, publish_passes}
use Rattle.shared_graph.proofs.shared.Shared.apply.Goals as goal

pub publish-requires-clause-fits : goal.publish-requires-clause-fits
publish-requires-clause-fits g c =
    let v = c.args.self.now in
    let legal : cause_of v.face v.state c.args.entry.by (Publish c.in-Publish.agent) ≡ None =
    subst (λ (e : Event). cause_of v.face v.state c.args.entry.by e ≡ None) c.in-Publish.is (no_stop v.face v.state c.args.entry c.requires.legal).1 in
    let low = (publish_passes v.face v.state c.args.entry.by c.in-Publish.agent.0 legal).0 in
    let lt : c.in-Publish.agent.0 < length c.args.summaries.now = (let len = c.requires.one_each in omega arith) in
    let same : c.index-summaries-agent.result ≡ summary_of c.args.summaries.now c.in-Publish.agent.0 =
    c.index-summaries-agent.is ∙ get_or_default c.args.summaries.now c.in-Publish.agent.0 c.index-summaries-agent.result [] lt in
    subst (IsFitting v.face c.in-Publish.agent.0) (sym same) (c.requires.fitting c.in-Publish.agent.0)
