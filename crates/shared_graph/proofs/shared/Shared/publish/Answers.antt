use Rattle.std.proofs.Common.{◌≡◌, ◌+◌, ◌≤◌, ◌++◌, ◌∷◌, [], suc, None, arith, ap, sym, ◌∙◌, subst, length}
use Rattle.elim_step.specs.Ranked.{key_at}
use Rattle.shared_graph.specs.declared.events.Event.TheVariants.{Publish}
use Rattle.shared_graph.specs.Histories.{SharedView, unvisited_in}
use Rattle.shared_graph.specs.Interfaces.{IsFitting}
use Rattle.shared_graph.specs.Refusals.{refusal}
use Rattle.shared_graph.proofs.graphs.Histories.{published_entered, grown}
use Rattle.shared_graph.proofs.graphs.Relaying.{none_keyed, relay_found, unpublished_shuts}
use Rattle.shared_graph.proofs.shared.Shared.publish.Goals as goal

pub publish-requires-clause-fits : goal.publish-requires-clause-fits
publish-requires-clause-fits c = subst (λ (v : SharedView). IsFitting v.face c.args.agent.0 c.args.summary.now) (sym c.self.view_is) c.requires.fits

pub first_keys-requires-clause-none : goal.first_keys-requires-clause-none
first_keys-requires-clause-none c =
    let i = c.self.inside in
    let f = i.graph.face in
    let s = i.graph.state in
    let legal : refusal f s (record { by = c.args.by; event = Publish c.args.agent }) ≡ None =
    subst (λ (v : SharedView). refusal v.face v.state (record { by = c.args.by; event = Publish c.args.agent }) ≡ None) (sym c.self.view_is) c.requires.legal in
    none_keyed f s (key_at i.ready) c.self.invariant.2.keys (unpublished_shuts f s c.args.by c.args.agent.0 legal)

pub invariant_of-self-2 : goal.invariant_of-self-2
invariant_of-self-2 c =
    let i = c.self.inside in
    let f = i.graph.face in
    let s = i.graph.state in
    let fits : IsFitting f c.args.agent.0 c.args.summary.now =
    subst (λ (v : SharedView). IsFitting v.face c.args.agent.0 c.args.summary.now) (sym c.self.view_is) c.requires.fits in
    let legal : refusal f s (record { by = c.args.by; event = Publish c.args.agent }) ≡ None =
    subst (λ (v : SharedView). refusal v.face v.state (record { by = c.args.by; event = Publish c.args.agent }) ≡ None) (sym c.self.view_is) c.requires.legal in
    let room = c.in_ok-reserve.ensures.ok in
    let kept = c.push_reserved.ensures.capacity in
    let left = c.unvisited.ensures in
    let fit : suc (length i.journal.items + unvisited_in f s) ≤ c.push_reserved.new.self.cap =
    omega (arith, c.reserve.ensures.len, i.journal.ok.0) in
    let journal = grown f c.publish.new.self.face _ c.publish.new.self.state i.journal.items c.push_reserved.new.self.items
    (record { by = c.args.by; event = Publish c.args.agent }) c.push_reserved.new.self.cap c.in_ok-publish.ensures.face c.in_ok-publish.ensures.state
    (c.push_reserved.ensures.items ∙ ap (λ es. es ++ record { by = c.args.by; event = Publish c.args.agent } ∷ []) c.reserve.ensures.items)
    (published_entered f s i.journal.items c.self.invariant.0 c.args.by c.args.agent.0 c.args.summary.now legal fits) fit in (
      journal.0,
      journal.1,
      relay_found f c.publish.new.self.face s c.publish.new.self.state i.ready.size (key_at i.ready) i.all.items c.self.invariant.2
          c.in_ok-publish.ensures.face c.first_keys.new.ready.size (key_at c.first_keys.new.ready) c.first_keys.ensures.size c.first_keys.ensures.keys,
    )
