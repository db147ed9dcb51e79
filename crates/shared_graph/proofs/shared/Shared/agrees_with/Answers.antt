use Rattle.std.proofs.Common.{◌≡◌, ℕ, ◌<◌, [], true, ap, ◌∙◌, arith, length, subst, below_more, refl}
use Rattle.std.proofs.lemmas.List.{get_or_default}
use Rattle.shared_graph.specs.Histories.{SharedView}
use Rattle.shared_graph.specs.Interfaces.{InterfaceView}
use Rattle.shared_graph.specs.Publications.{entries_in}
use Rattle.shared_graph.specs.Replays.{summary_of}
use Rattle.shared_graph.specs.States.{is_published}
use Rattle.shared_graph.proofs.graphs.Histories.{published_below}
use Rattle.shared_graph.proofs.shared.Shared.agrees_with.Goals as goal

pub loop-agent-init : goal.loop-agent-init
loop-agent-init c a low = absurd (omega arith)

pub loop-agent-preserved : goal.loop-agent-preserved
loop-agent-preserved c =
    let v = c.args.self.now in
    let many : c.agents-agent-end.result ≡ length v.face.leans =
    c.agents-agent-end.ensures ∙ ap (λ (f : InterfaceView). length f.leans) (c.interface.ensures.face)
    ∙ ap (λ (w : SharedView). length w.face.leans) c.self.view_is in
    let lt : c.loop-agent.agent < length c.args.summaries.now = (let len = c.requires in let low = c.loop-agent-test.true in omega arith) in
    let same = c.index-summaries-agent.is ∙ get_or_default c.args.summaries.now c.loop-agent.agent c.index-summaries-agent.result [] lt in
    below_more (λ a. is_published v.state a ≡ true → entries_in v.state.published a ≡ summary_of c.args.summaries.now a) c.loop-agent.agent
    c.loop-agent.invariant
    (λ there. c.agrees_at.ensures.0 c.if-not-agrees_at.false there ∙ same)

pub returns : goal.returns
returns c =
    let i = c.self.inside in
    let v = c.args.self.now in
    let many : c.agents-agent-end.result ≡ length v.face.leans =
    c.agents-agent-end.ensures ∙ ap (λ (f : InterfaceView). length f.leans) (c.interface.ensures.face)
    ∙ ap (λ (w : SharedView). length w.face.leans) c.self.view_is in
    let low : (a : ℕ) → is_published v.state a ≡ true → a < length v.face.leans =
    subst (λ (w : SharedView). (a : ℕ) → is_published w.state a ≡ true → a < length w.face.leans) c.self.view_is
    (published_below i.graph.face i.graph.state i.journal.items c.self.invariant.0) in
    (λ h a there. c.loop-agent.invariant a (let lt = low a there in let end = c.loop-agent-test.false in omega arith) there, λ h. refl)
