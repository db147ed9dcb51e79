use Rattle.std.proofs.Common.{◌≡◌, ◌<◌, [], false, sym, ◌∙◌, arith, length, subst}
use Rattle.std.proofs.lemmas.List.{get_or_default}
use Rattle.shared_graph.specs.Histories.{SharedView, IsJournal}
use Rattle.shared_graph.specs.Interfaces.{IsFitting}
use Rattle.shared_graph.specs.Replays.{summary_of}
use Rattle.shared_graph.specs.States.{is_published}
use Rattle.shared_graph.proofs.graphs.Finishing.{least_publish, published_or_not}
use Rattle.shared_graph.proofs.graphs.Histories.{journal_sound}
use Rattle.shared_graph.proofs.shared.Shared.publish_left.Goals as goal

pub publish-requires-clause-fits : goal.publish-requires-clause-fits
publish-requires-clause-fits c =
    let v = c.args.self.now in
    let lt : c.args.agent.0 < length c.args.summaries.now = (let len = c.requires.one_each in let low = c.requires.within in omega arith) in
    let same : c.index-summaries-agent.result ≡ summary_of c.args.summaries.now c.args.agent.0 =
    c.index-summaries-agent.is ∙ get_or_default c.args.summaries.now c.args.agent.0 c.index-summaries-agent.result [] lt in
    subst (IsFitting v.face c.args.agent.0) (sym same) (c.requires.fitting c.args.agent.0)

pub returns-clause-finished : goal.returns-clause-finished
returns-clause-finished c =
    let i = c.self.inside in
    let v = c.args.self.now in
    let lt : c.args.agent.0 < length c.args.summaries.now = (let len = c.requires.one_each in let low = c.requires.within in omega arith) in
    let same : c.index-summaries-agent.result ≡ summary_of c.args.summaries.now c.args.agent.0 =
    c.index-summaries-agent.is ∙ get_or_default c.args.summaries.now c.args.agent.0 c.index-summaries-agent.result [] lt in
    let j : IsJournal v.face v.state v.journal = subst (λ (w : SharedView). IsJournal w.face w.state w.journal) c.self.view_is c.self.invariant.0 in
    let fresh : is_published v.state c.args.agent.0 ≡ false =
    subst (λ (w : SharedView). is_published w.state c.args.agent.0 ≡ false) c.self.view_is (sym c.is_published.ensures ∙ c.if-is_published.false) in
    let least =
    least_publish v.face j.interface v.state (journal_sound v.face v.state v.journal j) c.requires.going c.args.agent.0 c.requires.within fresh
    c.requires.before in
    published_or_not c.args.summaries.now v c.publish.new.self c.args.agent.0 c.index-summaries-agent.result c.publish.result c.requires.agree least same
    c.publish.ensures.face c.publish.ensures.state c.publish.ensures.journal c.publish.ensures.err
