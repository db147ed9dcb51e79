use Rattle.shared_graph.proofs.graphs.Histories.{journal_sound, told_fits}
use Rattle.shared_graph.proofs.shared.Shared.published.Goals as goal

pub returns-clause-fits : goal.returns-clause-fits
returns-clause-fits c =
    let i = c.self.inside in
    rw (← c.self.view_is) (told_fits c.published.result (λ s. s.now) i.graph.face i.graph.state c.args.agent.0
    (journal_sound i.graph.face i.graph.state i.journal.items c.self.invariant.0) c.published.ensures.some)
