use Rattle.shared_graph.proofs.graphs.TellOnce.{told_once}
use Rattle.shared_graph.proofs.shared.Shared.legs.Goals as goal

pub returns-clause-told : goal.returns-clause-told
returns-clause-told c =
    let i = c.self.inside in rw (← c.self.view_is) (told_once i.graph.face i.graph.state i.journal.items c.self.invariant.0)
