use Rattle.shared_graph.proofs.shared.Shared.forward.Goals as goal

pub returns-clause-origin : goal.returns-clause-origin
returns-clause-origin c = rw (← c.self.view_is) c.forward.ensures.origin
