use Rattle.shared_graph.proofs.interfaces.Tables.{owner_missing, owner_found}
use Rattle.shared_graph.proofs.interface.Interface.owner.Goals as goal

pub returns-in-None : goal.returns-in-None
returns-in-None c =
    rw (← c.self.view_is) (owner_missing c.self.inside.owners.items c.deref.result.now c.args.p.0 c.deref.ensures.value c.in-None.ensures.lookup.0)

pub returns-in-Some : goal.returns-in-Some
returns-in-Some c =
    rw (← c.self.view_is)
    (owner_found c.self.inside.owners.items c.deref.result.now c.args.p.0 c.in-Some.owner.now c.deref.ensures.value c.in-Some.ensures.lookup.0
    c.in-Some.ensures.lookup.1)
