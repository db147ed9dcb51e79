use Rattle.stn_model.proofs.NetLemmas.{lean_read}
use Rattle.stn_model.proofs.network.Network.lean.Goals as goal

pub returns : goal.returns
returns c = rw (← c.self.view_is) (lean_read c.self.inside c.args.agent.0 c.index.result.now c.index.ensures)
