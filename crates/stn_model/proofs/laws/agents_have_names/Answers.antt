use Rattle.stn_model.proofs.FindLemmas.{agent_by_name, found_agent}
use Rattle.stn_model.proofs.laws.agents_have_names.Goals as goal

pub returns : goal.returns
returns c = λ net valid. (agent_by_name net valid, found_agent net)
