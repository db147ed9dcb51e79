use Rattle.decoupling_facts.proofs.LocalNetworks.{local_consistent}
use Rattle.decoupling_facts.proofs.laws.local_networks_are_consistent.Goals as goal

pub returns : goal.returns
returns c = λ net valid agent entries summary value e first keeps within box each.
    local_consistent net agent valid entries summary value e first keeps within box each
