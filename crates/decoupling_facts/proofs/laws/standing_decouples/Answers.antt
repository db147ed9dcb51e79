use Rattle.decoupling_facts.proofs.Decouplings.{standing_decouples}
use Rattle.decoupling_facts.proofs.laws.standing_decouples.Goals as goal

pub returns : goal.returns
returns c = λ net valid summaries right arcs meeting order joined final setting s h whole.
    standing_decouples net valid summaries right arcs meeting order joined final setting s h whole
