use Rattle.decoupling_facts.proofs.Decouplings.{widened_decouples}
use Rattle.decoupling_facts.proofs.laws.widened_is_decoupling.Goals as goal

pub returns : goal.returns
returns c = λ net valid summaries right arcs meeting joined final finals zero is_set value first zero_set set keeps e f at ws shared h.
    widened_decouples net valid summaries right arcs meeting joined final finals zero is_set value first zero_set set keeps e f at ws shared h
