use Rattle.decoupling_facts.proofs.Windows.{arcs_kept}
use Rattle.decoupling_facts.proofs.laws.times_keep_arcs.Goals as goal

pub returns : goal.returns
returns c = λ arcs joined final finals is_set value keeps a c from to. arcs_kept arcs joined final finals is_set value keeps a c from to
