use Rattle.decoupling_facts.proofs.Windows.{times_keep}
use Rattle.decoupling_facts.proofs.laws.times_keep_finals.Goals as goal

pub returns : goal.returns
returns c = λ arcs joined final finals was_set is_set before value keeps k low high w v above below next.
    times_keep arcs joined final finals was_set before keeps k low high w v above below is_set value next
