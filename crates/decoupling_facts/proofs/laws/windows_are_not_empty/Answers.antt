use Rattle.decoupling_facts.proofs.Windows.{window_not_empty}
use Rattle.decoupling_facts.proofs.laws.windows_are_not_empty.Goals as goal

pub returns : goal.returns
returns c = λ arcs joined final finals is_set value keeps k meet low high w. window_not_empty arcs joined final finals is_set value keeps k low high w meet
