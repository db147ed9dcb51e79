use Rattle.decoupling_facts.proofs.Windows.{times_within}
use Rattle.decoupling_facts.proofs.laws.times_lie_within.Goals as goal

pub returns : goal.returns
returns c = λ arcs joined final finals is_set value first zero keeps k set met. times_within arcs joined final finals is_set value keeps first zero k set met
