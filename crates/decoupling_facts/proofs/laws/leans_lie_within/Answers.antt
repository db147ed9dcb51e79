use Rattle.decoupling_facts.proofs.Windows.{lean_within}
use Rattle.decoupling_facts.proofs.laws.leans_lie_within.Goals as goal

pub returns : goal.returns
returns c = λ lean low high le. lean_within lean low high le
