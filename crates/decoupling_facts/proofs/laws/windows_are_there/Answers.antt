use Rattle.decoupling_facts.proofs.Windows.{window_there}
use Rattle.decoupling_facts.proofs.laws.windows_are_there.Goals as goal

pub returns : goal.returns
returns c = λ final value k j js. window_there final value k j js
