use Rattle.decoupling_facts.proofs.Assignments.{window_open}
use Rattle.decoupling_facts.proofs.laws.windows_stay_open.Goals as goal

pub returns : goal.returns
returns c = λ g setting s h k ready low high w. window_open g setting s h k ready low high w
