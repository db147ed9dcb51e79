use Rattle.decoupling_facts.proofs.Assignments.{assigned_stands}
use Rattle.decoupling_facts.proofs.laws.assigned_stands.Goals as goal

pub returns : goal.returns
returns c = λ g setting s h k ready low high w v above below t put. assigned_stands g setting s h k ready low high w v above below t put
