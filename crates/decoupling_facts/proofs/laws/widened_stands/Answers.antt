use Rattle.decoupling_facts.proofs.Assignments.{widened_stands}
use Rattle.decoupling_facts.proofs.laws.widened_stands.Goals as goal

pub returns : goal.returns
returns c = λ g setting s h whole w is t put. widened_stands g setting s h whole w is t put
