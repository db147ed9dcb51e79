use Rattle.decoupling_facts.proofs.Assignments.{start_stands}
use Rattle.decoupling_facts.proofs.laws.start_stands.Goals as goal

pub returns : goal.returns
returns c = λ g setting s h. start_stands g setting s h
