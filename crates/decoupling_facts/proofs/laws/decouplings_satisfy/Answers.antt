use Rattle.decoupling_facts.proofs.Decouplings.{decoupling_satisfies}
use Rattle.decoupling_facts.proofs.laws.decouplings_satisfy.Goals as goal

pub returns : goal.returns
returns c = λ net valid e d schedules each. decoupling_satisfies net valid e d schedules each
