use Rattle.decoupling_facts.proofs.Decouplings.{decoupled_consistent}
use Rattle.decoupling_facts.proofs.laws.decoupled_is_consistent.Goals as goal

pub returns : goal.returns
returns c = λ net valid e d. decoupled_consistent net valid e d
