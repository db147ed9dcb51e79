use Rattle.decoupling_facts.proofs.Boxes.{widest_there}
use Rattle.decoupling_facts.proofs.laws.widest_ends_are_there.Goals as goal

pub returns : goal.returns
returns c = λ final externals w e. widest_there final externals w e
