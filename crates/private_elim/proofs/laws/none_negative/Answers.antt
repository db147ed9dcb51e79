use Rattle.private_elim.proofs.walks.NoNegatives.{none_negative}
use Rattle.private_elim.proofs.laws.none_negative.Goals as goal

pub returns : goal.returns
returns c = none_negative
