use Rattle.decoupling_facts.proofs.Blockers.{blocker_there, blocker_unique}
use Rattle.decoupling_facts.proofs.laws.tight_ends_have_blockers.Goals as goal

pub returns : goal.returns
returns c = λ net final e w tight. (blocker_there net final e w tight, blocker_unique net final e w)
