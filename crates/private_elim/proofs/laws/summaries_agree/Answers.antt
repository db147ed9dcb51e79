use Rattle.private_elim.proofs.summary.SameSummaries.{summaries_same}
use Rattle.private_elim.proofs.laws.summaries_agree.Goals as goal

pub returns : goal.returns
returns c = summaries_same
