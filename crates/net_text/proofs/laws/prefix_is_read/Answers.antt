-- The law is a lemma.
use Rattle.net_text.proofs.ReadPrefix.{prefix_is_read}
use Rattle.net_text.proofs.laws.prefix_is_read.Goals as goal

pub returns : goal.returns
returns c = prefix_is_read
