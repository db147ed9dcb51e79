-- The law is a lemma.
use Rattle.net_text.proofs.UsedLines.{nothing_after_is_read}
use Rattle.net_text.proofs.laws.nothing_after_is_read.Goals as goal

pub returns : goal.returns
returns c = nothing_after_is_read
