-- The law is a lemma.
use Rattle.script_text.proofs.Prefix.{prefix_is_read}
use Rattle.script_text.proofs.laws.prefix_is_read.Goals as goal

pub returns : goal.returns
returns c = prefix_is_read
