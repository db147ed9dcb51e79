-- The law is a lemma.
use Rattle.script_text.proofs.ReadBack.{written_script_is_read}
use Rattle.script_text.proofs.laws.written_script_is_read.Goals as goal

pub returns : goal.returns
returns c = written_script_is_read
