-- The law is a lemma.
use Rattle.script_text.proofs.Tested.{lines_are_tested}
use Rattle.script_text.proofs.laws.lines_are_tested.Goals as goal

pub returns : goal.returns
returns c = lines_are_tested
