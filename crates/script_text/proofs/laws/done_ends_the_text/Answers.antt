use Rattle.script_text.proofs.Feeds.{done_ends}
use Rattle.script_text.proofs.laws.done_ends_the_text.Goals as goal

pub returns : goal.returns
returns c = done_ends
