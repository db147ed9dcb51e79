-- The law is a lemma.
use Rattle.net_text.proofs.BoundLines.{bound_is_two_arcs}
use Rattle.net_text.proofs.laws.bound_is_two_arcs.Goals as goal

pub returns : goal.returns
returns c = bound_is_two_arcs
