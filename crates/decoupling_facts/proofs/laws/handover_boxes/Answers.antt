use Rattle.decoupling_facts.proofs.Handover.{handover_holds}
use Rattle.decoupling_facts.proofs.laws.handover_boxes.Goals as goal

pub returns : goal.returns
returns c = handover_holds
