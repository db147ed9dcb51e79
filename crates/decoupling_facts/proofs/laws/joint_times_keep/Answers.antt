use Rattle.decoupling_facts.proofs.JointTimes.{joint_keeps}
use Rattle.decoupling_facts.proofs.laws.joint_times_keep.Goals as goal

pub returns : goal.returns
returns c = λ net valid e apart boxes times chosen. joint_keeps net valid e apart boxes times chosen
