use Rattle.decoupling_facts.proofs.JointTimes.{joint_satisfies}
use Rattle.decoupling_facts.proofs.laws.joint_schedules_satisfy.Goals as goal

pub returns : goal.returns
returns c = λ net valid e apart schedules each. joint_satisfies net valid e apart schedules each
