use Rattle.std.proofs.Common.{◌≡◌, map}
use Rattle.std.specs.List.{range_with_len}
use Rattle.net_gen.specs.Generated.{agent_at}
use Rattle.net_gen.proofs.generator.add_agents.Given as goal

abbrev pub invariant-loop-agent : goal.invariant-loop-agent
invariant-loop-agent l = l.net ≡ record l.initial.net { agents = map agent_at (range_with_len 0 l.agent) }
