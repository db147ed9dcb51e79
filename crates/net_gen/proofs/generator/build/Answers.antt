use Rattle.std.proofs.Common.{ap, ◌∙◌, length}
use Rattle.std.proofs.lemmas.List.FromFn.{length-map-range_with_len}
use Rattle.stn_model.specs.Net.{Net}
use Rattle.net_gen.specs.Generated.{agent_at}
use Rattle.net_gen.proofs.generator.build.Goals as goal

pub add_points-requires-clause-agents : goal.add_points-requires-clause-agents
add_points-requires-clause-agents c =
    ap (λ (m : Net). length m.agents) c.in_ok-add_agents.ensures ∙ length-map-range_with_len agent_at 0 c.args.size
