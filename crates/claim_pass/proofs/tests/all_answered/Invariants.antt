use Rattle.std.specs.Prelude.{◌≡◌, vec_len}
use Rattle.claim_pass.proofs.tests.all_answered.Given as goal

-- no pass goes
abbrev pub invariant-loop-agent : goal.invariant-loop-agent
invariant-loop-agent g l = vec_len l.passes ≡ g.L.DeskName.agents
