use Rattle.std.specs.Prelude.{◌≡◌, ℕ, ◌+◌, ◌<◌, vec_len, slice_index_or}
use Rattle.claim_pass.proofs.desk.Desk.start.Given as goal

abbrev pub invariant-loop-agent : goal.invariant-loop-agent
invariant-loop-agent g l =
    (l.rest.parts + l.agent ≡ l.agents) × (l.rest.amount ≡ 0) × (vec_len l.passes ≡ l.agent)
    × ((i : ℕ) (d : _) → i < l.agent → ((slice_index_or l.passes.items i d).agent ≡ i) × ((slice_index_or l.passes.items i d).count ≡ 0))
