-- The key of a place in a ranking: key_at.
use Rattle.std.specs.Prelude.{ℕ, ◌+◌, Option}
use Rattle.elim_step.specs.Rankings.{node_at, key_of}
use Rattle.elim_step.specs.declared.ranking.Ranking.{Ranking}

-- the key of a place
abbrev pub key_at : Ranking → ℕ → Option ℕ
key_at r p = key_of (node_at r.nodes.items (r.size + p))
