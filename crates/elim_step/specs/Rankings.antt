-- A kept order of places by their keys, as a tree of matches: each node has the one of two others that comes first.
--   rank_for, first_rank        a place with its key; the first of two
--   AreMatches, IsRanking       the tree
--   key_at, IsFirst             the key of a place; a place before which no other one comes
use Rattle.std.specs.Prelude.{◌≡◌, ℕ, ◌+◌, ◌*◌, ◌<◌, ◌≤◌, List, false, Option, Some, None, length, slice_index_or, if◌then◌else◌}
use Rattle.elim_step.specs.declared.pick.Rank.{Rank}
use Rattle.elim_step.specs.Picks.{comes_before}

-- a place with its key, where it has one
abbrev pub rank_for : ℕ → Option ℕ → Option Rank
rank_for place None = None
rank_for place (Some key) = Some (record { key = key; number = place })

-- the one of two that comes first, where one is there
abbrev pub first_rank : Option Rank → Option Rank → Option Rank
first_rank None other = other
first_rank (Some rank) None = Some rank
first_rank (Some rank) (Some other) = if comes_before other.key other.number rank.key rank.number then Some other else Some rank

-- the key of what stands at a leaf
abbrev pub key_of : Option Rank → Option ℕ
key_of None = None
key_of (Some rank) = Some rank.key

abbrev pub node_at : List (Option Rank) → ℕ → Option Rank
node_at nodes n = slice_index_or nodes n None

-- each node below the size has the first of the two below it
abbrev pub AreMatches : ℕ → List (Option Rank) → Type 0
AreMatches size nodes = (n : ℕ) → 1 ≤ n → n < size → node_at nodes n ≡ first_rank (node_at nodes (2 * n)) (node_at nodes (2 * n + 1))

-- a tree of matches, at whose leaves the places stand, each where it has a key
pub record IsRanking (size : ℕ) (nodes : List (Option Rank)) : Type 0 where
  pub len : length nodes ≡ 2 * size
  pub leaves : (p : ℕ) → node_at nodes (size + p) ≡ rank_for p (key_of (node_at nodes (size + p)))
  pub matches : AreMatches size nodes

-- the number of a place that is there
abbrev pub number_for : Option Rank → Option ℕ
number_for None = None
number_for (Some rank) = Some rank.number

-- what is first, for these keys of places: no place where there is no key, and else one before which no other one comes, by key and then by number
abbrev pub IsFirst : (ℕ → Option ℕ) → Option ℕ → Type 0
IsFirst keys None = (p : ℕ) → keys p ≡ None
IsFirst keys (Some place) = (a : ℕ) × (keys place ≡ Some a) × ((p b : ℕ) → keys p ≡ Some b → comes_before b p a place ≡ false)
