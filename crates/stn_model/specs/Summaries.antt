-- The summary of an agent: what its own arcs and private points mean to the points that others see (in outline from Boerkoel and
-- Durfee 2013): is_seen, IsSeenPair, entry_weight, IsEntryWeight, Entry, IsSummary.
use Rattle.std.specs.Prelude.{◌≡◌, ◌≢◌, ℕ, Bool, ℤ, ◌&&◌, ◌||◌, List, nat_eq, IsTrue, Option, Some, None, Contains}
use Rattle.std.specs.List.{AllByRecursion, AllPairs}
use Rattle.std.specs.Int.{int_min}
use Rattle.stn_model.specs.Net.{Net}
use Rattle.stn_model.specs.Kinds.{is_private_of, is_owned_by, is_shared}
use Rattle.stn_model.specs.Joined.{IsPath}
use Rattle.stn_model.specs.Inner.{IsInnerWeight}
use Rattle.stn_model.specs.Conflicts.{own_arcs, IsOwnConflict}

-- z and the shared points of the agent
abbrev pub is_seen : Net → ℕ → ℕ → Bool
is_seen net agent p = nat_eq p 0 || is_owned_by net agent p && is_shared net p

-- own arcs, without direction, join the two through private points alone
pub record IsSeenPair (net : Net) (agent i j : ℕ) : Type 0 where
  pub different : i ≢ j
  pub from : IsTrue (is_seen net agent i)
  pub to : IsTrue (is_seen net agent j)
  pub inner : List ℕ
  pub path : IsPath (own_arcs net agent) i j inner
  pub privately : AllByRecursion (λ p. IsTrue (is_private_of net agent p)) inner

-- the lesser of the horizon and the inner least weight, and the horizon where no walk is there
abbrev pub entry_weight : ℤ → Option ℤ → ℤ
entry_weight horizon None = horizon
entry_weight horizon (Some w) = int_min w horizon

-- the weight of a pair's entry
abbrev pub IsEntryWeight : Net → ℕ → ℕ → ℕ → ℤ → Type 0
IsEntryWeight net agent i j w =
    (o : Option ℤ) × IsInnerWeight (is_private_of net agent) (own_arcs net agent) i j o × (w ≡ entry_weight net.horizon o)

-- one entry of a summary
pub record Entry : Type 0 where
  pub from : ℕ
  pub to : ℕ
  pub weight : ℤ

-- the summary of an agent without an own conflict: exactly the seen pairs, each once, with their weights
pub record IsSummary (net : Net) (agent : ℕ) (entries : List Entry) : Type 0 where
  pub sound : (cycle : List ℕ) → IsOwnConflict net agent cycle → ⊥
  pub weights : AllByRecursion (λ e. IsSeenPair net agent e.from e.to × IsEntryWeight net agent e.from e.to e.weight) entries
  pub whole : (i j : ℕ) → IsSeenPair net agent i j → (w : ℤ) × Contains entries (record { from = i; to = j; weight = w })
  pub once : AllPairs (λ e f. e.from ≡ f.from → e.to ≡ f.to → ⊥) entries
