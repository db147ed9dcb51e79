-- The meeting arcs, all that agents know of each other: the external arcs, the entries of their summaries, and the two horizon arcs of each
-- shared point: meets, is_hidden, entry_arc, entry_arcs, shared_pairs, meeting_arcs, IsSeenArc, IsEntryOf, HasOnlyMeeting, IsMeeting, AreEntries,
-- AreSummaries.
use Rattle.std.specs.Prelude.{◌≡◌, ℕ, zero, suc, ◌<◌, Bool, true, ◌||◌, not, nat_eq, List, [], ◌++◌, ◌∷◌, map, length, slice_index_or, if◌then◌else◌}
use Rattle.std.specs.Prelude.{Contains, ◌⊎◌}
use Rattle.std.specs.List.{AllByRecursion}
use Rattle.stn_model.specs.declared.ids.Constraint.{Constraint}
use Rattle.stn_model.specs.Net.{Net, arcs_of, horizon_pair}
use Rattle.stn_model.specs.Kinds.{is_shared}
use Rattle.stn_model.specs.Conflicts.{external_arcs}
use Rattle.stn_model.specs.Summaries.{Entry, IsSeenPair, IsEntryWeight, IsSummary}

-- z and the shared points
abbrev pub meets : Net → ℕ → Bool
meets net p = nat_eq p 0 || is_shared net p

-- every other point
abbrev pub is_hidden : Net → ℕ → Bool
is_hidden net p = not (meets net p)

-- an entry as an arc
abbrev pub entry_arc : Entry → Constraint
entry_arc e = record { from = record { 0 = e.from }; to = record { 0 = e.to }; bound = e.weight }

-- the entries of all agents, by number
abbrev pub entry_arcs : List (List Entry) → List Constraint
entry_arcs [] = []
entry_arcs (entries ∷ summaries) = map entry_arc entries ++ entry_arcs summaries

-- the two horizon arcs of each shared point from 1 to n
abbrev pub shared_pairs : Net → ℕ → List Constraint
shared_pairs net zero = []
shared_pairs net (suc n) = shared_pairs net n ++ (if is_shared net (suc n) then horizon_pair net.horizon (suc n) else [])

-- all meeting arcs; an agent that has not published has no entries yet
abbrev pub meeting_arcs : Net → List (List Entry) → List Constraint
meeting_arcs net summaries = external_arcs net ++ shared_pairs net (length net.places) ++ entry_arcs summaries

-- an arc of the network between z and shared points
pub record IsSeenArc (net : Net) (a : Constraint) : Type 0 where
  pub listed : Contains (arcs_of net) a
  pub starts : meets net a.from.0 ≡ true
  pub ends : meets net a.to.0 ≡ true

-- an arc that is the entry of an agent
pub record IsEntryOf (summaries : List (List Entry)) (a : Constraint) : Type 0 where
  pub agent : ℕ
  pub known : agent < length summaries
  pub entry : Entry
  pub listed : Contains (slice_index_or summaries agent []) entry
  pub is : a ≡ entry_arc entry

-- a list of arcs, in any order, of which each is one of these two
abbrev pub HasOnlyMeeting : Net → List (List Entry) → List Constraint → Type 0
HasOnlyMeeting net summaries arcs = (a : Constraint) → Contains arcs a → IsSeenArc net a ⊎ IsEntryOf summaries a

-- and which has all external arcs and all entries
pub record IsMeeting (net : Net) (summaries : List (List Entry)) (arcs : List Constraint) : Type 0 where
  pub only : HasOnlyMeeting net summaries arcs
  pub externals : (a : Constraint) → Contains (external_arcs net) a → Contains arcs a
  pub entries : (agent : ℕ) (e : Entry) → agent < length summaries → Contains (slice_index_or summaries agent []) e → Contains arcs (entry_arc e)

-- each entry is that of a seen pair of its agent
pub record AreEntries (net : Net) (summaries : List (List Entry)) : Type 0 where
  pub each : (agent : ℕ) → agent < length summaries
      → AllByRecursion (λ e. IsSeenPair net agent e.from e.to × IsEntryWeight net agent e.from e.to e.weight) (slice_index_or summaries agent [])

-- one summary for each agent
pub record AreSummaries (net : Net) (summaries : List (List Entry)) : Type 0 where
  pub one_each : length summaries ≡ length net.agents
  pub each : (agent : ℕ) → agent < length net.agents → IsSummary net agent (slice_index_or summaries agent [])
