-- What agents have published, as lists of arcs and cells lowered by them: entries_in, via_of, IsLaid, IsOldOrLaid, AreJoining,
-- HasRoomFor.
use Rattle.std.specs.Prelude.{◌≡◌, ◌≢◌, ℕ, ◌<◌, List, [], ◌∷◌, Bool, true, ◌==◌, length, Option, Some, None, ◌⊎◌, if◌then◌else◌}
use Rattle.stn_model.specs.declared.ids.AgentId.{AgentId}
use Rattle.stn_model.specs.declared.ids.Constraint.{Constraint}
use Rattle.stn_model.specs.Arcs.{from_at, to_at}
use Rattle.dist_rows.specs.declared.cell.Cell.{Cell}
use Rattle.dist_rows.specs.declared.cell.Via.{Via}
use Rattle.dist_rows.specs.declared.cell.Via.TheVariants.{Given, Published as PublishedBy}
use Rattle.elim_step.specs.Eliminated.{point_at}
use Rattle.elim_step.specs.Origins.{IsArcOf}
use Rattle.shared_graph.specs.Interfaces.{Summary}
use Rattle.shared_graph.specs.States.{Published}

-- what an agent published, the last time
abbrev pub entries_in : List Published → ℕ → Summary
entries_in [] agent = []
entries_in (p ∷ ps) agent = if agent == p.agent then p.entries else entries_in ps agent

-- where the weight of the arc of this number comes from: from an agent, or it is an external arc
abbrev pub via_of : Option AgentId → ℕ → Via
via_of None n = Given n
via_of (Some agent) n = PublishedBy agent

-- a cell that has the weight of one of these arcs between its places, and its origin
abbrev pub IsLaid : List ℕ → List Constraint → Option AgentId → ℕ → ℕ → Cell → Type 0
IsLaid points arcs agent p q c = (n : ℕ) × IsArcOf points arcs p q c n × (c.via ≡ via_of agent n)

-- a cell that is as it was, or has the weight of one of these arcs
abbrev pub IsOldOrLaid : List ℕ → List Constraint → Option AgentId → ℕ → ℕ → Option Cell → Option Cell → Type 0
IsOldOrLaid points arcs agent p q old new = (new ≡ old) ⊎ ((c : Cell) × (new ≡ Some c) × IsLaid points arcs agent p q c)

-- each of these arcs joins two different points of the list
pub record AreJoining (points : List ℕ) (arcs : List Constraint) : Type 0 where
  pub starts : (n : ℕ) → n < length arcs → (k : ℕ) × (k < length points) × (point_at points k ≡ from_at arcs n)
  pub ends : (n : ℕ) → n < length arcs → (k : ℕ) × (k < length points) × (point_at points k ≡ to_at arcs n)
  pub apart : (n : ℕ) → n < length arcs → from_at arcs n ≢ to_at arcs n

-- the pair of each of these arcs has room
abbrev pub HasRoomFor : List ℕ → List Constraint → (ℕ → ℕ → Bool) → Type 0
HasRoomFor points arcs has_room =
    (n p q : ℕ) → n < length arcs → p < length points → q < length points → from_at arcs n ≡ point_at points p → to_at arcs n ≡ point_at points q
    → has_room p q ≡ true
