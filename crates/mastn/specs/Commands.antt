-- What the commands of a script say of a network that was solved: is_built, are_built, IsOriginPair, IsLeastWindow, AreLeastWindows, entry_of,
-- SaysBounds, SaysProof, SaysCommand, SaysCommands.
use Rattle.std.specs.Prelude.{◌≡◌, ◌⊎◌, ℕ, ◌<◌, ◌+◌, ℤ, neg_ℤ, List, [], ◌∷◌, ◌++◌, Bool, true, false, map, length, slice_get, Some}
use Rattle.std.specs.List.{list_all}
use Rattle.stn_model.specs.declared.ids.PointId.{PointId}
use Rattle.stn_model.specs.Net.{Net, arcs_of, point_count}
use Rattle.stn_model.specs.Schedules.{IsLeastBound}
use Rattle.script_text.specs.declared.command.Command.{Command}
use Rattle.script_text.specs.declared.command.Command.TheVariants as command
use Rattle.schedule_report.specs.declared.window.Window3.{Window3}
use Rattle.schedule_report.specs.Parts.{bounds_part, windows_part, prove_part}
use Rattle.tri_solve.specs.declared.edge.Edge.{Edge}
use Rattle.joined_answer.specs.LeastBounds.{AreLeastBounds}
use Rattle.joined_answer.specs.LeastProofs.{IsProof}

-- the commands that are built
abbrev pub is_built : Command → Bool
is_built command.Bounds = true
is_built command.Windows = true
is_built (command.Prove from to) = true
is_built (command.Tighten arc) = false
is_built (command.Batch arcs) = false
is_built (command.Withdraw arc) = false
is_built command.Decouple = false
is_built (command.Choose point time) = false
is_built command.Execute = false
is_built (command.Advance time) = false
is_built (command.Do point) = false
is_built command.Schedule = false

abbrev pub are_built : List Command → Bool
are_built commands = list_all is_built commands

-- one of the points is z, the other another point of the network
abbrev pub IsOriginPair : Net → ℕ → ℕ → Type 0
IsOriginPair net i j = ((i ≡ 0) × (0 < j) × (j < point_count net)) ⊎ ((j ≡ 0) × (0 < i) × (i < point_count net))

-- the least window of a point: its greatest time is the least bound from z, and its least time the least bound to z with the sign changed
pub record IsLeastWindow (net : Net) (w : Window3) : Type 0 where
  pub high : IsLeastBound (point_count net) (arcs_of net) 0 w.point.0 w.hi
  pub low : IsLeastBound (point_count net) (arcs_of net) w.point.0 0 (neg_ℤ w.lo)

-- those of all points but z, by number
pub record AreLeastWindows (net : Net) (windows : List Window3) : Type 0 where
  pub one_each : length windows + 1 ≡ point_count net
  pub each : (k : ℕ) (w : Window3) → slice_get windows k ≡ Some w → (w.point.0 ≡ k + 1) × IsLeastWindow net w

-- a least bound as the report has it
abbrev pub entry_of : Edge → PointId × PointId × ℤ
entry_of e = (e.from, e.to, e.bound)

-- the least bounds of exactly the pairs that the order joins, by rising number of the first point and then of the second
pub record SaysBounds (net : Net) (order text : List ℕ) : Type 0 where
  pub edges : List Edge
  pub bounds : AreLeastBounds net order edges
  pub says : text ≡ bounds_part net (map entry_of edges)

-- the least bound from one point to another, a walk that has it and passes no point twice, and a schedule that attains it, in which each point is as
-- long after the one as its least bound from it
pub record SaysProof (net : Net) (from to : ℕ) (text : List ℕ) : Type 0 where
  pub bound : ℤ
  pub walk : List ℕ
  pub times : List ℤ
  pub shows : IsProof net from to bound walk times
  pub says : text ≡ prove_part net from to bound walk times

-- what a command says of a network that was solved in this order of its points
abbrev pub SaysCommand : Net → List ℕ → Command → List ℕ → Type 0
SaysCommand net order command.Bounds text = SaysBounds net order text
SaysCommand net order command.Windows text = (windows : List Window3) × AreLeastWindows net windows × (text ≡ windows_part net windows)
SaysCommand net order (command.Prove from to) text = SaysProof net from.0 to.0 text
SaysCommand net order (command.Tighten arc) text = ⊥
SaysCommand net order (command.Batch arcs) text = ⊥
SaysCommand net order (command.Withdraw arc) text = ⊥
SaysCommand net order command.Decouple text = ⊥
SaysCommand net order (command.Choose point time) text = ⊥
SaysCommand net order command.Execute text = ⊥
SaysCommand net order (command.Advance time) text = ⊥
SaysCommand net order (command.Do point) text = ⊥
SaysCommand net order command.Schedule text = ⊥

-- what commands say, one after another
abbrev pub SaysCommands : Net → List ℕ → List Command → List ℕ → Type 0
SaysCommands net order [] text = text ≡ []
SaysCommands net order (c ∷ commands) text =
    (first : List ℕ) × ((rest : List ℕ) × SaysCommand net order c first × SaysCommands net order commands rest × (text ≡ first ++ rest))
