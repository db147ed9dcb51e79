-- When what a journal names is in a network: IsMakerIn, IsEventIn, IsEntryIn, ArePointsIn, AreEntriesIn.
use Rattle.std.specs.Prelude.{◌<◌, List, length}
use Rattle.std.specs.List.{All}
use Rattle.stn_model.specs.Net.{Net, point_count}
use Rattle.stn_model.specs.declared.ids.PointId.{PointId}
use Rattle.shared_graph.specs.declared.events.By.{By}
use Rattle.shared_graph.specs.declared.events.By.TheVariants.{Agent, Joiner}
use Rattle.shared_graph.specs.declared.events.Entry.{Entry}
use Rattle.shared_graph.specs.declared.events.Event.{Event}
use Rattle.shared_graph.specs.declared.events.Event.TheVariants.{Publish, Eliminate, Stop, Revisit, Assign, Widen}

-- the maker is the joiner, or one of the network's agents
abbrev pub IsMakerIn : Net → By → Type 0
IsMakerIn net (Agent a) = a.0 < length net.agents
IsMakerIn net Joiner = Unit {0}

-- the agent or the points of the event are the network's
abbrev pub IsEventIn : Net → Event → Type 0
IsEventIn net (Publish a) = a.0 < length net.agents
IsEventIn net (Eliminate k) = k.0 < point_count net
IsEventIn net (Stop k i) = (k.0 < point_count net) × (i.0 < point_count net)
IsEventIn net (Revisit k) = k.0 < point_count net
IsEventIn net (Assign k v) = k.0 < point_count net
IsEventIn net (Widen k end) = k.0 < point_count net

abbrev pub IsEntryIn : Net → Entry → Type 0
IsEntryIn net e = IsMakerIn net e.by × IsEventIn net e.event

abbrev pub ArePointsIn : Net → List PointId → Type 0
ArePointsIn net points = All (λ p. p.0 < point_count net) points

abbrev pub AreEntriesIn : Net → List Entry → Type 0
AreEntriesIn net entries = All (IsEntryIn net) entries
