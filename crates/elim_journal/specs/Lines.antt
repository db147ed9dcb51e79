-- The lines of a journal, each from its values; agents and points are written by name, a time as a number: maker_word, end_word, event_line,
-- entry_line, entry_lines, private_line, private_lines, section_text.
use Rattle.std.specs.Prelude.{ℕ, List, [], ◌∷◌, ◌++◌, codes}
use Rattle.std.specs.List.{flat_map}
use Rattle.std.specs.Fmt.{signed_decimal}
use Rattle.stn_model.specs.Net.{Net, agent_name_of, point_name_of}
use Rattle.stn_model.specs.declared.ids.PointId.{PointId}
use Rattle.net_text.specs.Plain.{line}
use Rattle.shared_graph.specs.declared.events.By.{By}
use Rattle.shared_graph.specs.declared.events.By.TheVariants.{Agent, Joiner}
use Rattle.shared_graph.specs.declared.events.End.{End}
use Rattle.shared_graph.specs.declared.events.End.TheVariants.{Low, High}
use Rattle.shared_graph.specs.declared.events.Entry.{Entry}
use Rattle.shared_graph.specs.declared.events.Event.{Event}
use Rattle.shared_graph.specs.declared.events.Event.TheVariants.{Publish, Eliminate, Stop, Revisit, Assign, Widen}
use Rattle.elim_journal.specs.Sections.{SectionView}

-- who made an entry: an agent by name, or the joiner
abbrev pub maker_word : Net → By → List ℕ
maker_word net (Agent a) = agent_name_of net a.0
maker_word net Joiner = codes "*"

-- an end of a window
abbrev pub end_word : End → List ℕ
end_word Low = codes "low"
end_word High = codes "high"

-- what happened, and by whom; a stop has no line
abbrev pub event_line : Net → List ℕ → Event → List ℕ
event_line net by (Publish a) = line (codes "publish") (agent_name_of net a.0 ∷ by ∷ [])
event_line net by (Eliminate k) = line (codes "eliminate") (point_name_of net k.0 ∷ by ∷ [])
event_line net by (Stop k i) = []
event_line net by (Revisit k) = line (codes "revisit") (point_name_of net k.0 ∷ by ∷ [])
event_line net by (Assign k v) = line (codes "assign") (point_name_of net k.0 ∷ signed_decimal v ∷ by ∷ [])
event_line net by (Widen k end) = line (codes "widen") (point_name_of net k.0 ∷ end_word end ∷ by ∷ [])

abbrev pub entry_line : Net → Entry → List ℕ
entry_line net e = event_line net (maker_word net e.by) e.event

-- entries, in their order
abbrev pub entry_lines : Net → List Entry → List ℕ
entry_lines net entries = flat_map (entry_line net) entries

-- a private point
abbrev pub private_line : Net → PointId → List ℕ
private_line net p = line (codes "private") (point_name_of net p.0 ∷ [])

-- private points, in their order
abbrev pub private_lines : Net → List PointId → List ℕ
private_lines net points = flat_map (private_line net) points

-- a whole section: its private points, and then its entries
abbrev pub section_text : Net → SectionView → List ℕ
section_text net s = line (codes "section") [] ++ private_lines net s.private ++ entry_lines net s.entries
