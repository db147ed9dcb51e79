-- What a solve leaves beside its cells, and which entries it may have: SectionView, is_solving, are_solving, has_line, have_lines.
use Rattle.std.specs.Prelude.{List, Bool, true, false}
use Rattle.std.specs.List.{list_all}
use Rattle.stn_model.specs.declared.ids.PointId.{PointId}
use Rattle.shared_graph.specs.declared.events.Entry.{Entry}
use Rattle.shared_graph.specs.declared.events.Event.{Event}
use Rattle.shared_graph.specs.declared.events.Event.TheVariants.{Publish, Eliminate, Stop, Revisit, Assign, Widen}

-- private points in the order in which they were eliminated, and the entries of the shared graph
pub record SectionView : Type 0 where
  pub private : List PointId
  pub entries : List Entry

-- the event is one of a solve that ends with least bounds: an agent publishes, or a point is eliminated or revisited
abbrev pub is_solving : Event → Bool
is_solving (Publish a) = true
is_solving (Eliminate k) = true
is_solving (Stop k i) = false
is_solving (Revisit k) = true
is_solving (Assign k v) = false
is_solving (Widen k end) = false

abbrev pub are_solving : List Entry → Bool
are_solving entries = list_all (λ e. is_solving e.event) entries

-- the event has a line in a journal: every one but a stop
abbrev pub has_line : Event → Bool
has_line (Publish a) = true
has_line (Eliminate k) = true
has_line (Stop k i) = false
has_line (Revisit k) = true
has_line (Assign k v) = true
has_line (Widen k end) = true

abbrev pub have_lines : List Entry → Bool
have_lines entries = list_all (λ e. has_line e.event) entries
