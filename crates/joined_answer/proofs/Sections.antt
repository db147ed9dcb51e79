-- What the parts of a solve make of its record: whole_entries, entries_solve, legal_section, picked_orders, joined_is.
use Rattle.std.proofs.Common.{◌≡◌, ℕ, List, [], ◌∷◌, ◌++◌, true, get_or, Some, ap, sym, ◌∙◌, subst, reverse}
use Rattle.std.proofs.lemmas.List.{get_or-map}
use Rattle.std.proofs.lemmas.Option.{slice_get_within, get_or_from_slice_get}
use Rattle.stn_model.specs.declared.ids.PointId.{PointId}
use Rattle.stn_model.specs.Net.{Net}
use Rattle.private_elim.specs.Locals.{LocalView, local_of}
use Rattle.private_elim.specs.Picked.{ArePicked}
use Rattle.private_elim.specs.ReducedViews.{ReducedView}
use Rattle.shared_graph.specs.declared.events.Entry.{Entry}
use Rattle.shared_graph.specs.declared.events.Phase.TheVariants.{Order, Reverse}
use Rattle.shared_graph.specs.Histories.{SharedView, IsJournal}
use Rattle.shared_graph.specs.Interfaces.{InterfaceView, interface_of}
use Rattle.shared_graph.specs.Journals.{IsDone}
use Rattle.shared_graph.specs.Replays.{replay}
use Rattle.shared_graph.specs.States.{start, point_id}
use Rattle.elim_journal.specs.Sections.{SectionView, are_solving}
use Rattle.agent_worker.specs.Forwards.{ArePartsOf}
use Rattle.agent_worker.specs.Works.{AreReducedFrom}
use Rattle.agent_worker.proofs.Parts.{part_at}
use Rattle.agent_worker.proofs.Phases.{none_stops}
use Rattle.joined_answer.specs.Joins.{AreWholeEntries, ArePrivateOrders, ArePickedOrders, IsLegalSection, IsJoined, SolvedBy, orders_of}
use Rattle.joined_answer.proofs.Orders.{numbers, solving, eliminated_are}

-- the entries of a whole graph
pub whole_entries : (net : Net) (reduced : List ReducedView) (v : SharedView) (entries : List Entry) → SolvedBy net reduced v
    → IsJournal v.face v.state v.journal → entries ≡ v.journal → AreWholeEntries net entries
whole_entries net reduced v entries h j is = record {
  summaries = h.stands.summaries;
  right = h.stands.right;
  state = v.state;
  replays = subst (λ es. replay (interface_of net) h.stands.summaries start es ≡ Some v.state) (sym is) h.stands.replays;
  going = none_stops v j h.ordered;
  ordered = subst (λ (f : InterfaceView). IsDone f v.state Order) h.stands.face h.ordered;
  revisited = subst (λ (f : InterfaceView). IsDone f v.state Reverse) h.stands.face h.revisited;
}

pub entries_solve : (net : Net) (reduced : List ReducedView) (v : SharedView) (entries : List Entry) → SolvedBy net reduced v
    → IsJournal v.face v.state v.journal → entries ≡ v.journal → are_solving entries ≡ true
entries_solve net reduced v entries h j is =
    ap are_solving is
    ∙ solving (interface_of net) h.stands.summaries v.journal start v.state h.stands.replays (none_stops v j h.ordered) h.before

-- and with the private orders the record is legal
pub legal_section : (net : Net) (reduced : List ReducedView) (v : SharedView) (section : SectionView) → SolvedBy net reduced v
    → IsJournal v.face v.state v.journal → section.entries ≡ v.journal → ArePrivateOrders net (numbers section.private) (orders_of reduced)
    → IsLegalSection net section
legal_section net reduced v section h j is orders =
    record { orders = orders_of reduced; private = orders; entries = whole_entries net reduced v section.entries h j is }

-- the joined order is that of the record
pub joined_is : (net : Net) (reduced : List ReducedView) (v : SharedView) (network : Net) (shared order : List PointId) (section : SectionView)
    → SolvedBy net reduced v → network ≡ net → reverse (numbers shared) ≡ v.state.order → section.entries ≡ v.journal
    → order ≡ section.private ++ shared ++ point_id 0 ∷ []
    → IsJoined (record { network = network; order = order; section = section })
joined_is net reduced v network shared order section h same turned is made =
    subst (λ n. IsJoined (record { network = n; order = order; section = section })) (sym same)
    (record {
      network = h.network;
      consistent = h.consistent;
      order =
          made
          ∙ ap (λ ps. section.private ++ ps ++ point_id 0 ∷ [])
          (eliminated_are (interface_of net) h.stands.summaries section.entries v.state shared
          (subst (λ es. replay (interface_of net) h.stands.summaries start es ≡ Some v.state) (sym is) h.stands.replays) turned);
    })

-- each private point is one that the picker allows
pub picked_orders : (answers : ℕ → ℕ → ℕ → Type 0) (net : Net) (face : InterfaceView) (locals : List LocalView) (reduced : List ReducedView)
    (section : SectionView) → ArePartsOf net face locals → AreReducedFrom answers locals reduced
    → ArePrivateOrders net (numbers section.private) (orders_of reduced) → ArePickedOrders answers net section
picked_orders answers net face locals reduced section parts from orders = record {
  orders = orders_of reduced;
  private = orders;
  picked = λ a low.
      let part = part_at answers net face locals parts reduced from a low in
      let within = slice_get_within reduced a part.0 part.1 in
      let order : get_or (orders_of reduced) a [] ≡ part.0.order =
      get_or-map (λ (r : ReducedView). r.order) reduced a part.0 [] within
      ∙ ap (λ (r : ReducedView). r.order) (get_or_from_slice_get reduced a part.0 part.0 part.1) in
      subst (λ xs. ArePicked answers (local_of net a) (reverse xs)) (sym order) part.2.picked;
}
