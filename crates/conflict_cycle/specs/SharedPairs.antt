-- Which pairs among z and the shared points are joined, over the whole network and in the shared graph: SharedPairsJoin.
use Rattle.std.specs.Prelude.{◌≡◌, ◌↔◌, ℕ, List, true}
use Rattle.stn_model.specs.Joined.{IsJoined}
use Rattle.stn_model.specs.Net.{Net, arcs_of}
use Rattle.stn_model.specs.Valid.{IsNetwork}
use Rattle.meeting_arcs.specs.Meeting.{meets}
use Rattle.private_elim.specs.ReducedViews.{ReducedView}
use Rattle.shared_graph.specs.declared.events.Entry.{Entry}
use Rattle.shared_graph.specs.Histories.{IsJournal}
use Rattle.shared_graph.specs.Interfaces.{interface_of}
use Rattle.shared_graph.specs.States.{State}
use Rattle.shared_graph.specs.Together.{IsAllPublished, IsWhole}
use Rattle.shared_graph.specs.Weights.{is_joined}
use Rattle.conflict_cycle.specs.Belongs.{AreReducedOf, ArePublishedOf}
use Rattle.conflict_cycle.specs.PartOrders.{order_of, AreReduced}

-- once all agents are published, with the summaries of their reduced parts, and all shared points are eliminated: the joined order joins two points
-- among z and the shared ones over all arcs of the network exactly where they are joined in the shared graph
abbrev pub SharedPairsJoin : Type 0
SharedPairsJoin =
    (net : Net) (reduced : List ReducedView) (s : State) (journal : List Entry) → IsNetwork net → AreReducedOf net reduced → AreReduced reduced
    → ArePublishedOf reduced s → IsJournal (interface_of net) s journal → IsAllPublished (interface_of net) s → IsWhole (interface_of net) s
    → (i j : ℕ) → meets net i ≡ true → meets net j ≡ true
    → IsJoined (arcs_of net) (order_of reduced s) i j ↔ (is_joined (interface_of net) s i j ≡ true)
