-- What is left of the items adds what is left to add; each item before added a point.
use Rattle.std.proofs.Common.{◌≡◌, ◌≤◌, length, drop}
use Rattle.serde_json.specs.View.{items_view}
use Rattle.json_net.specs.Networks.{read_each, read_point}
use Rattle.json_net.proofs.agents.points.Given as goal

abbrev pub invariant-loop-i : goal.invariant-loop-i
invariant-loop-i l = record {
  said : read_each (read_point l.agent.0) l.path l.fn.net 0 (items_view l.item-items)
      ≡ read_each (read_point l.agent.0) l.path l.net l.i (items_view (drop l.i l.item-items));
  few : l.i ≤ length l.net.places;
  agents : l.net.agents ≡ l.fn.net.agents;
}
