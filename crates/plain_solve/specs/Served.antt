-- What is laid out for all points of a network from which least bounds are asked for.
use Rattle.stn_model.specs.Net.{Net, arcs_of, point_count}
use Rattle.stn_model.specs.Schedules.{IsConsistent}
use Rattle.plain_solve.specs.declared.sources.Sources.{Sources}
use Rattle.plain_solve.specs.Graphs.{IsGraph, IsTurned}
use Rattle.plain_solve.specs.QueueFacts.{IsLayout}

-- the arcs of the network turned round and laid out; some schedule satisfies the network
pub record Serves (net : Net) (s : Sources) : Type 0 where
  pub graph : IsGraph s.graph
  pub turned : IsTurned net s.graph.root s.graph
  pub layout : IsLayout s.graph s.layout
  pub consistent : IsConsistent (point_count net) (arcs_of net)
