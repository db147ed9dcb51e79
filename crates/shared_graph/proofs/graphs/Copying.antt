-- What a graph is where its list of revisited points has other room, and where parts have other names: refitted, renamed.
use Rattle.std.proofs.Common.{◌≡◌, ℕ, ◌+◌, ◌≤◌, List, length}
use Rattle.shared_graph.specs.Graphs.{Fields, IsGraph}
use Rattle.shared_graph.specs.Interfaces.{InterfaceView}
use Rattle.shared_graph.specs.States.{State}

pub renamed : (g : Fields) → IsGraph g → (face : InterfaceView) (state : State) (points : List ℕ) → face ≡ g.face → state ≡ g.state → points ≡ g.points
    → IsGraph (record g { face = face; state = state; points = points })
renamed g h face state points same_face same_state same_points = rw (same_face, same_state, same_points) h

pub refitted : (g : Fields) → IsGraph g → (room : ℕ) → length g.state.revisited + g.unvisited ≤ room → IsGraph (record g { revisit_room = room })
refitted g h room fits = record {
  interface = h.interface;
  together = h.together;
  points = h.points;
  places = h.places;
  joins_size = h.joins_size;
  cells = h.cells;
  origins = h.origins;
  sums = h.sums;
  joined = h.joined;
  later_len = h.later_len;
  later = λ k low gone. (let l = h.later k low gone in record { rising = l.rising; within = l.within; each = l.each; room = l.room });
  final_places = h.final_places;
  finals = h.finals;
  done_len = h.done_len;
  done = h.done;
  unpublished = h.unpublished;
  untaken = h.untaken;
  unvisited = h.unvisited;
  revisits_fit = fits;
  throughs = h.throughs;
  gone = h.gone;
}
