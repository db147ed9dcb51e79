use Rattle.stn_model.specs.Joined.{IsJoined}
use Rattle.stn_model.specs.Net.{arcs_of}
use Rattle.shared_graph.specs.Weights.{final}
use Rattle.conflict_cycle.specs.PartOrders.{order_of}
use Rattle.conflict_cycle.proofs.Nexts.{next_bound, next_whole, told_some, told_least, told_none}
use Rattle.conflict_cycle.proofs.PartBounds.{held_by}
use Rattle.conflict_cycle.proofs.parts.Parts.next.Goals as goal

pub returns-clause-some : goal.returns-clause-some
returns-clause-some c net belongs =
    let self = c.args.self.now in
    let v = c.shared-shared.result.now in
    let held = held_by self v c.shared-shared.ensures.shared c.interface-face.ensures.together in
    told_some (IsJoined (arcs_of net) (order_of self.reduced self.shared.state) c.args.i.0) c.args.after c.lesser.result
    (next_whole self c.shared-shared.ensures.known held net belongs v c.shared-shared.ensures.shared c.args.i.0 c.args.after
    c.next_private-private.result c.next_final.result c.lesser.result c.next_private-private.ensures
    (next_bound (final v.face v.state c.args.i.0) c.args.after c.next_final.result c.next_final.ensures.some c.next_final.ensures.least
    c.next_final.ensures.none) c.lesser.ensures)

pub returns-clause-least : goal.returns-clause-least
returns-clause-least c net belongs =
    let self = c.args.self.now in
    let v = c.shared-shared.result.now in
    let held = held_by self v c.shared-shared.ensures.shared c.interface-face.ensures.together in
    told_least (IsJoined (arcs_of net) (order_of self.reduced self.shared.state) c.args.i.0) c.args.after c.lesser.result
    (next_whole self c.shared-shared.ensures.known held net belongs v c.shared-shared.ensures.shared c.args.i.0 c.args.after
    c.next_private-private.result c.next_final.result c.lesser.result c.next_private-private.ensures
    (next_bound (final v.face v.state c.args.i.0) c.args.after c.next_final.result c.next_final.ensures.some c.next_final.ensures.least
    c.next_final.ensures.none) c.lesser.ensures)

pub returns-clause-none : goal.returns-clause-none
returns-clause-none c net belongs =
    let self = c.args.self.now in
    let v = c.shared-shared.result.now in
    let held = held_by self v c.shared-shared.ensures.shared c.interface-face.ensures.together in
    told_none (IsJoined (arcs_of net) (order_of self.reduced self.shared.state) c.args.i.0) c.args.after c.lesser.result
    (next_whole self c.shared-shared.ensures.known held net belongs v c.shared-shared.ensures.shared c.args.i.0 c.args.after
    c.next_private-private.result c.next_final.result c.lesser.result c.next_private-private.ensures
    (next_bound (final v.face v.state c.args.i.0) c.args.after c.next_final.result c.next_final.ensures.some c.next_final.ensures.least
    c.next_final.ensures.none) c.lesser.ensures)
