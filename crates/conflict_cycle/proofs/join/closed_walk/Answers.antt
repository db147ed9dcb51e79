use Rattle.std.proofs.Common.{sym, subst}
use Rattle.stn_model.specs.Net.{Net, arcs_of}
use Rattle.stn_model.specs.Valid.{IsNetwork}
use Rattle.stn_model.specs.Walks.{IsNegativeClosed}
use Rattle.shared_graph.specs.Interfaces.{interface_of}
use Rattle.conflict_cycle.specs.Belongs.{AreExternalNumbers}
use Rattle.conflict_cycle.proofs.Stops.{opposite_over, is_some_there, is_some_back, closed_told}
use Rattle.conflict_cycle.proofs.join.closed_walk.Goals as goal

pub add_walk-requires : goal.add_walk-requires
add_walk-requires g c =
    let q = c.requires in
    let face = interface_of g.whole.net in
    let at = c.args.cycle in
    let known = c.in_ok-externals.ensures in
    let opposite = opposite_over g.whole c.args.shared.now q.1.0 c.interface-face.ensures.together at q.1.1.1.1 in
    let valid = subst IsNetwork (sym q.0) known.valid in
    let numbers = subst (AreExternalNumbers g.whole.net) (sym c.deref.ensures.value)
    (subst (λ (n : Net). AreExternalNumbers n c.in_ok-externals.externals.items) (sym q.0) known.numbers) in
    (valid, (q.1.0, (q.1.1.0, (q.1.1.1.0, (numbers, (opposite.apart, is_some_there face g.whole.state at.point.0 at.other.0 opposite))))))

pub add_walk-requires-2 : goal.add_walk-requires-2
add_walk-requires-2 g c =
    let q = c.requires in
    let face = interface_of g.whole.net in
    let at = c.args.cycle in
    let known = c.in_ok-externals.ensures in
    let opposite = opposite_over g.whole c.args.shared.now q.1.0 c.interface-face.ensures.together at q.1.1.1.1 in
    let valid = subst IsNetwork (sym q.0) known.valid in
    let numbers = subst (AreExternalNumbers g.whole.net) (sym c.deref-2.ensures.value)
    (subst (λ (n : Net). AreExternalNumbers n c.in_ok-externals.externals.items) (sym q.0) known.numbers) in
    (valid, (q.1.0, (q.1.1.0, (q.1.1.1.0, (numbers, ((λ e. opposite.apart (sym e)), is_some_back face g.whole.state at.point.0 at.other.0 opposite))))))

pub returns : goal.returns
returns g c =
    let q = c.requires in
    let at = c.args.cycle in
    let opposite = opposite_over g.whole c.args.shared.now q.1.0 c.interface-face.ensures.together at q.1.1.1.1 in
    subst (IsNegativeClosed (arcs_of g.whole.net)) (sym c.new.ensures)
    (closed_told (interface_of g.whole.net) g.whole.state at.point.0 at.other.0 opposite g.whole.net c.new-walk.result.items c.add_walk.new.walk.items
    c.add_walk-2.new.walk.items c.new-walk.ensures.items c.in_ok-add_walk.ensures c.in_ok-add_walk-2.ensures)
