use Rattle.std.proofs.Common.{List, Some, sym, ap, ◌∙◌, subst, arith}
use Rattle.std.specs.List.{AllByRecursion}
use Rattle.shared_graph.specs.declared.unfold.Leg.{Leg}
use Rattle.shared_graph.specs.Interfaces.{interface_of}
use Rattle.shared_graph.specs.Legs.{IsLeg, LegsLead, legs_weight}
use Rattle.shared_graph.specs.Weights.{forward}
use Rattle.conflict_cycle.proofs.LegWalks.{way_start, way_next, way_more, way_told}
use Rattle.conflict_cycle.proofs.join.add_walk.Goals as goal

pub loop-leg-init : goal.loop-leg-init
loop-leg-init g c =
    let over = c.requires.1.0 in
    let told = c.in_ok-legs.ensures in
    let items = sym c.as_slice-leg-items.ensures.value in
    way_start g.whole c.args.from.0 c.args.to.0 c.args.walk.now.items c.as_slice-leg-items.result.now
    (subst (λ (legs : List Leg). LegsLead legs c.args.from.0 c.args.to.0) items told.lead)
    (subst (AllByRecursion (IsLeg (interface_of g.whole.net) g.whole.state)) items (rw (over.0, over.1) at told.each))

pub add_leg-requires : goal.add_leg-requires
add_leg-requires g c =
    let q = c.requires in
    let over = q.1.0 in
    let told = (rw (over.0, over.1) at c.in_ok-legs.ensures.told) in
    let leg = way_next g.whole c.args.from.0 c.args.to.0 c.args.walk.now.items c.as_slice-leg-items.result.now c.loop-leg.leg-index c.loop-leg.walk.items
    c.loop-leg-test.true c.loop-leg.invariant in
    (q.0, (q.1.1.0, (q.1.1.1.0, (told, (q.1.1.1.1.0, leg)))))

pub loop-leg-preserved : goal.loop-leg-preserved
loop-leg-preserved g c =
    way_more g.whole c.args.from.0 c.args.to.0 c.args.walk.now.items c.as_slice-leg-items.result.now c.loop-leg.leg-index c.loop-leg.walk.items
    c.add_leg.new.walk.items c.loop-leg-test.true c.loop-leg.invariant c.in_ok-add_leg.ensures

pub returns : goal.returns
returns g c =
    let over = c.requires.1.0 in
    let weighs = (rw (over.0, over.1) at c.in_ok-legs.ensures.weight) in
    way_told g.whole c.args.from.0 c.args.to.0 c.args.walk.now.items c.as_slice-leg-items.result.now c.loop-leg.leg-index c.loop-leg.walk.items
    (forward (interface_of g.whole.net) g.whole.state c.args.from.0 c.args.to.0) (omega arith)
    (ap (λ (legs : List Leg). Some (legs_weight legs)) c.as_slice-leg-items.ensures.value ∙ weighs) c.loop-leg.invariant
