use Rattle.std.proofs.Common.{◌≡◌, List, true, ap, ◌∙◌, arith, subst}
use Rattle.stn_walk.specs.Eliminations.{is_in}
use Rattle.stn_model.specs.declared.ids.PointId.{PointId}
use Rattle.conflict_cycle.proofs.OrderPlaces.{order_within}
use Rattle.conflict_cycle.proofs.PartBounds.{held_by, shared_order}
use Rattle.conflict_cycle.proofs.PartLists.{numbers}
use Rattle.conflict_cycle.proofs.edges.order_places.Goals as goal

pub places_in-requires : goal.places_in-requires
places_in-requires c p here =
    let parts = c.args.parts.now in
    let belongs = c.requires.belongs in
    let known = c.reduced-reduced.ensures.known in
    let held = held_by parts c.shared.result.now c.shared.ensures.shared c.interface-face.ensures.together in
    let is = ap (λ (ps : List PointId). numbers ps) c.as_slice.ensures.value ∙ c.in_ok-order.ensures in
    let low = order_within c.args.net.now belongs.stands.network parts.reduced parts.shared.state belongs.reduced known.reduced
    (shared_order parts known held c.args.net.now belongs) p (subst (λ ps. is_in ps p ≡ true) is here) in
    omega (arith, c.points.ensures.count)
