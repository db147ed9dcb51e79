use Rattle.std.proofs.Common.{ap, ◌∙◌, arith}
use Rattle.stn_model.specs.Net.{Net}
use Rattle.net_gen.proofs.Free.{point_is_free}
use Rattle.net_gen.proofs.Places.{places_more, point_total_small}
use Rattle.net_gen.proofs.generator.add_points.Goals as goal

pub new_point-requires-clause-free : goal.new_point-requires-clause-free
new_point-requires-clause-free c =
    let small = point_total_small c.args.size c.requires.few in
    rw (c.deref.ensures.value, c.in_ok-write_point_name.ensures)
    (point_is_free c.loop-place.net c.args.size c.loop-place.place
    (ap (λ (m : Net). m.places) c.loop-place.invariant)
    (ap (λ (m : Net). m.given) c.loop-place.invariant ∙ c.requires.no_arcs) (omega arith))

pub loop-place-preserved : goal.loop-place-preserved
loop-place-preserved c =
    let h = rw (c.deref.ensures.value, c.in_ok-write_point_name.ensures) at c.in_ok-new_point.ensures in
    places_more c.args.net.now c.loop-place.net c.new_point.new.net c.args.size c.loop-place.place c.loop-place.invariant h
