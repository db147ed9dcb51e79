use Rattle.std.proofs.Common.{◌-◌, arith}
use Rattle.conflict_cycle.proofs.OrderPlaces.{item_in}
use Rattle.conflict_cycle.proofs.edges.places_in.Goals as goal

pub index_mut-requires : goal.index_mut-requires
index_mut-requires c =
    let k = c.back.place - 1 in
    let within = c.back.invariant.within in
    let one = c.back.invariant.one_each in
    let low = c.requires _ (item_in c.args.order.now k (record { 0 = 0 }) (omega (arith, c.back-test.true))) in
    omega (arith, c.back.places.ok.0)
