use Rattle.std.proofs.Common.{◌≡◌, neg_ℤ, subst, to_z, of_z, w64, arith}
use Rattle.std.proofs.lemmas.Int.{ints}
use Rattle.stn_model.specs.Arcs.{from_at, to_at}
use Rattle.stn_model.specs.Net.{arcs_of, point_count}
use Rattle.stn_model.specs.Schedules.{IsLeastBound}
use Rattle.least_repair.proofs.Back.{back_bound}
use Rattle.least_repair.proofs.OtherBound.{given_in_range, IsLeastEnough-back}
use Rattle.least_repair.proofs.loosening.least_enough.Goals as goal

pub arc-ends-requires : goal.arc-ends-requires
arc-ends-requires c = given_in_range c.args.net.now c.args.arc c.requires.withdrawn.0

pub opposite-requires-clause-low : goal.opposite-requires-clause-low
opposite-requires-clause-low c =
    let w = c.in_ok-walks.walks in
    let e = c.in_ok-walks.ensures in
    let valid = c.points-points.ensures.valid in
    let b = back_bound c.args.net.now valid c.args.arc c.arc-ends.result c.arc-ends.ensures.arc c.arc-ends.ensures.within w
    e.source e.least c.dist.result c.dist.ensures in
    let low = b.1 in
    let top = valid.horizon_high in
    omega (arith, ints)

pub opposite-requires-clause-high : goal.opposite-requires-clause-high
opposite-requires-clause-high c =
    let w = c.in_ok-walks.walks in
    let e = c.in_ok-walks.ensures in
    let valid = c.points-points.ensures.valid in
    let b = back_bound c.args.net.now valid c.args.arc c.arc-ends.result c.arc-ends.ensures.arc c.arc-ends.ensures.within w
    e.source e.least c.dist.result c.dist.ensures in
    let high = b.2 in
    let top = valid.horizon_high in
    omega (arith, ints)

pub returns-clause-enough : goal.returns-clause-enough
returns-clause-enough c =
    let net = c.args.net.now in
    let n = c.args.arc in
    let w = c.in_ok-walks.walks in
    let e = c.in_ok-walks.ensures in
    let valid = c.points-points.ensures.valid in
    let b = back_bound net valid n c.arc-ends.result c.arc-ends.ensures.arc c.arc-ends.ensures.within w
    e.source e.least c.dist.result c.dist.ensures in
    let low = b.1 in
    let high = b.2 in
    let top = valid.horizon_high in
    let opposite = c.opposite.ensures in
    let is : c.dist.result ≡ neg_ℤ (to_z w64 (of_z w64 c.opposite.result)) = omega (arith, ints) in
    IsLeastEnough-back net n c.requires.withdrawn _
    (subst (IsLeastBound (point_count net) (arcs_of net) (to_at (arcs_of net) n) (from_at (arcs_of net) n)) is b.0)
    (omega (arith, ints))

pub returns-clause-high : goal.returns-clause-high
returns-clause-high c =
    let w = c.in_ok-walks.walks in
    let e = c.in_ok-walks.ensures in
    let valid = c.points-points.ensures.valid in
    let b = back_bound c.args.net.now valid c.args.arc c.arc-ends.result c.arc-ends.ensures.arc c.arc-ends.ensures.within w
    e.source e.least c.dist.result c.dist.ensures in
    let low = b.1 in
    let high = b.2 in
    let top = valid.horizon_high in
    let opposite = c.opposite.ensures in
    omega (arith, ints)
