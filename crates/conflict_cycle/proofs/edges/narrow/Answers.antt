use Rattle.std.proofs.Common.{◌∙◌, ◌++◌, ◌<◌, ◌≤◌, ℕ, List, ap, arith, subst, sym}
use Rattle.std.specs.Prelude.{ℤ}
use Rattle.stn_model.specs.Net.{Net}
use Rattle.conflict_cycle.specs.Belongs.{AreExternalNumbers, IsLegWalk}
use Rattle.conflict_cycle.specs.Edges.{HasLeg, place_of, whole_order}
use Rattle.conflict_cycle.specs.Parts.{BelongsTo}
use Rattle.conflict_cycle.proofs.Gaps.{hop_out, hop_in, leg_out, leg_in, narrowed_out, narrowed_in, later_out, later_in}
use Rattle.conflict_cycle.proofs.PartBounds.{joined_ends}
use Rattle.conflict_cycle.proofs.edges.narrow.Goals as goal

pub bounds-places-gap : goal.bounds-places-gap
bounds-places-gap g c =
    let q = c.requires in
    let ends = joined_ends c.args.net.now q.1.0.stands.network (whole_order c.args.parts.now) c.args.gap.now.from.0 c.args.gap.now.to.0 q.1.1.1.1 in
    omega (arith, q.1.1.1.0.one_each, ends.0)

pub bounds-places-gap-2 : goal.bounds-places-gap-2
bounds-places-gap-2 g c =
    let q = c.requires in
    let ends = joined_ends c.args.net.now q.1.0.stands.network (whole_order c.args.parts.now) c.args.gap.now.from.0 c.args.gap.now.to.0 q.1.1.1.1 in
    omega (arith, q.1.1.1.0.one_each, ends.1)

pub add_hop-requires : goal.add_hop-requires
add_hop-requires g c =
    let q = c.requires in
    let net = c.args.net.now in
    let parts = c.args.parts.now in
    let hop = c.hop_between-hop.result in
    let from = c.args.gap.now.from.0 in
    let to = c.args.gap.now.to.0 in
    let ends = joined_ends net q.1.0.stands.network (whole_order parts) from to q.1.1.1.1 in
    let one = q.1.1.1.0.each from ends.0 in
    let two = q.1.1.1.0.each to ends.1 in
    let first : place_of (whole_order parts) from < place_of (whole_order parts) to = omega (arith, c.if-places-gap.true) in
    let out = hop_out net parts from to hop.via.0 hop.agent first c.hop_between-hop.ensures in (
      subst (λ (n : Net). BelongsTo n parts) (sym q.0) q.1.0,
      (subst (λ (n : Net). AreExternalNumbers n c.args.externals.now) (sym q.0) q.1.1.0, leg_out net parts from to hop.via.0 hop.agent q.1.1.1.1 out),
    )

pub returns-then-places-gap-clause-gap : goal.returns-then-places-gap-clause-gap
returns-then-places-gap-clause-gap g c =
    let q = c.requires in
    let net = c.args.net.now in
    let parts = c.args.parts.now in
    let hop = c.hop_between-hop.result in
    let from = c.args.gap.now.from.0 in
    let to = c.args.gap.now.to.0 in
    let ends = joined_ends net q.1.0.stands.network (whole_order parts) from to q.1.1.1.1 in
    let one = q.1.1.1.0.each from ends.0 in
    let two = q.1.1.1.0.each to ends.1 in
    let first : place_of (whole_order parts) from < place_of (whole_order parts) to = omega (arith, c.if-places-gap.true) in
    let out = hop_out net parts from to hop.via.0 hop.agent first c.hop_between-hop.ensures in
    let before = c.args.gap.now.before.items in
    let more = c.add_hop.new.walk.items in
    narrowed_out net parts from to hop.via.0 hop.agent q.1.1.1.1 out before more c.args.gap.now.after.items
    (subst (λ (n : Net). (w : ℤ) → HasLeg parts hop.agent from hop.via.0 w → IsLegWalk n from hop.via.0 w before more) q.0 c.in_ok-add_hop.ensures)

pub returns-then-places-gap-clause-later : goal.returns-then-places-gap-clause-later
returns-then-places-gap-clause-later g c =
    let q = c.requires in
    let net = c.args.net.now in
    let parts = c.args.parts.now in
    let hop = c.hop_between-hop.result in
    let from = c.args.gap.now.from.0 in
    let to = c.args.gap.now.to.0 in
    let ends = joined_ends net q.1.0.stands.network (whole_order parts) from to q.1.1.1.1 in
    let one = q.1.1.1.0.each from ends.0 in
    let two = q.1.1.1.0.each to ends.1 in
    let first : place_of (whole_order parts) from < place_of (whole_order parts) to = omega (arith, c.if-places-gap.true) in
    let out = hop_out net parts from to hop.via.0 hop.agent first c.hop_between-hop.ensures in
    later_out net parts from to hop.via.0 hop.agent q.1.1.1.1 out

pub add_hop-requires-2 : goal.add_hop-requires-2
add_hop-requires-2 g c =
    let q = c.requires in
    let net = c.args.net.now in
    let parts = c.args.parts.now in
    let hop = c.hop_between-hop.result in
    let from = c.args.gap.now.from.0 in
    let to = c.args.gap.now.to.0 in
    let ends = joined_ends net q.1.0.stands.network (whole_order parts) from to q.1.1.1.1 in
    let one = q.1.1.1.0.each from ends.0 in
    let two = q.1.1.1.0.each to ends.1 in
    let last : place_of (whole_order parts) to ≤ place_of (whole_order parts) from = omega (arith, c.if-places-gap.false) in
    let on = hop_in net parts from to hop.via.0 hop.agent last c.hop_between-hop.ensures in (
      subst (λ (n : Net). BelongsTo n parts) (sym q.0) q.1.0,
      (subst (λ (n : Net). AreExternalNumbers n c.args.externals.now) (sym q.0) q.1.1.0, leg_in net parts from to hop.via.0 hop.agent q.1.1.1.1 on),
    )

pub returns-clause-gap : goal.returns-clause-gap
returns-clause-gap g c =
    let q = c.requires in
    let net = c.args.net.now in
    let parts = c.args.parts.now in
    let hop = c.hop_between-hop.result in
    let from = c.args.gap.now.from.0 in
    let to = c.args.gap.now.to.0 in
    let ends = joined_ends net q.1.0.stands.network (whole_order parts) from to q.1.1.1.1 in
    let one = q.1.1.1.0.each from ends.0 in
    let two = q.1.1.1.0.each to ends.1 in
    let last : place_of (whole_order parts) to ≤ place_of (whole_order parts) from = omega (arith, c.if-places-gap.false) in
    let on = hop_in net parts from to hop.via.0 hop.agent last c.hop_between-hop.ensures in
    let after = c.args.gap.now.after.items in
    let leg = c.add_hop-2.new.walk.items in
    let walk = subst (λ (n : Net). (w : ℤ) → HasLeg parts hop.agent hop.via.0 to w → IsLegWalk n hop.via.0 to w c.new-leg.result.items leg) q.0
    c.in_ok-add_hop-2.ensures in
    narrowed_in net parts from to hop.via.0 hop.agent q.1.1.1.1 on c.args.gap.now.before.items leg after c.extend_from_slice.new.self.items
    (subst (λ (old : List ℕ). (w : ℤ) → HasLeg parts hop.agent hop.via.0 to w → IsLegWalk net hop.via.0 to w old leg) c.new-leg.ensures.items walk)
    (c.in_ok-extend_from_slice.ensures.items ∙ ap (λ (xs : List ℕ). after ++ xs) (c.as_slice.ensures.value ∙ c.reverse.ensures.items))

pub returns-clause-later : goal.returns-clause-later
returns-clause-later g c =
    let q = c.requires in
    let net = c.args.net.now in
    let parts = c.args.parts.now in
    let hop = c.hop_between-hop.result in
    let from = c.args.gap.now.from.0 in
    let to = c.args.gap.now.to.0 in
    let ends = joined_ends net q.1.0.stands.network (whole_order parts) from to q.1.1.1.1 in
    let one = q.1.1.1.0.each from ends.0 in
    let two = q.1.1.1.0.each to ends.1 in
    let last : place_of (whole_order parts) to ≤ place_of (whole_order parts) from = omega (arith, c.if-places-gap.false) in
    let on = hop_in net parts from to hop.via.0 hop.agent last c.hop_between-hop.ensures in
    later_in net parts from to hop.via.0 hop.agent q.1.1.1.1 on
