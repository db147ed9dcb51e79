use Rattle.std.proofs.Common.{◌≡◌, ◌<◌, ◌+◌, ◌/◌, ◌-◌, ◌*◌, ◌%◌, ◌∙◌, get_or, refl, sym, ap, subst, length, arith, to_z, of_z, w64}
use Rattle.std.proofs.lemmas.Int.{ints}
use Rattle.std.proofs.lemmas.List.{get_or_read}
use Rattle.stn_model.specs.Arcs.{no_arc, arc_at}
use Rattle.stn_model.specs.Net.{Net, point_count, fixed_count, act_pair, no_act}
use Rattle.stn_model.specs.Valid.{IsArcWithin}
use Rattle.stn_model.specs.Views.{view_of}
use Rattle.stn_model.proofs.NetLemmas.{length-arcs_of, length-places}
use Rattle.stn_model.proofs.ArcLemmas.{arc_given, arc_even, arc_odd, arc_of_act, act_within, side_is, upper_arc}
use Rattle.stn_model.proofs.network.Network.arc.Goals as goal

pub index-requires : goal.index-requires
index-requires c =
    let r = rw (← c.self.view_is) at c.requires in
    let fixed = rw (← c.self.view_is) at c.fixed_arcs-fixed.ensures.count in
    omega (arith, length-arcs_of (view_of c.self.inside), c.self.inside.given.ok.0)

pub returns-then-n-fixed-clause-arc : goal.returns-then-n-fixed-clause-arc
returns-then-n-fixed-clause-arc c =
    let n = c.self.inside in
    let r = rw (← c.self.view_is) at c.requires in
    let fixed = rw (← c.self.view_is) at c.fixed_arcs-fixed.ensures.count in
    let lt : c.args.n - c.fixed_arcs-fixed.result < length n.given.items = omega (arith, length-arcs_of (view_of n), n.given.ok.0) in
    let same : c.args.n - c.fixed_arcs-fixed.result ≡ c.args.n - fixed_count (view_of n) = omega arith in
    rw (← c.self.view_is) (get_or_read n.given.items _ _ lt c.index.ensures no_arc ∙ ap (arc_at n.given.items) same ∙ sym (arc_given (view_of n) c.args.n (omega arith)))

pub returns-then-n-fixed-clause-within : goal.returns-then-n-fixed-clause-within
returns-then-n-fixed-clause-within c =
    let n = c.self.inside in
    let r = rw (← c.self.view_is) at c.requires in
    let fixed = rw (← c.self.view_is) at c.fixed_arcs-fixed.ensures.count in
    let lt : c.args.n - c.fixed_arcs-fixed.result < length n.given.items = omega (arith, length-arcs_of (view_of n), n.given.ok.0) in
    rw (← c.self.view_is) (subst (IsArcWithin (point_count (view_of n))) (sym c.index.ensures) (c.self.invariant.network.arcs (c.args.n - c.fixed_arcs-fixed.result) c.index.result.now lt))

pub returns-then-n-pairs-clause-arc : goal.returns-then-n-pairs-clause-arc
returns-then-n-pairs-clause-arc c =
    let net = c.args.self.now in
    let places = ap (λ (w : Net). length w.places) (sym c.self.view_is) ∙ length-places c.self.inside in
    let fixed = c.fixed_arcs-fixed.ensures.count in
    let place : (c.args.n - 2 * c.len.result) / 2 ≡ (c.args.n - 2 * length net.places) / 2 = omega (arith, places) in
    c.side_of.ensures ∙ ap (λ side. arc_at (act_pair c.act-act.result) side) (side_is (c.args.n % 2) (omega arith))
    ∙ ap (λ a. arc_at (act_pair a) (c.args.n % 2)) (c.act-act.ensures.act ∙ ap (λ k. get_or net.acts k no_act) place)
    ∙ sym (arc_of_act net c.args.n (c.args.n % 2) (omega (arith, places)) (omega (arith, fixed)) refl)

pub returns-then-n-pairs-clause-within : goal.returns-then-n-pairs-clause-within
returns-then-n-pairs-clause-within c =
    let net = c.args.self.now in
    subst (IsArcWithin (point_count net))
    (sym (c.side_of.ensures ∙ ap (λ side. arc_at (act_pair c.act-act.result) side) (side_is (c.args.n % 2) (omega arith))))
    (act_within net c.act-act.result (c.args.n % 2) c.act-act.ensures.within (omega arith))

pub returns-then-n-eq0-clause-arc : goal.returns-then-n-eq0-clause-arc
returns-then-n-eq0-clause-arc c =
    let n = c.self.inside in
    let low = c.self.invariant.network.horizon_low in
    let high = c.self.invariant.network.horizon_high in
    let fits : to_z w64 (of_z w64 n.horizon) ≡ n.horizon = omega (arith, ints) in
    let places = length-places n in
    rw (← c.self.view_is) (ap (λ h. upper_arc h (c.args.n / 2 + 1)) fits ∙ sym (arc_even (view_of n) c.args.n (omega arith) (omega arith)))

pub returns-else-n-eq0-clause-arc : goal.returns-else-n-eq0-clause-arc
returns-else-n-eq0-clause-arc c =
    let places = length-places c.self.inside in
    rw (← c.self.view_is) (sym (arc_odd (view_of c.self.inside) c.args.n (omega arith) (omega arith)))
