use Rattle.std.proofs.Common.{◌≡◌, ℤ, pos, neg_ℤ, ◌-ℤ◌, to_z, of_z, sym, subst, arith}
use Rattle.std.specs.Int.{w128}
use Rattle.std.specs.List.{Contains}
use Rattle.std.proofs.lemmas.Int.{ints}
use Rattle.std.proofs.lemmas.List.{get_or_read}
use Rattle.stn_model.specs.Schedules.{time_at}
use Rattle.private_elim.specs.Locals.{arcs_in}
use Rattle.dispatcher.specs.Choices.{HasWindow}
use Rattle.dispatcher.proofs.Standings.{window_of, window_ordered}
use Rattle.dispatcher.proofs.plan.Plan.window.Goals as goal

pub index-requires : goal.index-requires
index-requires c =
    let d = c.self.inside in
    let there : Contains d.local.points c.args.p.0 = (rw (← c.self.view_is) at c.requires) in
    let s = c.self.invariant.standing in
    omega (arith, s.known c.args.p.0 there, s.early_each, d.early.ok.0)

pub overflow_sub-result : goal.overflow_sub-result
overflow_sub-result c =
    let d = c.self.inside in
    let p = c.args.p.0 in
    let there : Contains d.local.points p = (rw (← c.self.view_is) at c.requires) in
    let s = c.self.invariant.standing in
    let e : c.index.result.now ≡ time_at d.early.items p =
    get_or_read d.early.items p c.index.result.now (omega (arith, s.known p there, s.early_each)) c.index.ensures (pos 0) in
    let low = s.early_low p there in
    let high = s.late_high p there in
    let ordered = window_ordered (arcs_in d.local) d.local.points d.choices.items d.latest.items d.early.items s p there in
    omega (arith, ints)

pub index-requires-2 : goal.index-requires-2
index-requires-2 c =
    let d = c.self.inside in
    let there : Contains d.local.points c.args.p.0 = (rw (← c.self.view_is) at c.requires) in
    let s = c.self.invariant.standing in
    omega (arith, s.known c.args.p.0 there, d.latest.ok.0)

pub returns-clause-window : goal.returns-clause-window
returns-clause-window c =
    let d = c.self.inside in
    let p = c.args.p.0 in
    let arcs = arcs_in d.local in
    let there : Contains d.local.points p = (rw (← c.self.view_is) at c.requires) in
    let s = c.self.invariant.standing in
    let e : c.index.result.now ≡ time_at d.early.items p =
    get_or_read d.early.items p c.index.result.now (omega (arith, s.known p there, s.early_each)) c.index.ensures (pos 0) in
    let l : c.index-2.result.now ≡ time_at d.latest.items p =
    get_or_read d.latest.items p c.index-2.result.now (omega (arith, s.known p there)) c.index-2.ensures (pos 0) in
    let low = s.early_low p there in
    let high = s.late_high p there in
    let ordered = window_ordered arcs d.local.points d.choices.items d.latest.items d.early.items s p there in
    let lo : ℤ = to_z w128 (of_z w128 (pos 0 -ℤ to_z w128 (of_z w128 c.index.result.now))) in
    let hi : ℤ = to_z w128 (of_z w128 c.index-2.result.now) in
    let lo_is : neg_ℤ (time_at d.early.items p) ≡ lo = omega (arith, ints) in
    let hi_is : time_at d.latest.items p ≡ hi = omega (arith, ints) in
    let own = window_of arcs d.local.points d.choices.items d.latest.items d.early.items s p there in
    rw (← c.self.view_is)
    (subst (λ (x : ℤ). HasWindow arcs d.choices.items p lo x) hi_is
    (subst (λ (x : ℤ). HasWindow arcs d.choices.items p x (time_at d.latest.items p)) lo_is own))

pub returns-clause-low : goal.returns-clause-low
returns-clause-low c =
    let d = c.self.inside in
    let p = c.args.p.0 in
    let there : Contains d.local.points p = (rw (← c.self.view_is) at c.requires) in
    let s = c.self.invariant.standing in
    let e : c.index.result.now ≡ time_at d.early.items p =
    get_or_read d.early.items p c.index.result.now (omega (arith, s.known p there, s.early_each)) c.index.ensures (pos 0) in
    let low = s.early_low p there in
    let high = s.late_high p there in
    let ordered = window_ordered (arcs_in d.local) d.local.points d.choices.items d.latest.items d.early.items s p there in
    omega (arith, ints)

pub returns-clause-ordered : goal.returns-clause-ordered
returns-clause-ordered c =
    let d = c.self.inside in
    let p = c.args.p.0 in
    let there : Contains d.local.points p = (rw (← c.self.view_is) at c.requires) in
    let s = c.self.invariant.standing in
    let e : c.index.result.now ≡ time_at d.early.items p =
    get_or_read d.early.items p c.index.result.now (omega (arith, s.known p there, s.early_each)) c.index.ensures (pos 0) in
    let l : c.index-2.result.now ≡ time_at d.latest.items p =
    get_or_read d.latest.items p c.index-2.result.now (omega (arith, s.known p there)) c.index-2.ensures (pos 0) in
    let low = s.early_low p there in
    let high = s.late_high p there in
    let ordered = window_ordered (arcs_in d.local) d.local.points d.choices.items d.latest.items d.early.items s p there in
    omega (arith, ints)

pub returns-clause-high : goal.returns-clause-high
returns-clause-high c =
    let d = c.self.inside in
    let p = c.args.p.0 in
    let there : Contains d.local.points p = (rw (← c.self.view_is) at c.requires) in
    let s = c.self.invariant.standing in
    let l : c.index-2.result.now ≡ time_at d.latest.items p =
    get_or_read d.latest.items p c.index-2.result.now (omega (arith, s.known p there)) c.index-2.ensures (pos 0) in
    let low = s.early_low p there in
    let high = s.late_high p there in
    let ordered = window_ordered (arcs_in d.local) d.local.points d.choices.items d.latest.items d.early.items s p there in
    omega (arith, ints)
