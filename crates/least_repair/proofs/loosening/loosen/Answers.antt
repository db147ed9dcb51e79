use Rattle.std.proofs.Common.{◌≡◌, pos, ◌+ℤ◌, ◌-ℤ◌, refl, sym, ap, subst, to_z, of_z, w64, arith}
use mir.Syntax.{w128}
use Rattle.std.proofs.lemmas.Int.{ints}
use Rattle.stn_model.specs.Arcs.{bound_at}
use Rattle.stn_model.specs.Net.{Net, arcs_of, point_count}
use Rattle.stn_model.specs.Schedules.{IsConsistent}
use Rattle.stn_model.specs.Walks.{IsNegativeCycle}
use Rattle.plain_solve.specs.Answers.{IsEarliest}
use Rattle.least_repair.proofs.OtherBound.{given_in_range, own_is_less, set_last}
use Rattle.least_repair.proofs.loosening.loosen.Goals as goal

pub arc-requires : goal.arc-requires
arc-requires c = given_in_range c.args.net.now c.args.arc c.requires.given

pub set_bound-requires-clause-low : goal.set_bound-requires-clause-low
set_bound-requires-clause-low c =
    let less = own_is_less c.args.net.now c.args.arc c.requires.given c.args.enough c.requires.enough c.requires.inconsistent in
    let low = c.arc.ensures.within.low in
    let own = ap (λ a. a.bound) c.arc.ensures.arc in
    omega (arith, ints)

pub set_bound-requires-clause-high : goal.set_bound-requires-clause-high
set_bound-requires-clause-high c =
    let top = c.points-points.ensures.valid.horizon_high in
    let high = c.requires.high in
    omega (arith, ints)

pub earliest-requires : goal.earliest-requires
earliest-requires c =
    let net = c.args.net.now in
    let enough = c.args.enough in
    let fits : to_z w64 (of_z w64 enough) ≡ enough = omega (arith, ints) in
    let is = set_last net c.args.arc c.requires.given c.args.other c.set_bound.new.self net.horizon enough _ c.requires.other c.set_bound.ensures fits in
    subst (λ (o : Net). IsConsistent (point_count o) (arcs_of o)) (sym is) ((c.requires.enough enough).0 (omega (arith, ints)))

pub overflow_sub-enough : goal.overflow_sub-enough
overflow_sub-enough c =
    let less = own_is_less c.args.net.now c.args.arc c.requires.given c.args.enough c.requires.enough c.requires.inconsistent in
    let low = c.arc.ensures.within.low in
    let own = ap (λ a. a.bound) c.arc.ensures.arc in
    omega (arith, ints)

pub set_bound-requires-2-clause-low : goal.set_bound-requires-2-clause-low
set_bound-requires-2-clause-low c =
    let less = own_is_less c.args.net.now c.args.arc c.requires.given c.args.enough c.requires.enough c.requires.inconsistent in
    let low = c.arc.ensures.within.low in
    let own = ap (λ a. a.bound) c.arc.ensures.arc in
    omega (arith, ints)

pub set_bound-requires-2-clause-high : goal.set_bound-requires-2-clause-high
set_bound-requires-2-clause-high c =
    let less = own_is_less c.args.net.now c.args.arc c.requires.given c.args.enough c.requires.enough c.requires.inconsistent in
    let low = c.arc.ensures.within.low in
    let own = ap (λ a. a.bound) c.arc.ensures.arc in
    let top = c.points-points.ensures.valid.horizon_high in
    let high = c.requires.high in
    omega (arith, ints)

pub conflict-requires : goal.conflict-requires
conflict-requires c s =
    let less = own_is_less c.args.net.now c.args.arc c.requires.given c.args.enough c.requires.enough c.requires.inconsistent in
    let low = c.arc.ensures.within.low in
    let own = ap (λ a. a.bound) c.arc.ensures.arc in
    let net = c.args.net.now in
    let n = c.args.arc in
    let enough = c.args.enough in
    let fits : to_z w64 (of_z w64 enough) ≡ enough = omega (arith, ints) in
    let first = set_last net n c.requires.given c.args.other c.set_bound.new.self net.horizon _ _ c.requires.other c.set_bound.ensures refl in
    let is = set_last net n c.requires.given c.set_bound.new.self c.set_bound-2.new.self _ (enough -ℤ pos 1) _ first
    c.set_bound-2.ensures (omega (arith, ints)) in
    let back = (c.requires.enough (enough -ℤ pos 1)).1 (subst (λ (o : Net). IsConsistent (point_count o) (arcs_of o)) is s) in
    absurd (omega (arith, ints))

pub returns-clause-raises : goal.returns-clause-raises
returns-clause-raises c =
    let less = own_is_less c.args.net.now c.args.arc c.requires.given c.args.enough c.requires.enough c.requires.inconsistent in
    let own = ap (λ a. a.bound) c.arc.ensures.arc in
    let by = c.difference-by.ensures in
    omega (arith, ints)

pub returns-clause-within : goal.returns-clause-within
returns-clause-within c =
    let own = ap (λ a. a.bound) c.arc.ensures.arc in
    let by = c.difference-by.ensures in
    let high = c.requires.high in
    omega (arith, ints)

pub returns-clause-schedule : goal.returns-clause-schedule
returns-clause-schedule c =
    let net = c.args.net.now in
    let n = c.args.arc in
    let own = ap (λ a. a.bound) c.arc.ensures.arc in
    let by = c.difference-by.ensures in
    let is = set_last net n c.requires.given c.args.other c.set_bound.new.self net.horizon
    (bound_at (arcs_of net) n +ℤ to_z w128 (of_z w128 c.difference-by.result)) _ c.requires.other c.set_bound.ensures (omega (arith, ints)) in
    subst (λ (o : Net). IsEarliest o c.in_ok-schedule.schedule) is c.in_ok-schedule.ensures

pub returns-clause-cycle : goal.returns-clause-cycle
returns-clause-cycle c =
    let less = own_is_less c.args.net.now c.args.arc c.requires.given c.args.enough c.requires.enough c.requires.inconsistent in
    let low = c.arc.ensures.within.low in
    let own = ap (λ a. a.bound) c.arc.ensures.arc in
    let net = c.args.net.now in
    let n = c.args.arc in
    let by = c.difference-by.ensures in
    let first = set_last net n c.requires.given c.args.other c.set_bound.new.self net.horizon _ _ c.requires.other c.set_bound.ensures refl in
    let is = set_last net n c.requires.given c.set_bound.new.self c.set_bound-2.new.self _
    (bound_at (arcs_of net) n +ℤ (to_z w128 (of_z w128 c.difference-by.result) -ℤ pos 1)) _ first c.set_bound-2.ensures (omega (arith, ints)) in
    subst (λ (o : Net). IsNegativeCycle (arcs_of o) c.in_ok-cycle.cycle) is c.in_ok-cycle.ensures.cycle
