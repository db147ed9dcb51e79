use Rattle.std.proofs.Common.{◌<◌, length, map, sym, ap, ◌∙◌, subst, arith}
use Rattle.std.specs.Prelude.{ℤ, List, pos, ◌-ℤ◌}
use Rattle.std.specs.List.{All}
use Rattle.std.proofs.lemmas.Int.{ints}
use Rattle.stn_model.specs.Net.{point_count, arcs_of}
use Rattle.stn_model.specs.Schedules.{Satisfies, IsLeastBound, time_at}
use Rattle.stn_model.specs.Times.{IsTime}
use Rattle.stn_model.proofs.NetLemmas.{length-map}
use Rattle.tri_solve.specs.declared.label.Label.{Label}
use Rattle.tri_solve.specs.Trees.{Tree, dist_of, IsTree}
use Rattle.tri_solve.proofs.Attained.{times_satisfy, times_attain}
use Rattle.tri_solve.proofs.TreeTimes.{number_is, first_is, times_more, times_whole, times_light}
use Rattle.tri_solve.proofs.distances.attain.Goals as goal

pub loop-label-init : goal.loop-label-init
loop-label-init c = record {
  numbers = ap (map (λ (k : Label). k.number)) c.deref-label-items.ensures.value ∙ ap (λ (t : Tree). t.dists) c.d.view_is;
  taken = c.in_ok-times.ensures.items;
}

pub overflow_sub-label : goal.overflow_sub-label
overflow_sub-label c =
    let m = ap length c.loop-label.invariant.numbers in
    let n = length-map (λ (k : Label). k.number) c.deref-label-items.result.now in
    let tree : IsTree c.args.d.now = subst IsTree c.d.view_is c.d.invariant in
    let here = tree.range c.loop-label.label-index (omega (arith, c.loop-label-test.true)) in
    let first = tree.range 0 (omega (arith, c.loop-label-test.true)) in
    let number = number_is c.deref-label-items.result.now c.args.d.now c.loop-label.label-index (record { number = pos 0; via = record { 0 = 0 } })
    c.loop-label.invariant.numbers c.loop-label-test.true in
    let same = ap length c.deref-label-items.ensures.value in
    let zero = first_is c.d.inside.labels.items c.args.d.now c.index.result.now (ap (λ (t : Tree). t.dists) c.d.view_is) (omega (arith, c.loop-label-test.true)) c.index.ensures in
    let a = here.0 in
    let b = here.1 in
    let x = first.0 in
    let y = first.1 in
    omega (arith, ints)

pub loop-label-preserved : goal.loop-label-preserved
loop-label-preserved c =
    let m = ap length c.loop-label.invariant.numbers in
    let n = length-map (λ (k : Label). k.number) c.deref-label-items.result.now in
    let tree : IsTree c.args.d.now = subst IsTree c.d.view_is c.d.invariant in
    let within : c.loop-label.label-index < length c.args.d.now.dists = omega (arith, c.loop-label-test.true) in
    let here = tree.range c.loop-label.label-index within in
    let first = tree.range 0 (omega (arith, c.loop-label-test.true)) in
    let number = number_is c.deref-label-items.result.now c.args.d.now c.loop-label.label-index (record { number = pos 0; via = record { 0 = 0 } })
    c.loop-label.invariant.numbers c.loop-label-test.true in
    let same = ap length c.deref-label-items.ensures.value in
    let zero = first_is c.d.inside.labels.items c.args.d.now c.index.result.now (ap (λ (t : Tree). t.dists) c.d.view_is) (omega (arith, c.loop-label-test.true)) c.index.ensures in
    let a = here.0 in
    let b = here.1 in
    let x = first.0 in
    let y = first.1 in
    record {
      numbers = c.loop-label.invariant.numbers;
      taken = times_more c.args.d.now.dists c.loop-label.label-index (dist_of c.args.d.now 0) _ c.loop-label.times.items c.push.new.self.items within
          c.loop-label.invariant.taken c.in_ok-push.ensures.items (omega (arith, ints));
    }

pub unreachable-requires : goal.unreachable-requires
unreachable-requires c =
    let tree : IsTree c.args.d.now = subst IsTree c.d.view_is c.d.invariant in
    let m = ap length c.loop-label.invariant.numbers in
    let n = length-map (λ (k : Label). k.number) c.deref-label-items.result.now in
    let whole = times_whole c.args.d.now c.loop-label.label-index c.loop-label.times.items (omega (arith, c.loop-label-test.false)) c.loop-label.invariant.taken in
    c.in_default.ensures (subst (λ (xs : List ℤ). All IsTime xs) (sym whole) (times_light c.args.d.now tree))

pub returns-clause-times : goal.returns-clause-times
returns-clause-times c =
    let m = ap length c.loop-label.invariant.numbers in
    let n = length-map (λ (k : Label). k.number) c.deref-label-items.result.now in
    c.in-Some.ensures.1 ∙ times_whole c.args.d.now c.loop-label.label-index c.loop-label.times.items (omega (arith, c.loop-label-test.false)) c.loop-label.invariant.taken

pub returns-clause-satisfies : goal.returns-clause-satisfies
returns-clause-satisfies c =
    let m = ap length c.loop-label.invariant.numbers in
    let n = length-map (λ (k : Label). k.number) c.deref-label-items.result.now in
    let is = c.in-Some.ensures.1 ∙ times_whole c.args.d.now c.loop-label.label-index c.loop-label.times.items (omega (arith, c.loop-label-test.false)) c.loop-label.invariant.taken in
    λ net valid h. subst (Satisfies (point_count net) (arcs_of net)) (sym is) (times_satisfy c.args.d.now net valid h)

pub returns-clause-attains : goal.returns-clause-attains
returns-clause-attains c =
    let tree : IsTree c.args.d.now = subst IsTree c.d.view_is c.d.invariant in
    let m = ap length c.loop-label.invariant.numbers in
    let n = length-map (λ (k : Label). k.number) c.deref-label-items.result.now in
    let is = c.in-Some.ensures.1 ∙ times_whole c.args.d.now c.loop-label.label-index c.loop-label.times.items (omega (arith, c.loop-label-test.false)) c.loop-label.invariant.taken in
    λ net valid h p lt. subst (λ (s : List ℤ). IsLeastBound (point_count net) (arcs_of net) c.args.d.now.source p (time_at s p -ℤ time_at s c.args.d.now.source)) (sym is)
    (times_attain c.args.d.now net valid h tree.source_in tree.zero p lt)
