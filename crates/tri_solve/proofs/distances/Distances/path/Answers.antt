use Rattle.std.proofs.Common.{ℕ, ◌-◌, ◌*◌, ◌<◌, List, length, sym, ap, ◌∙◌, subst, arith}
use Rattle.std.proofs.lemmas.List.{length_push}
use Rattle.stn_model.proofs.NetLemmas.{length-map}
use Rattle.tri_solve.specs.declared.label.Label.{Label}
use Rattle.tri_solve.specs.Edges.{ids}
use Rattle.tri_solve.specs.Trees.{StartsAt, EndsAt, GoesAlong, IsBack, dist_of, via_of}
use Rattle.tri_solve.specs.Views.{tree_of}
use Rattle.tri_solve.proofs.BackPaths.{back_first, back_more, back_falls, back_starts, back_ends, back_goes, back_alone, ids_pushed, ids_turned}
use Rattle.tri_solve.proofs.Places.{length-ids}
use Rattle.tri_solve.proofs.TreeTimes.{via_read}
use Rattle.tri_solve.proofs.distances.Distances.path.Goals as goal

pub back-init : goal.back-init
back-init c = record {
  back = rw c.new-back.ensures.items (back_first (tree_of c.self.inside) c.args.p.0 c.self.invariant (rw (← c.self.view_is) at c.requires));
}

pub index-requires : goal.index-requires
index-requires c =
    let n = length-map (λ (l : Label). l.number) c.self.inside.labels.items in
    omega (arith, c.self.inside.labels.ok.0, c.back.invariant.back.within)

pub back-smaller : goal.back-smaller
back-smaller c =
    let n = length-map (λ (l : Label). l.number) c.self.inside.labels.items in
    let falls = back_falls (tree_of c.self.inside) c.args.p.0 c.back.at.0 (ids c.back.back.items) c.back.invariant.back c.back-test.true in
    let m = length-ids c.back.back.items in
    let grown = ap length c.in_ok-push.ensures.items in
    let more = length_push c.back.back.items c.back.at in
    let less : 2 * length c.self.inside.labels.items - length c.push.new.self.items < 2 * length c.self.inside.labels.items - length c.back.back.items = omega arith in
    less

pub back-preserved : goal.back-preserved
back-preserved c =
    let n = length-map (λ (l : Label). l.number) c.self.inside.labels.items in
    let lt : c.back.at.0 < length c.self.inside.labels.items = omega (arith, c.back.invariant.back.within) in
    let via = via_read c.self.inside.labels.items c.back.at.0 c.index.result.now lt c.index.ensures in
    let pushed = ids_pushed c.back.back.items c.push.new.self.items c.back.at c.in_ok-push.ensures.items in
    record {
      back = subst (λ (q : ℕ). IsBack (tree_of c.self.inside) c.args.p.0 q (ids c.push.new.self.items)) (sym via)
          (subst (λ (s : List ℕ). IsBack (tree_of c.self.inside) c.args.p.0 (via_of (tree_of c.self.inside) c.back.at.0) s) (sym pushed)
          (back_more (tree_of c.self.inside) c.args.p.0 c.back.at.0 (ids c.back.back.items) c.back.invariant.back c.back-test.true));
    }

pub returns-clause-starts : goal.returns-clause-starts
returns-clause-starts c =
    let turned = ids_turned c.back.back.items c.push-2.new.self.items c.reverse.new.self.items c.back.at c.in_ok-push-2.ensures.items c.reverse.ensures.items in
    rw (← c.self.view_is) (subst (StartsAt c.self.inside.source.0) (sym turned)
    (back_starts (tree_of c.self.inside) c.args.p.0 c.back.at.0 (ids c.back.back.items) c.back.invariant.back c.back-test.false))

pub returns-clause-ends : goal.returns-clause-ends
returns-clause-ends c =
    let turned = ids_turned c.back.back.items c.push-2.new.self.items c.reverse.new.self.items c.back.at c.in_ok-push-2.ensures.items c.reverse.ensures.items in
    subst (EndsAt c.args.p.0) (sym turned) (back_ends (tree_of c.self.inside) c.args.p.0 c.back.at.0 (ids c.back.back.items) c.back.invariant.back c.back-test.false)

pub returns-clause-goes : goal.returns-clause-goes
returns-clause-goes c =
    let turned = ids_turned c.back.back.items c.push-2.new.self.items c.reverse.new.self.items c.back.at c.in_ok-push-2.ensures.items c.reverse.ensures.items in
    rw (← c.self.view_is) (λ edges e. subst (λ (s : List ℕ). GoesAlong edges s (dist_of (tree_of c.self.inside) c.args.p.0)) (sym turned)
    (back_goes (tree_of c.self.inside) c.args.p.0 c.back.at.0 (ids c.back.back.items) c.back.invariant.back c.back-test.false edges e))

pub returns-clause-source : goal.returns-clause-source
returns-clause-source c =
    let turned = ids_turned c.back.back.items c.push-2.new.self.items c.reverse.new.self.items c.back.at c.in_ok-push-2.ensures.items c.reverse.ensures.items in
    rw (← c.self.view_is) (λ e. turned ∙ back_alone (tree_of c.self.inside) c.args.p.0 c.back.at.0 (ids c.back.back.items) c.back.invariant.back c.back-test.false e)
