use Rattle.std.proofs.Common.{◌≡◌, ℕ, ◌-◌, ◌+◌, ◌<◌, suc, length, map, ap, ◌∙◌, arith}
use Rattle.shared_graph.specs.Interfaces.{SharedPoint, shared_points}
use Rattle.shared_graph.proofs.interfaces.Tables.{rows_push}
use Rattle.shared_graph.proofs.interface.shared_of.Goals as goal

pub loop-p-preserved : goal.loop-p-preserved
loop-p-preserved c =
    let p = c.loop-p.p in
    let net = c.args.net.now in
    let before = c.loop-p.invariant in
    let at : p ≡ suc (p - 1) = omega (arith, before.0) in
    let low : p - 1 < length net.places = omega (arith, before.0, c.loop-p-test.true, c.points-p-end.ensures.count) in
    let back : p ≡ p + 1 - 1 = omega arith in
    let rows =
    rows_push net (p - 1) p c.loop-p.points.items c.push_where.new.items.items c.loop-p.owners.items c.push-in-loop-p.new.self.items
    c.shared_owner-owner.result c.is_some.result at low before.1 before.2 before.3 c.shared_owner-owner.ensures c.in_ok-push_where.ensures
    c.is_some.ensures c.in_ok-push-2.ensures.items in (
      omega arith,
      rows.0,
      rows.1 ∙ ap (shared_points net) back,
      rows.2 ∙ ap (λ (n : ℕ). map (λ (q : SharedPoint). q.point) (shared_points net n)) back,
    )
