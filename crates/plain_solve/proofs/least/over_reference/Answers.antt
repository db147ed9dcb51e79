use Rattle.std.proofs.Common.{◌≡◌, ◌<◌, ℕ, ℤ, List, pos, to_z, of_z, w64, set, replicate, neg_ℤ, ◌∙◌, sym, ap, arith}
use Rattle.std.proofs.lemmas.Int.{ints}
use Rattle.plain_solve.proofs.TurnedBeginnings.{starts}
use Rattle.plain_solve.proofs.least.over_reference.Goals as goal

pub returns : goal.returns
returns c =
    let g = c.args.graph.now in
    let source = c.args.source.0 in
    let count : c.points-points.result ≡ g.points = c.points-points.ensures.count ∙ sym c.requires.turned.points in
    let label : ℤ = to_z w64 (of_z w64 c.lowest-farthest.result) in
    let lowest : to_z w64 (of_z w64 c.lowest-farthest.result) ≡ neg_ℤ g.top = omega (arith, ints, c.lowest-farthest.ensures) in
    let times = c.in_ok-times.ensures ∙ ap (λ (k : ℕ). replicate k label) count ∙ ap (λ (z : ℤ). replicate g.points z) lowest in
    starts c.args.net.now source g c.requires.graph c.requires.turned (set (set c.in_ok-times.times.items 0 (pos 0)) source (pos 0)) c.in_ok-last_arcs.last_arcs.items
    (ap (λ (xs : List ℤ). set (set xs 0 (pos 0)) source (pos 0)) times) (c.in_ok-last_arcs.ensures.many ∙ count) c.in_ok-last_arcs.ensures.zeroth
    (λ p low within. c.in_ok-last_arcs.ensures.each p low (omega arith))
