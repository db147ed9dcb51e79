use Rattle.std.proofs.Common.{replicate, pos, ◌≡◌, ◌<◌, ◌*◌, ◌-◌, ℕ, get_or, length, ◌∙◌, sym, ap, subst, arith}
use Rattle.plain_solve.proofs.Beginnings.{starts}
use Rattle.plain_solve.proofs.solve.at_zero.Goals as goal

pub returns : goal.returns
returns c =
    let g = c.args.graph.now in
    let at_end : c.points-points.result ≡ g.points = c.points-points.ensures.count ∙ sym c.requires.onward.points in
    let many : length c.loop-point.last_arcs.items ≡ g.points = omega (arith, c.loop-point.invariant.many) in
    let times : c.in_ok-times.times.items ≡ replicate g.points (pos 0) = c.in_ok-times.ensures.items_if_clones_equal (λ y e. e) ∙ ap (λ (k : ℕ). replicate k (pos 0)) at_end in
    starts c.args.net.now g c.requires.graph c.requires.onward c.in_ok-times.times.items c.loop-point.last_arcs.items times many (λ p low within. c.loop-point.invariant.each p low (omega arith))
