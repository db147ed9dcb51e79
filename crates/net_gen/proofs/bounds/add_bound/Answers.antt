use Rattle.std.proofs.Common.{◌≡◌, ◌+◌, ap, ◌∙◌, arith, to_z, of_z, w64}
use Rattle.std.proofs.lemmas.Int.{ints}
use Rattle.net_gen.specs.Draws.{DrawState, drawn}
use Rattle.net_gen.proofs.Places.{bound_drawn}
use Rattle.net_gen.proofs.Results.{on_ok}
use Rattle.net_gen.proofs.bounds.add_bound.Goals as goal

pub returns-clause-given : goal.returns-clause-given
returns-clause-given c =
    let draws = c.args.draws.now in
    let fits : to_z w64 (of_z w64 c.apart-apart.result) ≡ c.apart-apart.result = omega (arith, ints) in
    on_ok c.lay_bound.result
    (bound_drawn c.args.net.now c.lay_bound.new.net draws.number draws.count c.args.from c.args.to c.args.below c.draw-low.result c.draw-high.result
    (to_z w64 (of_z w64 c.apart-apart.result)) c.args.times.now c.requires.times c.requires.from_in c.requires.to_in
    (fits ∙ c.apart-apart.ensures.value) c.draw-low.ensures.drawn
    (c.draw-high.ensures.drawn ∙ ap (λ (s : DrawState). drawn s.number (s.count + 1) c.args.below) c.draw-low.ensures.counted))
    c.lay_bound.ensures
