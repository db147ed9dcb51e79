use Rattle.std.proofs.Common.{arith}
use Rattle.shared_graph.proofs.graphs.Seeking.{place_low, found_at, found_nowhere}
use Rattle.shared_graph.proofs.graph.place_among.Goals as goal

pub overflow_cast-result : goal.overflow_cast-result
overflow_cast-result c =
    let found = found_at c.args.points.now c.args.point c.in-Ok.place c.requires.rising c.in-Ok.ensures.position in
    let low = place_low c.args.points.now c.requires.rising c.in-Ok.place found.0 in
    omega (arith, found.1)

pub returns-in-Err-clause-none : goal.returns-in-Err-clause-none
returns-in-Err-clause-none c = found_nowhere c.args.points.now c.args.point c.in-Err.field-0 c.requires.rising c.in-Err.ensures.position
