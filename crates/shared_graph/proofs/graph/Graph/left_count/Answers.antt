use Rattle.std.proofs.Common.{◌∙◌, arith}
use Rattle.std.proofs.lemmas.List.{get_or_default}
use Rattle.shared_graph.proofs.graphs.Degrees.{left_counted}
use Rattle.shared_graph.proofs.graph.Graph.left_count.Goals as goal

pub overflow_sub-result : goal.overflow_sub-result
overflow_sub-result g c =
    let i = c.self.inside in
    let k = c.in-Some.place in
    let some = c.in-Some.ensures.some in
    let all = left_counted _ c.self.invariant _ c.self.view_is c.args.point.0 k some.0 some.1 c.requires.left in
    let gone = c.index.ensures ∙ get_or_default i.gone.items k c.index.result.now 0 all.0 in
    omega (arith, all.1, gone, c.count_joined.ensures)

pub returns : goal.returns
returns g c =
    let i = c.self.inside in
    let k = c.in-Some.place in
    let some = c.in-Some.ensures.some in
    let all = left_counted _ c.self.invariant _ c.self.view_is c.args.point.0 k some.0 some.1 c.requires.left in
    let gone = c.index.ensures ∙ get_or_default i.gone.items k c.index.result.now 0 all.0 in
    omega (arith, all.1, gone, c.count_joined.ensures)
