use Rattle.std.proofs.Common.{ap, ◌∙◌, arith}
use Rattle.stn_walk.specs.Eliminations.{is_in}
use Rattle.elim_step.specs.Eliminates.{count_below}
use Rattle.elim_step.proofs.JoinWrites.{count_of_list, count_below-few}
use Rattle.elim_step.proofs.joins.Joins.count_joined.Goals as goal

pub overflow_cast-result : goal.overflow_cast-result
overflow_cast-result c =
    let s = c.args.self.now in
    let xs = c.joined.result.now in
    let many = count_of_list xs s.size c.joined.ensures.rising c.joined.ensures.within in
    let few = count_below-few (is_in xs) s.size in
    let size = c.size-size.ensures in
    omega (arith, many, few, size)

pub returns : goal.returns
returns c =
    count_of_list c.joined.result.now c.args.self.now.size c.joined.ensures.rising c.joined.ensures.within
    ∙ ap (λ xs. count_below (is_in xs) c.args.self.now.size) c.joined.ensures.value
