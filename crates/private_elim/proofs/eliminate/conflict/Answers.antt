use Rattle.std.proofs.Common.{ap, sym, ◌∙◌, arith, length}
use Rattle.std.proofs.lemmas.List.{length-map}
use Rattle.private_elim.proofs.taking.Choices.{few_taken}
use Rattle.private_elim.proofs.eliminate.conflict.Goals as goal

pub overflow_cast-result : goal.overflow_cast-result
overflow_cast-result c =
    let few = few_taken c.args.elimination.now c.size-size.ensures.facts in
    let many = sym (length-map c.order.result.now (λ p. p.0)) ∙ ap length c.order.ensures in
    omega arith
