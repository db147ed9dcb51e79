use Rattle.std.proofs.Common.{refl, ◌∙◌, arith, length-set}
use Rattle.cert_check.proofs.FieldsTaken.{few_more}
use Rattle.cert_check.proofs.field.Few.of.Goals as goal

pub loop-i-preserved : goal.loop-i-preserved
loop-i-preserved c =
    let i = c.loop-i.i in
    record {
      many = length-set c.loop-i.found i c.in-Some.field.text ∙ c.loop-i.invariant.many;
      count = refl;
      first = few_more (λ f. f.now) c.loop-i.found c.in-Some.field.text i c.loop-i.rest.now c.in-Some.field.rest.now c.args.line.now (omega arith) c.loop-i.invariant.many
          c.in-Some.ensures.first (rw c.loop-i.invariant.count at c.loop-i.invariant.first);
    }
