-- Each field found is one more of the line's.
use Rattle.std.proofs.Common.{refl, ◌∙◌, arith}
use Rattle.std.proofs.lemmas.List.{length-set}
use Rattle.net_text.proofs.FirstFields.{one_more}
use Rattle.net_text.proofs.fields.first_fields.Goals as goal

pub loop-count-preserved : goal.loop-count-preserved
loop-count-preserved c =
    let was = c.loop-count in
    record {
      size = length-set was.room was.count c.in-Some.field.text ∙ was.invariant.size;
      same =
          one_more c.args.line.now was.rest.now c.in-Some.field.rest.now was.room _ was.count c.in-Some.field.text (omega (arith, was.invariant.size)) refl
          was.invariant.same c.in-Some.ensures;
    }
