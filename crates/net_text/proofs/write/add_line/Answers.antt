use Rattle.std.proofs.Common.{◌++◌, map, take}
use Rattle.net_text.specs.Plain.{spaced}
use Rattle.net_text.proofs.Fronts.{front_trans, on_err_from}
use Rattle.net_text.proofs.write.add_line.Goals as goal

pub returns-in_err-add_field-clause-err : goal.returns-in_err-add_field-clause-err
returns-in_err-add_field-clause-err c =
    on_err_from c.from_residual-in_err-add_field.result
    (front_trans c.args.out.now.items (c.args.word.now ++ spaced (map (λ f. f.now) (take c.loop-field.field-index c.args.fields.now)))
    c.loop-field.out.items c.add_field.new.out.items c.loop-field.invariant c.in_err-add_field.ensures.err)
