use Rattle.std.proofs.Common.{take}
use Rattle.net_text.proofs.Fronts.{front_trans, on_err_from}
use Rattle.cert_print.specs.Texts.{numbers_text}
use Rattle.cert_print.proofs.certificate.add_numbers.Goals as goal

pub returns-in_err-add_field-clause-err : goal.returns-in_err-add_field-clause-err
returns-in_err-add_field-clause-err c =
    on_err_from c.from_residual.result
    (front_trans c.args.out.now.items (numbers_text (take c.loop-number.number-index c.args.numbers.now)) c.loop-number.out.items c.add_field.new.out.items
    c.loop-number.invariant c.in_err-add_field.ensures.err)
