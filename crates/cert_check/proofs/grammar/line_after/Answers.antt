-- The first fields are enough.
use Rattle.std.proofs.Common.{◌≡◌, false, map, ap, ◌∙◌}
use Rattle.net_text.specs.Fields.{fields}
use Rattle.cert_check.specs.Certificates.{is_cycle_due, line_after}
use Rattle.cert_check.proofs.FewFields.{few_enough}
use Rattle.cert_check.proofs.grammar.line_after.Goals as goal

pub returns : goal.returns
returns c =
    let net = c.args.net.now in
    let other : is_cycle_due c.args.stage ≡ false = cc in
    c.in_ok-step-2.ensures
    ∙ ap (line_after net c.args.stage c.args.word) (ap (map (λ f. f.now)) c.fields.ensures ∙ c.of-few.ensures.first)
    ∙ few_enough net c.args.stage c.args.word (fields c.args.rest.now) other
