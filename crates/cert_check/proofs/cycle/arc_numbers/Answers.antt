-- More numbers than points are those of no cycle.
use Rattle.std.proofs.Common.{◌≡◌, ◌++◌, ap, ◌∙◌, arith}
use Rattle.std.specs.Option.{option_map}
use Rattle.net_text.specs.Fields.{fields}
use Rattle.cert_check.specs.Certificates.{arc_numbers}
use Rattle.cert_check.proofs.ShortCycles.{too_many}
use Rattle.cert_check.proofs.cycle.arc_numbers.Goals as goal

pub returns-then-len-most : goal.returns-then-len-most
returns-then-len-most c =
    let net = c.args.net.now in
    let many = c.points-most.ensures.count in
    too_many net c.points-most.ensures.valid (fields c.args.line.now) c.in-Some.field.text.now (fields c.in-Some.field.rest.now) c.loop-field.numbers.items
    (c.loop-field.invariant ∙ ap (λ fs. option_map (λ ms. c.loop-field.numbers.items ++ ms) (arc_numbers net fs)) c.in-Some.ensures.first) (omega arith)
