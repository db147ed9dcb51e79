-- At most five fields are looked at.
use Rattle.std.proofs.Common.{◌≡◌, true, false, ◌∙◌, arith}
use Rattle.std.proofs.lemmas.Bool.Decides.{nat_tests}
use Rattle.net_text.specs.Lines.{is_skipped, is_text}
use Rattle.script_text.proofs.Takes.{line_in_taken}
use Rattle.script_text.proofs.grammar.line_in.Goals as goal

pub returns : goal.returns
returns c =
    let plain : is_skipped c.args.text.now ≡ false = cc in
    let printable : is_text c.args.text.now ≡ true = grind (arith, nat_tests) in
    c.line_of.ensures ∙ line_in_taken c.args.net.now c.args.inside c.args.text.now _ plain printable c.first_fields-count.ensures.fields
