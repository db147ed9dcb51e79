-- A line that a line feed ends, or the last line.
use Rattle.std.proofs.Common.{sym, ◌∙◌, arith}
use Rattle.std.proofs.lemmas.Bool.Decides.{nat_tests}
use Rattle.net_text.proofs.FirstFields.{nowhere}
use Rattle.net_text.proofs.Parts.{fed_line, last_line}
use Rattle.net_text.proofs.lines.first_line.Goals as goal

pub returns : goal.returns
returns c = fed_line c.args.bytes.now c.in-Some.end c.without_return.result.now (sym c.in-Some.ensures) c.without_return.ensures

pub returns-in_default : goal.returns-in_default
returns-in_default c =
    last_line c.args.bytes.now c.without_return-text.result.now (sym c.line_feed.ensures ∙ nowhere c.line_feed.result c.in_default.not-Some)
    c.without_return-text.ensures (grind (arith, nat_tests))
