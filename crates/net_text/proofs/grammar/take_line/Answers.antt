-- A line does what its first six fields say.
use Rattle.std.proofs.Common.{◌≡◌, true, sym, ◌∙◌, arith}
use Rattle.std.proofs.lemmas.Bool.Decides.{nat_tests}
use Rattle.net_text.specs.Lines.{is_text}
use Rattle.net_text.proofs.Counts.{line_by_fields}
use Rattle.net_text.proofs.grammar.take_line.Goals as goal

pub returns : goal.returns
returns c =
    let text : is_text c.args.line.now ≡ true = grind (arith, nat_tests) in
    line_by_fields c.in_ok-next.next _ c.args.stage.now c.args.line.now _ (sym c.is_skipped.ensures ∙ c.if-is_skipped.false) text
    c.first_fields-count.ensures.fields c.in_ok-next.ensures
