-- A line from its first filled byte on.
use Rattle.std.proofs.Common.{sym, ap, ◌∙◌, get_or}
use Rattle.std.proofs.lemmas.List.{take_rest}
use Rattle.net_text.specs.Fields.{fields, is_blank}
use Rattle.net_text.proofs.FirstFields.{nowhere, no_field, from_filled, starts_filled}
use Rattle.net_text.proofs.fields.past_blanks.Goals as goal

pub returns-in_default-clause-fields : goal.returns-in_default-clause-fields
returns-in_default-clause-fields c = no_field c.args.line.now (sym c.filled.ensures ∙ nowhere c.filled.result c.in_default.not-Some)

pub returns-clause-fields : goal.returns-clause-fields
returns-clause-fields c =
    from_filled c.args.line.now c.in-Some.start (sym c.filled.ensures ∙ c.in-Some.is) ∙ ap fields (sym (take_rest c.args.line.now c.in-Some.start))

pub returns-clause-filled : goal.returns-clause-filled
returns-clause-filled c =
    ap (λ xs. is_blank (get_or xs 0 0)) (take_rest c.args.line.now c.in-Some.start)
    ∙ starts_filled c.args.line.now c.in-Some.start (sym c.filled.ensures ∙ c.in-Some.is)
