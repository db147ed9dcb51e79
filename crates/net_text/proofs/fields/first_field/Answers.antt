-- A field ends at the first blank, or with the line.
use Rattle.std.proofs.Common.{◌+◌, ◌<◌, ◌∷◌, List, ℕ, length, take, sym, ap, ◌∙◌, arith}
use Rattle.std.proofs.lemmas.Bool.Decides.{nat_tests}
use Rattle.std.proofs.lemmas.List.{take_rest}
use Rattle.net_text.specs.Fields.{fields}
use Rattle.net_text.proofs.FirstFields.{nowhere, last_field, field_cut}
use Rattle.net_text.proofs.fields.first_field.Goals as goal

pub returns-in_default : goal.returns-in_default
returns-in_default c =
    let some : 0 < length c.past_blanks-line.result.now = grind (arith, nat_tests) in
    c.past_blanks-line.ensures.fields
    ∙ last_field c.past_blanks-line.result.now some (sym c.blank.ensures ∙ nowhere c.blank.result c.in_default.not-Some)

pub returns : goal.returns
returns c =
    c.past_blanks-line.ensures.fields
    ∙ field_cut c.past_blanks-line.result.now c.in-Some.end c.past_blanks-line.ensures.filled (sym c.blank.ensures ∙ c.in-Some.is)
    ∙ ap (λ (xs : List ℕ). take c.in-Some.end c.past_blanks-line.result.now ∷ fields xs) (sym (take_rest c.past_blanks-line.result.now (c.in-Some.end + 1)))
