-- What follows a field is the rest of the line.
use Rattle.std.proofs.Common.{◌-◌, ◌+◌, ℕ, List, length, take, drop, sym, subst, ◌∙◌, arith}
use Rattle.std.proofs.lemmas.Bool.Decides.{nat_tests}
use Rattle.std.proofs.lemmas.List.{take_all, length-drop}
use Rattle.cert_check.specs.Taken.{TakesField}
use Rattle.cert_check.proofs.FieldsTaken.{nowhere, last_field, next_field}
use Rattle.cert_check.proofs.field.take_field.Goals as goal

pub returns-in_default : goal.returns-in_default
returns-in_default c =
    let line : List ℕ = c.args.line.now in
    let filled : List ℕ = c.without_blanks-filled.result.now in
    let begins = c.without_blanks-filled.ensures in
    let left = length-drop (length filled) filled in
    subst (TakesField line filled) (sym (take_all (length filled - length filled) (drop (length filled) filled) (omega arith)))
    (last_field line filled begins.same begins.size (grind (arith, nat_tests)) (sym c.blank_in.ensures ∙ nowhere c.blank_in.result c.in_default.not-Some))

pub returns : goal.returns
returns c =
    let line : List ℕ = c.args.line.now in
    let filled : List ℕ = c.without_blanks-filled.result.now in
    let end = c.in-Some.end in
    let begins = c.without_blanks-filled.ensures in
    let left = length-drop (end + 1) filled in
    subst (TakesField line (take end filled)) (sym (take_all (length filled - (end + 1)) (drop (end + 1) filled) (omega arith)))
    (next_field line filled end begins.same begins.size begins.begins (sym c.in-Some.ensures))
