use Rattle.std.proofs.Common.{ℕ, ◌++◌, ◌∷◌, [], codes, List, sym, ap, ◌∙◌}
use Rattle.cert_print.specs.Texts.{numbers_text}
use Rattle.cert_print.proofs.Certified.{three_joined}
use Rattle.cert_print.proofs.CycleLines.{spaced_numbers}
use Rattle.cert_print.proofs.certificate.add_cycle.Goals as goal

pub returns-clause-ok : goal.returns-clause-ok
returns-clause-ok c =
    let ns : List ℕ = c.args.cycle.now in
    let o : List ℕ = c.args.out.now.items in
    three_joined o c.extend_from_slice.new.self.items c.add_numbers.new.out.items c.push.new.self.items (codes "cycle") (numbers_text ns) (10 ∷ [])
    c.in_ok-extend_from_slice.ensures.items c.in_ok-add_numbers.ensures.ok c.in_ok-push.ensures.items
    ∙ ap (λ (x : List ℕ). o ++ (codes "cycle" ++ x ++ 10 ∷ [])) (sym (spaced_numbers ns))
