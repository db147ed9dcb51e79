use Rattle.std.proofs.Common.{ℕ, ◌++◌, ◌∷◌, [], codes, List, ap, ◌∙◌}
use Rattle.std.specs.List.{flat_map}
use Rattle.std.specs.Fmt.{decimal}
use Rattle.stn_model.specs.Net.{point_count}
use Rattle.net_text.specs.Plain.{line}
use Rattle.cert_print.specs.Texts.{section_text}
use Rattle.cert_print.proofs.Certified.{four_joined, certifies_consistent}
use Rattle.cert_print.proofs.certificate.add_consistent.Goals as goal

pub returns-clause-ok : goal.returns-clause-ok
returns-clause-ok c =
    let net = c.args.net.now in
    let o : List ℕ = c.args.out.now.items in
    let sections = c.in_ok-add_sections.ensures.ok in
    let count = c.in_ok-add_count.ensures.ok ∙ ap (λ (n : ℕ). c.add_line.new.out.items ++ line (codes "consistent") (decimal n ∷ [])) c.points.ensures.count in
    certifies_consistent net c.points.ensures.valid o c.add_line-2.new.out.items sections.walks (c.args.schedule.now, c.requires) sections.are
    (four_joined o c.add_line.new.out.items c.add_count.new.out.items c.add_sections.new.out.items c.add_line-2.new.out.items
    (line (codes "mastncert") (codes "1" ∷ [])) (line (codes "consistent") (decimal (point_count net) ∷ [])) (flat_map section_text sections.walks) (line (codes "end") [])
    c.in_ok-add_line.ensures.ok count sections.whole c.in_ok-add_line-2.ensures.ok)
