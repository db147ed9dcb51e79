use Rattle.std.proofs.Common.{ℕ, ◌∷◌, [], ◌++◌, map, codes, List}
use Rattle.std.specs.Fmt.{decimal}
use Rattle.net_text.specs.Plain.{line}
use Rattle.net_text.proofs.Fronts.{front_trans, on_err_from}
use Rattle.cert_print.proofs.Certified.{three_joined, four_joined, certifies_inconsistent}
use Rattle.cert_print.proofs.certificate.add_inconsistent.Goals as goal

pub returns-in_err-add_line-3-clause-err : goal.returns-in_err-add_line-3-clause-err
returns-in_err-add_line-3-clause-err c =
    let o : List ℕ = c.args.out.now.items in
    let first : List ℕ = line (codes "mastncert") (codes "1" ∷ []) in
    let second : List ℕ = line (codes "inconsistent") [] in
    let third : List ℕ = line (codes "cycle") (map decimal c.args.cycle.now) in
    on_err_from c.from_residual-in_err-add_line-3.result
    (front_trans o (first ++ second ++ third) c.add_cycle.new.out.items c.add_line-3.new.out.items
    (three_joined o c.add_line.new.out.items c.add_line-2.new.out.items c.add_cycle.new.out.items first second third
    c.in_ok-add_line.ensures.ok c.in_ok-add_line-2.ensures.ok c.in_ok-add_cycle.ensures.ok)
    c.in_err-add_line-3.ensures.err)

pub returns-clause-ok : goal.returns-clause-ok
returns-clause-ok c =
    let o : List ℕ = c.args.out.now.items in
    certifies_inconsistent c.args.net.now c.points-points.ensures.valid o c.add_line-3.new.out.items c.args.cycle.now c.requires.negative c.requires.normal
    (four_joined o c.add_line.new.out.items c.add_line-2.new.out.items c.add_cycle.new.out.items c.add_line-3.new.out.items
    (line (codes "mastncert") (codes "1" ∷ [])) (line (codes "inconsistent") []) (line (codes "cycle") (map decimal c.args.cycle.now)) (line (codes "end") [])
    c.in_ok-add_line.ensures.ok c.in_ok-add_line-2.ensures.ok c.in_ok-add_cycle.ensures.ok c.in_ok-add_line-3.ensures.ok)
