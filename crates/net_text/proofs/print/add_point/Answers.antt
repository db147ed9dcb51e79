use Rattle.std.proofs.Common.{◌-◌, ◌++◌, [], ◌∷◌, codes, List, ℕ, get_or, ap, ◌∙◌, arith}
use Rattle.stn_model.specs.Net.{no_place, agent_name_of}
use Rattle.net_text.specs.Plain.{line}
use Rattle.net_text.proofs.NetParts.{owner_is, point_name_is}
use Rattle.net_text.proofs.print.add_point.Goals as goal

pub agent_name-requires : goal.agent_name-requires
agent_name-requires c =
    let owner = owner_is c.args.net.now c.args.point.0 c.owner.result c.in-Some.owner c.requires.not_z c.requires.in_net c.owner.ensures c.in-Some.is in
    let within = c.requires.valid.owners (c.args.point.0 - 1) no_place (omega arith) in
    omega arith

pub returns-clause-ok : goal.returns-clause-ok
returns-clause-ok c =
    let owner = owner_is c.args.net.now c.args.point.0 c.owner.result c.in-Some.owner c.requires.not_z c.requires.in_net c.owner.ensures c.in-Some.is in
    let first = c.agent_name.ensures ∙ ap (agent_name_of c.args.net.now) owner in
    let second = c.point_name.ensures ∙ point_name_is c.args.net.now c.args.point.0 c.requires.not_z in
    c.in_ok-add_line.ensures.ok
    ∙ ap (λ (n : List ℕ). c.args.out.now.items ++ line (codes "point") (n ∷ c.point_name.result.now ∷ [])) first
    ∙ ap (λ (n : List ℕ). c.args.out.now.items ++ line (codes "point")
    (agent_name_of c.args.net.now (get_or c.args.net.now.places (c.args.point.0 - 1) no_place).owner ∷ n ∷ [])) second
