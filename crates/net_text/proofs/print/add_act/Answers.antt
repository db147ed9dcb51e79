-- The line names the owner of the act's start, and the act by the start's name.
use Rattle.std.proofs.Common.{◌≡◌, ◌-◌, ◌++◌, ℕ, to_z, of_z, w64, List, get_or, ap, ◌∙◌, arith}
use Rattle.std.proofs.lemmas.Int.{ints}
use Rattle.stn_model.specs.declared.ids.Act.{Act}
use Rattle.stn_model.specs.Net.{no_place, no_act}
use Rattle.net_text.proofs.NetParts.{owner_is, point_name_is, act_line_is}
use Rattle.net_text.proofs.print.add_act.Goals as goal

pub agent_name-requires : goal.agent_name-requires
agent_name-requires c =
    let within = c.act-act.ensures.within in
    let start : ℕ = c.act-act.result.start.0 in
    let owner = owner_is c.args.net.now start c.owner.result c.in-Some.owner within.after_z
    (omega (arith, within.next, within.there)) c.owner.ensures c.in-Some.is in
    let own = c.requires.valid.owners (start - 1) no_place (omega (arith, within.after_z, within.next, within.there)) in
    omega arith

pub returns-clause-ok : goal.returns-clause-ok
returns-clause-ok c =
    let net = c.args.net.now in
    let within = c.act-act.ensures.within in
    let start : ℕ = c.act-act.result.start.0 in
    let at : start ≡ c.args.place.point = ap (λ (a : Act). a.start.0) c.act-act.ensures.act ∙ c.requires.starts.1 in
    let owner = owner_is net start c.owner.result c.in-Some.owner within.after_z (omega (arith, within.next, within.there)) c.owner.ensures c.in-Some.is in
    let low_low = within.low_low in
    let low_high = within.low_high in
    let high_low = within.high_low in
    let high_high = within.high_high in
    let is_low : to_z w64 (of_z w64 c.act-act.result.low) ≡ c.act-act.result.low = omega (arith, ints) in
    let is_high : to_z w64 (of_z w64 c.act-act.result.high) ≡ c.act-act.result.high = omega (arith, ints) in
    c.in_ok-add_act_fields.ensures.ok
    ∙ ap (λ (l : List ℕ). c.args.out.now.items ++ l)
    (act_line_is net c.args.place.point c.act-act.result (get_or net.acts c.args.place.act no_act) c.in-Some.owner.0 start c.agent_name.result.now
    c.point_name-start.result.now (to_z w64 (of_z w64 c.act-act.result.low)) (to_z w64 (of_z w64 c.act-act.result.high))
    c.act-act.ensures.act at owner c.agent_name.ensures
    (c.point_name-start.ensures ∙ point_name_is net start within.after_z) is_low is_high)
