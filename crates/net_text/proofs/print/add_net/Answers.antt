use Rattle.std.proofs.Common.{◌≡◌, ℕ, ℤ, to_z, of_z, w64, ◌++◌, [], ◌∷◌, List, codes, ap, ◌∙◌, arith}
use Rattle.std.specs.List.{flat_map}
use Rattle.std.specs.Fmt.{signed_decimal}
use Rattle.std.proofs.lemmas.Int.{ints}
use Rattle.std.proofs.lemmas.List.{append_assoc}
use Rattle.stn_model.proofs.NetLemmas.{length-arcs_of}
use Rattle.net_text.specs.Versions.{version_word}
use Rattle.net_text.specs.Plain.{line, agent_line, place_lines, arc_line}
use Rattle.net_text.proofs.Fronts.{joined, front_trans, on_err_from}
use Rattle.net_text.proofs.print.add_net.Goals as goal

pub overflow_add-agents : goal.overflow_add-agents
overflow_add-agents c =
    omega (arith, length-arcs_of c.args.net.now, c.agents.ensures.valid.few_agents, c.agents.ensures.valid.few_points, c.agents.ensures.valid.few_arcs)

pub returns-in_err-add_line-clause-err : goal.returns-in_err-add_line-clause-err
returns-in_err-add_line-clause-err c =
    let net = c.args.net.now in
    let before = joined c.args.out.now.items c.add_header.new.out.items c.add_horizon.new.out.items
    c.add_agents.new.out.items c.add_places.new.out.items c.add_arcs.new.out.items
    (line (codes "mastn") (version_word c.args.version ∷ [])) _
    (flat_map agent_line net.agents) (place_lines net 1 net.places net.acts) (flat_map (arc_line net) net.given)
    (c.in_ok-add_header.ensures.ok ∙ ap (λ (o : List ℕ). o ++ line (codes "mastn") (version_word c.args.version ∷ [])) c.in_ok-reserve.ensures.items)
    c.in_ok-add_horizon.ensures.ok c.in_ok-add_agents.ensures.ok c.in_ok-add_places.ensures.ok c.in_ok-add_arcs.ensures.ok in
    on_err_from c.from_residual-in_err-add_line.result
    (front_trans c.args.out.now.items _ c.add_arcs.new.out.items c.add_line.new.out.items before c.in_err-add_line.ensures.err)

pub returns-clause-ok : goal.returns-clause-ok
returns-clause-ok c =
    let net = c.args.net.now in
    let all : List ℕ =
    line (codes "mastn") (version_word c.args.version ∷ []) ++ line (codes "horizon") (signed_decimal net.horizon ∷ [])
    ++ flat_map agent_line net.agents ++ place_lines net 1 net.places net.acts ++ flat_map (arc_line net) net.given in
    let is = c.horizon.ensures.horizon in
    let low = c.horizon.ensures.valid.horizon_low in
    let high = c.horizon.ensures.valid.horizon_high in
    let fits : to_z w64 (of_z w64 c.horizon.result) ≡ net.horizon = omega (arith, ints) in
    let before = joined c.args.out.now.items c.add_header.new.out.items c.add_horizon.new.out.items
    c.add_agents.new.out.items c.add_places.new.out.items c.add_arcs.new.out.items
    (line (codes "mastn") (version_word c.args.version ∷ [])) (line (codes "horizon") (signed_decimal net.horizon ∷ []))
    (flat_map agent_line net.agents) (place_lines net 1 net.places net.acts) (flat_map (arc_line net) net.given)
    (c.in_ok-add_header.ensures.ok ∙ ap (λ (o : List ℕ). o ++ line (codes "mastn") (version_word c.args.version ∷ [])) c.in_ok-reserve.ensures.items)
    (c.in_ok-add_horizon.ensures.ok ∙ ap (λ (h : ℤ). c.add_header.new.out.items ++ line (codes "horizon") (signed_decimal h ∷ [])) fits)
    c.in_ok-add_agents.ensures.ok c.in_ok-add_places.ensures.ok c.in_ok-add_arcs.ensures.ok in
    c.in_ok-add_line.ensures.ok ∙ ap (λ (o : List ℕ). o ++ line (codes "end") []) before ∙ append_assoc c.args.out.now.items all (line (codes "end") [])
