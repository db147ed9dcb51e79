-- The failure of the agents, or of the arcs, is the network's.
use Rattle.std.proofs.Common.{◌≡◌, List, [], ◌∷◌, Ok, Err, ◌∙◌, subst}
use Rattle.std.proofs.lemmas.Result.{err_from_is_err_and}
use Rattle.serde_json.specs.View.{view}
use Rattle.json_net.specs.declared.path.JsonKey.TheVariants.{Agents, Arcs}
use Rattle.json_net.specs.declared.path.Step.{Step}
use Rattle.json_net.specs.declared.path.Step.TheVariants.{Key}
use Rattle.json_net.specs.Networks.{read_array, read_agent, read_arc, network_of}
use Rattle.json_net.specs.Reading.{Adds, root_seen}
use Rattle.json_net.proofs.Steps.{and_then-Ok, failed_so, failed_last, at_root, opened_so}
use Rattle.json_net.proofs.read.network.Goals as goal

pub returns-in_err-agents : goal.returns-in_err-agents
returns-in_err-agents c =
    let d = view c.args.value.now in
    let s = root_seen c.in_ok-shape.shape in
    let net = c.in_ok-net.net in
    let e = c.in_err-agents.field-0.0 in
    let left =
    opened_so d s net c.root-root.result c.then.result c.then-2.result c.root-root.ensures c.then.ensures c.then-2.ensures
    c.in_ok-shape.ensures c.in_ok-version.ensures c.in_ok-net.ensures in
    let here = at_root c.root-root.result c.then-3.result (Key Agents) c.root-root.ensures c.then-3.ensures in
    let said = subst (λ (p : List Step). Adds {A = Unit {0}} (read_array read_agent p net s.agents) (Err e) c.agents.new.net) here c.in_err-agents.ensures in
    let p = err_from_is_err_and c.from_residual-in_err-agents.result c.from_residual-in_err-agents.ensures.1 in
    rw (p.1, p.2) (failed_so (Unit {0}) (network_of d) (read_array read_agent (Key Agents ∷ []) net s.agents)
    (λ grown. read_array read_arc (Key Arcs ∷ []) grown s.arcs)
    e c.agents.new.net left said)

pub returns-in_err-arcs : goal.returns-in_err-arcs
returns-in_err-arcs c =
    let d = view c.args.value.now in
    let s = root_seen c.in_ok-shape.shape in
    let net = c.in_ok-net.net in
    let e = c.in_err-arcs.field-0.0 in
    let grown = c.agents.new.net in
    let left =
    opened_so d s net c.root-root.result c.then.result c.then-2.result c.root-root.ensures c.then.ensures c.then-2.ensures
    c.in_ok-shape.ensures c.in_ok-version.ensures c.in_ok-net.ensures in
    let there = at_root c.root-root.result c.then-3.result (Key Agents) c.root-root.ensures c.then-3.ensures in
    let peopled = subst (λ (p : List Step). read_array read_agent p net s.agents ≡ Ok grown) there c.in_ok-agents.ensures in
    let here = at_root c.root-root.result c.then-4.result (Key Arcs) c.root-root.ensures c.then-4.ensures in
    let said = subst (λ (p : List Step). Adds {A = Unit {0}} (read_array read_arc p grown s.arcs) (Err e) c.arcs.new.net) here c.in_err-arcs.ensures in
    let p = err_from_is_err_and c.from_residual-in_err-arcs.result c.from_residual-in_err-arcs.ensures.1 in
    rw (p.1, p.2)
    (failed_last (Unit {0}) (network_of d) (read_array read_arc (Key Arcs ∷ []) grown s.arcs) e c.arcs.new.net (left ∙ and_then-Ok _ _ _ peopled) said)
