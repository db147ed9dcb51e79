-- A text is a point.
use Rattle.std.proofs.Common.{◌≡◌, ℕ, List, Option, Some, sym, ap, ◌∙◌, subst}
use Rattle.serde_json.specs.View.{view}
use Rattle.serde_json.specs.Find.{as_str}
use Rattle.json_net.specs.Networks.{point_or_act}
use Rattle.json_net.specs.Reading.{Adds}
use Rattle.json_net.proofs.agents.point.Goals as goal

pub returns-in-Some-clause-said : goal.returns-in-Some-clause-said
returns-in-Some-clause-said c =
    let text : Some c.as_bytes.result.now ≡ as_str (view c.args.value.now) = ap (λ (s : List ℕ). Some s) c.as_bytes.ensures.value ∙ c.in-Some.ensures in
    subst (λ (o : Option (List ℕ)). Adds (point_or_act o c.args.agent.0 c.args.path c.args.net.now (view c.args.value.now)) c.add_point.result
    c.add_point.new.net) text
    c.add_point.ensures.said
