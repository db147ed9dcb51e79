use Rattle.std.proofs.Common.{sym, ap, ◌∙◌, inl, arith}
use Rattle.std.proofs.lemmas.Int.{ints}
use Rattle.elim_step.specs.Summaries.{entry_in}
use Rattle.shared_graph.specs.Interfaces.{Summary}
use Rattle.conflict_cycle.proofs.AgentLegs.{found_is, found_not, agent_leg, horizon_leg, horizon_walk}
use Rattle.conflict_cycle.proofs.Belonging.{once_of}
use Rattle.conflict_cycle.proofs.join.add_published.Goals as goal

pub walk-requires : goal.walk-requires
walk-requires g c =
    let leg = c.args.leg in
    let entry = c.weight.ensures ∙ ap (λ (s : Summary). entry_in s leg.from.0 leg.to.0) c.summary.ensures.value in
    (leg.weight, inl (sym entry ∙ found_is c.weight.result _ leg.weight (sym c.if-eq.ensures) (omega (arith, ints))))

pub horizon_arc-requires : goal.horizon_arc-requires
horizon_arc-requires g c =
    let r = c.args.reduced.now in
    let leg = c.args.leg in
    let q = c.requires in
    let once = once_of g.net q.0 r q.1.0 c.summary.ensures.reduced in
    let entry = c.weight.ensures ∙ ap (λ (s : Summary). entry_in s leg.from.0 leg.to.0) c.summary.ensures.value in
    let horizon = agent_leg g.net q.0 leg r.local.agent r.summary once q.1.1
    (found_not c.weight.result _ _ leg.weight (sym c.if-eq.ensures) (omega (arith, ints)) entry) in
    horizon_leg g.net q.0 leg horizon

pub returns : goal.returns
returns g c =
    let r = c.args.reduced.now in
    let leg = c.args.leg in
    let q = c.requires in
    let once = once_of g.net q.0 r q.1.0 c.summary.ensures.reduced in
    let entry = c.weight.ensures ∙ ap (λ (s : Summary). entry_in s leg.from.0 leg.to.0) c.summary.ensures.value in
    let horizon = agent_leg g.net q.0 leg r.local.agent r.summary once q.1.1
    (found_not c.weight.result _ _ leg.weight (sym c.if-eq.ensures) (omega (arith, ints)) entry) in
    horizon_walk g.net q.0 leg horizon c.horizon_arc.result c.args.walk.now.items c.push.new.self.items c.horizon_arc.ensures c.in_ok-push.ensures.items
