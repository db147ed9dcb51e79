use Rattle.conflict_cycle.proofs.Belonging.{agent_known, agent_reduced, external_leg}
use Rattle.conflict_cycle.proofs.join.add_leg.Goals as goal

pub bounds-reduced-agent : goal.bounds-reduced-agent
bounds-reduced-agent g c =
    let q = c.requires in
    agent_known g.whole c.args.leg q.1.1.1.1.1 c.args.reduced.now q.1.0 q.1.1.1.0 c.in-Published.agent c.in-Published.is

pub add_published-requires : goal.add_published-requires
add_published-requires g c =
    let q = c.requires in
    let r = agent_reduced g.whole c.args.leg q.1.1.1.1.1 c.args.reduced.now q.1.0 q.1.1.1.0 c.in-Published.agent c.in-Published.is q.1.1.0
    c.index-reduced-agent.result c.index-reduced-agent.is in
    (q.0, (r.0, r.1))

pub returns-in_ok-push-in-Given : goal.returns-in_ok-push-in-Given
returns-in_ok-push-in-Given g c =
    let q = c.requires in
    external_leg g.whole c.args.leg q.1.1.1.1.1 c.args.externals.now q.1.1.1.1.0 c.in-Given.e c.in-Given.is c.args.walk.now.items c.push.new.self.items
    c.in_ok-push-in-Given.ensures.items
