use Rattle.std.proofs.Common.{None, arith}
use Rattle.std.specs.List.{Contains}
use Rattle.std.proofs.lemmas.List.{get_or_read}
use Rattle.dispatcher.proofs.plan.Plan.time.Goals as goal

pub index-requires : goal.index-requires
index-requires c =
    let d = c.self.inside in
    let there : Contains d.local.points c.args.p.0 = (rw (← c.self.view_is) at c.requires) in
    let s = c.self.invariant.standing in
    omega (arith, s.known c.args.p.0 there, s.choice_each, d.choices.ok.0)

pub returns : goal.returns
returns c =
    let d = c.self.inside in
    let there : Contains d.local.points c.args.p.0 = (rw (← c.self.view_is) at c.requires) in
    let s = c.self.invariant.standing in
    rw (← c.self.view_is)
    (get_or_read d.choices.items c.args.p.0 c.index.result.now (omega (arith, s.known c.args.p.0 there, s.choice_each)) c.index.ensures None)
