use Rattle.std.proofs.Common.{◌∙◌, sym, subst, rules, arith}
use Rattle.stn_model.specs.Net.{Agent}
use Rattle.stn_model.specs.Valid.{IsNetwork}
use Rattle.stn_model.proofs.NetLemmas.{view_with_agent, found_is}
use Rattle.stn_model.proofs.ValidLemmas.{IsNetwork-agent}
use Rattle.stn_model.proofs.FlagLemmas.{AreFlags-agents}
use Rattle.stn_model.specs.Views.{view_of}
use Rattle.stn_model.proofs.network.Network.add_agent.Goals as goal

pub invariant_of-self-2 : goal.invariant_of-self-2
invariant_of-self-2 c =
    let agent : Agent = record { name = c.args.name.now; lean = c.args.lean } in
    let lacks = sym c.is_some.ensures ∙ c.if-is_some.false in
    let n = c.agents-number.ensures.count in
    let new_view = view_with_agent c.self.inside c.args.self.now c.insert.new.self.entries c.in-Ok.name c.args.name.now c.args.lean c.find_agent.result
    c.self.view_is c.in-Ok.ensures.items c.find_agent.ensures lacks c.in-Ok-insert.ensures.entries in
    record {
      network = subst IsNetwork (sym new_view) (IsNetwork-agent c.args.self.now agent c.agents-number.ensures.valid (omega arith)
          (search rules) (found_is (λ a. a.0) c.find_agent.result _ c.find_agent.ensures lacks));
      flags = AreFlags-agents (view_of c.self.inside) _ c.self.inside.shared.items c.self.invariant.flags;
    }

pub returns-clause-ok : goal.returns-clause-ok
returns-clause-ok c = (
  c.agents-number.ensures.count,
  view_with_agent c.self.inside c.args.self.now c.insert.new.self.entries c.in-Ok.name c.args.name.now c.args.lean c.find_agent.result
      c.self.view_is c.in-Ok.ensures.items c.find_agent.ensures (sym c.is_some.ensures ∙ c.if-is_some.false) c.in-Ok-insert.ensures.entries,
)
