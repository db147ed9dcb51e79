use Rattle.std.proofs.Common.{◌≡◌, ◌∙◌, sym, subst, length, rules, arith}
use Rattle.stn_model.specs.Net.{Net, Place}
use Rattle.stn_model.specs.Valid.{IsNetwork}
use Rattle.stn_model.specs.Flags.{AreFlags}
use Rattle.stn_model.proofs.NetLemmas.{view_with_point, found_is}
use Rattle.stn_model.proofs.ValidLemmas.{IsNetwork-point}
use Rattle.stn_model.proofs.FlagLemmas.{AreFlags-point}
use Rattle.stn_model.proofs.network.Network.add_point.Goals as goal

pub invariant_of-self-2 : goal.invariant_of-self-2
invariant_of-self-2 c =
    let place : Place = record { name = c.args.name.now; owner = c.args.agent.0 } in
    let lacks = sym c.is_some.ensures ∙ c.if-is_some.false in
    let n = c.points-number.ensures.count in
    let none : length c.args.self.now.given ≡ 0 = rw (← c.self.view_is) (omega (arith, c.self.inside.given.ok.0)) in
    let new_view = view_with_point c.self.inside c.args.self.now c.insert.new.self.entries c.in-Ok.name c.args.name.now c.args.agent c.find.result
    c.self.view_is c.in-Ok.ensures.items c.find.ensures lacks c.in-Ok-insert.ensures.entries in
    record {
      network = subst IsNetwork (sym new_view) (IsNetwork-point c.args.self.now place c.points-number.ensures.valid (omega arith) c.requires none
          (search rules) (found_is (λ p. p.0) c.find.result _ c.find.ensures lacks));
      flags = subst (λ (w : Net). AreFlags w c.push_reserved.new.self.items) (sym new_view)
          (rw (c.push_reserved.ensures.items, c.in-Ok-reserve.ensures.items) (AreFlags-point c.args.self.now place c.self.inside.shared.items none
          (subst (λ (w : Net). AreFlags w c.self.inside.shared.items) c.self.view_is c.self.invariant.flags)));
    }

pub returns-clause-ok : goal.returns-clause-ok
returns-clause-ok c = (
  c.points-number.ensures.count,
  view_with_point c.self.inside c.args.self.now c.insert.new.self.entries c.in-Ok.name c.args.name.now c.args.agent c.find.result
      c.self.view_is c.in-Ok.ensures.items c.find.ensures (sym c.is_some.ensures ∙ c.if-is_some.false) c.in-Ok-insert.ensures.entries,
)
