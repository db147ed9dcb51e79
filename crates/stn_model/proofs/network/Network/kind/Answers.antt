use Rattle.std.proofs.Common.{◌∙◌, sym, ap, ◌≤◌, length, arith, if◌then◌else◌}
use Rattle.stn_model.specs.declared.ids.Kind.TheVariants.{Private, Shared}
use Rattle.stn_model.specs.Views.{view_of}
use Rattle.stn_model.proofs.FlagLemmas.{kind_by_flag}
use Rattle.stn_model.proofs.network.Network.kind.Goals as goal

pub returns-then-index : goal.returns-then-index
returns-then-index c =
    let r = rw (← c.self.view_is) at c.requires in
    let high : c.args.p.0 ≤ length (view_of c.self.inside).places = omega arith in
    rw (← c.self.view_is) (sym
    (kind_by_flag (view_of c.self.inside) c.self.inside.shared.items c.self.invariant.network.acts c.self.invariant.flags
    c.args.p.0 c.index.result.now (omega arith) high c.index.ensures
    ∙ ap (λ b. if b then Shared else Private) c.if-index.true))

pub returns : goal.returns
returns c =
    let r = rw (← c.self.view_is) at c.requires in
    let high : c.args.p.0 ≤ length (view_of c.self.inside).places = omega arith in
    rw (← c.self.view_is) (sym
    (kind_by_flag (view_of c.self.inside) c.self.inside.shared.items c.self.invariant.network.acts c.self.invariant.flags
    c.args.p.0 c.index.result.now (omega arith) high c.index.ensures
    ∙ ap (λ b. if b then Shared else Private) c.if-index.false))
