use Rattle.std.proofs.Common.{sym, ◌∙◌, arith, ◌≡◌, false}
use Rattle.std.specs.Prelude.{is_some}
use Rattle.std.proofs.lemmas.Int.{ints}
use Rattle.shared_graph.proofs.graphs.Refusing.{refused_as, refused_assign}
use Rattle.shared_graph.proofs.graph.Graph.refusal.Goals as goal

pub returns-in-Revisit : goal.returns-in-Revisit
returns-in-Revisit g c =
    let v = c.args.self.now in
    let going : is_some v.state.stop ≡ false = rw (← c.self.view_is) (sym c.is_some.ensures ∙ c.if-is_some.false) in
    refused_as v.face v.state c.args.entry.now _ c.revisit_refusal.result going c.in-Revisit.is (c.revisit_refusal.ensures c.args.entry.now.by)

pub returns-in-Assign : goal.returns-in-Assign
returns-in-Assign g c =
    let v = c.args.self.now in
    let going : is_some v.state.stop ≡ false = rw (← c.self.view_is) (sym c.is_some.ensures ∙ c.if-is_some.false) in
    refused_assign v.face v.state c.args.entry.now c.in-Assign.point c.in-Assign.value _ c.assign_refusal.result going c.in-Assign.is (omega (arith, ints))
    (c.assign_refusal.ensures c.args.entry.now.by)

pub returns-in-Widen : goal.returns-in-Widen
returns-in-Widen g c =
    let v = c.args.self.now in
    let going : is_some v.state.stop ≡ false = rw (← c.self.view_is) (sym c.is_some.ensures ∙ c.if-is_some.false) in
    refused_as v.face v.state c.args.entry.now _ c.widen_refusal.result going c.in-Widen.is (c.widen_refusal.ensures c.args.entry.now.by c.in-Widen.end)
