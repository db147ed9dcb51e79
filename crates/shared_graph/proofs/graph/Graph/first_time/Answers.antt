use Rattle.std.proofs.Common.{ap, sym, ◌∙◌, arith, ◌≡◌, Some, subst}
use Rattle.std.specs.Option.{option_map}
use Rattle.std.proofs.lemmas.Int.{ints}
use Rattle.stn_model.specs.declared.ids.AgentId.{AgentId}
use Rattle.dist_rows.specs.Cells.{IsLight}
use Rattle.shared_graph.specs.Graphs.{GraphView}
use Rattle.shared_graph.specs.Interfaces.{IsInterface}
use Rattle.shared_graph.specs.Together.{HoldsTogether}
use Rattle.shared_graph.specs.Weights.{final}
use Rattle.shared_graph.specs.Windows.{lean_in}
use Rattle.shared_graph.proofs.graphs.FirstTimes.{owner_below, lean_of, back_there, out_there, back_light, out_light, first_time}
use Rattle.shared_graph.proofs.graph.Graph.first_time.Goals as goal

pub unreachable-requires-in_default-final_bound : goal.unreachable-requires-in_default-final_bound
unreachable-requires-in_default-final_bound g c =
    let v = c.args.self.now in
    let known : IsInterface v.face = rw (← c.self.view_is) c.self.invariant.interface in
    let together : HoldsTogether v.face v.state = rw (← c.self.view_is) c.self.invariant.together in
    back_there v.face known v.state together c.args.point.0 c.requires.listed c.requires.first (sym c.final_bound.ensures.value ∙ c.in_default-final_bound.is)

pub unreachable-requires-in_default-final_bound-2 : goal.unreachable-requires-in_default-final_bound-2
unreachable-requires-in_default-final_bound-2 g c =
    let v = c.args.self.now in
    let known : IsInterface v.face = rw (← c.self.view_is) c.self.invariant.interface in
    let together : HoldsTogether v.face v.state = rw (← c.self.view_is) c.self.invariant.together in
    out_there v.face known v.state together c.args.point.0 c.requires.listed c.requires.first
    (sym c.final_bound-2.ensures.value ∙ c.in_default-final_bound-2.is)

pub lean-requires : goal.lean-requires
lean-requires g c = owner_below c.self.inside.interface c.self.invariant.interface c.args.point.0 c.in-Some.agent.0
    (sym c.owner.ensures ∙ ap (option_map (λ (a : AgentId). a.0)) c.in-Some.is)

pub overflow_sub-back : goal.overflow_sub-back
overflow_sub-back g c =
    let v = c.args.self.now in
    let known : IsInterface v.face = rw (← c.self.view_is) c.self.invariant.interface in
    let together : HoldsTogether v.face v.state = rw (← c.self.view_is) c.self.invariant.together in
    let back : final v.face v.state c.args.point.0 0 ≡ Some c.in-Some-final_bound.back = sym c.final_bound.ensures.value ∙ c.in-Some-final_bound.is in
    let light_back : IsLight 99 c.in-Some-final_bound.back =
    back_light v.face known v.state together c.args.point.0 c.requires.listed c.requires.first c.in-Some-final_bound.back back in
    omega (arith, ints)

pub chosen-requires-clause-low : goal.chosen-requires-clause-low
chosen-requires-clause-low g c =
    let v = c.args.self.now in
    let known : IsInterface v.face = rw (← c.self.view_is) c.self.invariant.interface in
    let together : HoldsTogether v.face v.state = rw (← c.self.view_is) c.self.invariant.together in
    let back : final v.face v.state c.args.point.0 0 ≡ Some c.in-Some-final_bound.back = sym c.final_bound.ensures.value ∙ c.in-Some-final_bound.is in
    let light_back : IsLight 99 c.in-Some-final_bound.back =
    back_light v.face known v.state together c.args.point.0 c.requires.listed c.requires.first c.in-Some-final_bound.back back in
    omega (arith, ints)

pub chosen-requires-clause-high : goal.chosen-requires-clause-high
chosen-requires-clause-high g c =
    let v = c.args.self.now in
    let known : IsInterface v.face = rw (← c.self.view_is) c.self.invariant.interface in
    let together : HoldsTogether v.face v.state = rw (← c.self.view_is) c.self.invariant.together in
    let back : final v.face v.state c.args.point.0 0 ≡ Some c.in-Some-final_bound.back = sym c.final_bound.ensures.value ∙ c.in-Some-final_bound.is in
    let light_back : IsLight 99 c.in-Some-final_bound.back =
    back_light v.face known v.state together c.args.point.0 c.requires.listed c.requires.first c.in-Some-final_bound.back back in
    let out : final v.face v.state 0 c.args.point.0 ≡ Some c.in-Some-final_bound-2.out = sym c.final_bound-2.ensures.value ∙ c.in-Some-final_bound-2.is in
    let light_out : IsLight 99 c.in-Some-final_bound-2.out =
    out_light v.face known v.state together c.args.point.0 c.requires.listed c.requires.first c.in-Some-final_bound-2.out out in
    omega (arith, ints)

pub returns : goal.returns
returns g c =
    let v = c.args.self.now in
    let known : IsInterface v.face = rw (← c.self.view_is) c.self.invariant.interface in
    let together : HoldsTogether v.face v.state = rw (← c.self.view_is) c.self.invariant.together in
    let back : final v.face v.state c.args.point.0 0 ≡ Some c.in-Some-final_bound.back = sym c.final_bound.ensures.value ∙ c.in-Some-final_bound.is in
    let light_back : IsLight 99 c.in-Some-final_bound.back =
    back_light v.face known v.state together c.args.point.0 c.requires.listed c.requires.first c.in-Some-final_bound.back back in
    let out : final v.face v.state 0 c.args.point.0 ≡ Some c.in-Some-final_bound-2.out = sym c.final_bound-2.ensures.value ∙ c.in-Some-final_bound-2.is in
    let light_out : IsLight 99 c.in-Some-final_bound-2.out =
    out_light v.face known v.state together c.args.point.0 c.requires.listed c.requires.first c.in-Some-final_bound-2.out out in
    let lean : c.lean.result ≡ lean_in v.face c.args.point.0 =
    subst (λ (w : GraphView). c.lean.result ≡ lean_in w.face c.args.point.0) c.self.view_is
    (c.lean.ensures ∙ lean_of c.self.inside.interface c.args.point.0 c.in-Some.agent.0
    (sym c.owner.ensures ∙ ap (option_map (λ (a : AgentId). a.0)) c.in-Some.is)) in
    first_time v.face known v.state together c.args.point.0 c.in-Some-final_bound.back c.in-Some-final_bound-2.out c.lean.result _ _ c.chosen.result _
    c.requires.first back out lean (omega (arith, ints)) (omega (arith, ints)) c.chosen.ensures (omega (arith, ints))
