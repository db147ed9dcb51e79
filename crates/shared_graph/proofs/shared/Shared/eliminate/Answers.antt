use Rattle.std.proofs.Common.{◌≡◌, ◌+◌, ◌≤◌, ◌++◌, ◌∷◌, [], suc, Some, None, arith, ap, sym, ◌∙◌, subst, length}
use Rattle.std.specs.Option.{option_map}
use Rattle.stn_model.specs.declared.ids.PointId.{PointId}
use Rattle.elim_step.specs.Ranked.{key_at}
use Rattle.shared_graph.specs.declared.events.Event.TheVariants.{Eliminate, Stop}
use Rattle.shared_graph.specs.declared.events.SharedCycle.{SharedCycle}
use Rattle.shared_graph.specs.Graphs.{GraphView}
use Rattle.shared_graph.specs.Histories.{SharedView, unvisited_in}
use Rattle.shared_graph.specs.States.{State}
use Rattle.shared_graph.specs.Takes.{MayEliminate}
use Rattle.shared_graph.specs.Weights.{least_negative}
use Rattle.shared_graph.proofs.graphs.Histories.{entered, grown, may_clear, may_stop, taken_order, taken_same}
use Rattle.shared_graph.proofs.graphs.Relaying.{none_keyed, relay_found, relay_shut, stopped_shuts, untaken_shuts}
use Rattle.shared_graph.proofs.shared.Shared.eliminate.Goals as goal

pub first_keys-requires-clause-none : goal.first_keys-requires-clause-none
first_keys-requires-clause-none g c =
    let i = c.self.inside in
    let f = i.graph.face in
    let s = i.graph.state in
    let may : MayEliminate f s c.args.by c.args.point =
    subst (λ (v : SharedView). MayEliminate v.face v.state c.args.by c.args.point) (sym c.self.view_is) c.requires in
    none_keyed f s (key_at i.ready) c.self.invariant.2.keys (untaken_shuts f s c.args.by c.args.point may)

pub invariant_of-self-in_default : goal.invariant_of-self-in_default
invariant_of-self-in_default g c =
    let i = c.self.inside in
    let f = i.graph.face in
    let s = i.graph.state in
    let may : MayEliminate f s c.args.by c.args.point =
    subst (λ (v : SharedView). MayEliminate v.face v.state c.args.by c.args.point) (sym c.self.view_is) c.requires in
    let none : least_negative f s c.args.point.0 ≡ None = sym c.in_ok-other.ensures.negative ∙ ap (option_map (λ (p : PointId). p.0)) c.in_default.is in
    let legal = may_clear f s c.args.by c.args.point may none in
    let state = taken_order f s c.args.point c.in_ok-other.field-0 c.take.new.self c.in_ok-other.ensures.taken c.in_default.is in
    let room = c.in_ok-reserve.ensures.ok in
    let kept = c.push_reserved.ensures.capacity in
    let left = c.unvisited.ensures in
    let fit : suc (length i.journal.items + unvisited_in f s) ≤ c.push_reserved.new.self.cap = omega (arith, c.reserve.ensures.len, i.journal.ok.0) in
    let journal = grown f c.take.new.self.face _ c.take.new.self.state i.journal.items c.push_reserved.new.self.items
    (record { by = c.args.by; event = Eliminate c.args.point }) c.push_reserved.new.self.cap c.take.ensures.face state
    (c.push_reserved.ensures.items ∙ ap (λ es. es ++ record { by = c.args.by; event = Eliminate c.args.point } ∷ []) c.reserve.ensures.items)
    (entered f s i.journal.items c.self.invariant.0 (record { by = c.args.by; event = Eliminate c.args.point }) legal) fit in (
      journal.0,
      journal.1,
      relay_found f c.take.new.self.face s c.take.new.self.state i.ready.size (key_at i.ready) i.all.items c.self.invariant.2 c.take.ensures.face
          c.first_keys.new.ready.size (key_at c.first_keys.new.ready) c.first_keys.ensures.size c.first_keys.ensures.keys,
    )

pub invariant_of-self-2 : goal.invariant_of-self-2
invariant_of-self-2 g c =
    let i = c.self.inside in
    let f = i.graph.face in
    let s = i.graph.state in
    let may : MayEliminate f s c.args.by c.args.point =
    subst (λ (v : SharedView). MayEliminate v.face v.state c.args.by c.args.point) (sym c.self.view_is) c.requires in
    let some : least_negative f s c.args.point.0 ≡ Some c.in-Some.other.0 =
    sym c.in_ok-other.ensures.negative ∙ ap (option_map (λ (p : PointId). p.0)) c.in-Some.is in
    let legal = may_stop f s c.args.by c.args.point c.in-Some.other may some in
    let same = taken_same f s c.args.point c.in_ok-other.field-0 c.take.new.self c.in-Some.other c.in_ok-other.ensures.taken c.in-Some.is in
    let room = c.in_ok-reserve.ensures.ok in
    let kept = c.push_reserved-2.ensures.capacity in
    let left = c.unvisited.ensures in
    let fit : suc (length i.journal.items + unvisited_in f s) ≤ c.push_reserved-2.new.self.cap = omega (arith, c.reserve.ensures.len, i.journal.ok.0) in
    let cycle : SharedCycle = record { point = c.args.point; other = c.in-Some.other } in
    let face : c.enter_stop.new.self.face ≡ f = c.enter_stop.ensures.face ∙ ap (λ (v : GraphView). v.face) same in
    let state : c.enter_stop.new.self.state ≡ record s { stop = Some cycle } =
    c.enter_stop.ensures.state ∙ ap (λ (v : GraphView). record v.state { stop = Some cycle }) same in
    let journal = grown f c.enter_stop.new.self.face _ c.enter_stop.new.self.state i.journal.items c.push_reserved-2.new.self.items
    (record { by = c.args.by; event = Stop c.args.point c.in-Some.other }) c.push_reserved-2.new.self.cap
    face state
    (c.push_reserved-2.ensures.items ∙ ap (λ es. es ++ record { by = c.args.by; event = Stop c.args.point c.in-Some.other } ∷ []) c.reserve.ensures.items)
    (entered f s i.journal.items c.self.invariant.0 (record { by = c.args.by; event = Stop c.args.point c.in-Some.other }) legal) fit in (
      journal.0,
      journal.1,
      relay_shut f c.enter_stop.new.self.face s c.enter_stop.new.self.state i.ready.size (key_at i.ready) i.all.items c.self.invariant.2 face
          (untaken_shuts f s c.args.by c.args.point may)
          (stopped_shuts c.enter_stop.new.self.face c.enter_stop.new.self.state cycle (ap (λ (t : State). t.stop) state)),
    )
