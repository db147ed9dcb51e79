use Rattle.std.proofs.Common.{◌≡◌, None, arith, sym, subst}
use Rattle.elim_step.specs.Ranked.{key_at}
use Rattle.shared_graph.specs.declared.events.Event.TheVariants.{Revisit}
use Rattle.shared_graph.specs.Histories.{SharedView}
use Rattle.shared_graph.specs.Refusals.{refusal}
use Rattle.shared_graph.proofs.graphs.Histories.{entered, grown, revisit_tests, unvisited_less}
use Rattle.shared_graph.proofs.graphs.Relaying.{relay_found, relay_others}
use Rattle.shared_graph.proofs.shared.Shared.revisit.Goals as goal

pub push_reserved-requires : goal.push_reserved-requires
push_reserved-requires g c =
    let i = c.self.inside in
    let f = i.graph.face in
    let s = i.graph.state in
    let legal : refusal f s (record { by = c.args.by; event = Revisit c.args.point }) ≡ None =
    subst (λ (v : SharedView). refusal v.face v.state (record { by = c.args.by; event = Revisit c.args.point }) ≡ None) (sym c.self.view_is) c.requires in
    let tests = revisit_tests f s c.args.by c.args.point.0 legal in
    let less = unvisited_less f s c.args.point.0 tests.0 tests.1 in
    let room = c.self.invariant.1 in
    omega (arith, i.journal.ok.0)

pub keep_keys-requires-clause-others : goal.keep_keys-requires-clause-others
keep_keys-requires-clause-others g c =
    let i = c.self.inside in
    let f = i.graph.face in
    let s = i.graph.state in
    let at = c.in-Some.ensures.some in
    relay_others f c.revisit.new.self.face s c.revisit.new.self.state i.ready.size (key_at i.ready) i.all.items c.in-Some.place c.args.point.0
    c.self.invariant.0.interface c.self.invariant.2 c.revisit.ensures.face c.revisit.ensures.state at.0 at.1

pub invariant_of-self : goal.invariant_of-self
invariant_of-self g c =
    let i = c.self.inside in
    let f = i.graph.face in
    let s = i.graph.state in
    let legal : refusal f s (record { by = c.args.by; event = Revisit c.args.point }) ≡ None =
    subst (λ (v : SharedView). refusal v.face v.state (record { by = c.args.by; event = Revisit c.args.point }) ≡ None) (sym c.self.view_is) c.requires in
    let tests = revisit_tests f s c.args.by c.args.point.0 legal in
    let less = unvisited_less f s c.args.point.0 tests.0 tests.1 in
    let room = c.self.invariant.1 in
    let kept = c.push_reserved.ensures.capacity in
    let journal = grown f c.revisit.new.self.face _ c.revisit.new.self.state i.journal.items c.push_reserved.new.self.items
    (record { by = c.args.by; event = Revisit c.args.point }) c.push_reserved.new.self.cap c.revisit.ensures.face c.revisit.ensures.state
    c.push_reserved.ensures.items (entered f s i.journal.items c.self.invariant.0 (record { by = c.args.by; event = Revisit c.args.point }) legal)
    (omega arith) in (
      journal.0,
      journal.1,
      relay_found f c.revisit.new.self.face s c.revisit.new.self.state i.ready.size (key_at i.ready) i.all.items c.self.invariant.2 c.revisit.ensures.face
          c.keep_keys.new.ready.size (key_at c.keep_keys.new.ready) c.keep_keys.ensures.size c.keep_keys.ensures.keys,
    )
