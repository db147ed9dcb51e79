use Rattle.std.proofs.Common.{List, ◌≡◌, true, map, ap, sym, refl, subst}
use Rattle.std.specs.List.{list_all}
use Rattle.std.proofs.lemmas.Bool.{false≢true}
use Rattle.private_elim.specs.ReducedViews.{ReducedView}
use Rattle.shared_graph.specs.declared.events.Phase.TheVariants.{Order}
use Rattle.shared_graph.specs.Journals.{AgreeWith, IsDone, StandsFor, is_step_of}
use Rattle.conflict_cycle.specs.Belongs.{AreReducedOf}
use Rattle.agent_worker.specs.Forwards.{OfParts, is_stopped, is_whole}
use Rattle.agent_worker.specs.Works.{AreReducedFrom}
use Rattle.joined_answer.proofs.Sections.{picked_orders}
use Rattle.joined_answer.proofs.Solves.{parts_of, reduced_of, solved, stopped_parts, whole_parts, whole_done}
use Rattle.joined_answer.proofs.solving.solve.Goals as goal

pub shown-requires-clause-reduced : goal.shown-requires-clause-reduced
shown-requires-clause-reduced g c =
    let net = c.args.net.now in
    let face = c.in_ok-interface.interface in
    let locals = c.as_slice.result.now in
    let f = c.in_ok-forward.forward in
    let parts = parts_of net face locals c.in_ok-locals.locals.items c.in_ok-interface.ensures.whole c.as_slice.ensures.value c.in_ok-locals.ensures in
    let from = stopped_parts (λ reduced shared. AreReducedFrom _ locals reduced) f c.in-Stopped.reduced c.in-Stopped.shared c.in-Stopped.is c.in_ok-forward.ensures.reduced in
    subst (AreReducedOf net) (sym c.as_slice-in-Stopped.ensures.value) (reduced_of _ net face locals parts c.in-Stopped.reduced.items from)

pub shown-requires-clause-published : goal.shown-requires-clause-published
shown-requires-clause-published g c =
    let f = c.in_ok-forward.forward in
    subst (λ (rs : List ReducedView). AgreeWith (map (λ r. r.summary) rs) c.in-Stopped.shared.state) (sym c.as_slice-in-Stopped.ensures.value)
    (stopped_parts (λ reduced shared. AgreeWith (map (λ r. r.summary) reduced) shared.state) f c.in-Stopped.reduced c.in-Stopped.shared
    c.in-Stopped.is c.in_ok-forward.ensures.published)

pub returns-in-Stopped-clause-inconsistent : goal.returns-in-Stopped-clause-inconsistent
returns-in-Stopped-clause-inconsistent g c =
    let net = c.args.net.now in
    let face = c.in_ok-interface.interface in
    let locals = c.as_slice.result.now in
    let parts = parts_of net face locals c.in_ok-locals.locals.items c.in_ok-interface.ensures.whole c.as_slice.ensures.value c.in_ok-locals.ensures in
    (λ is. ((c.in_ok-forward.ensures.stopped net parts).0 (ap is_stopped c.in-Stopped.is)).1, λ none. refl)

pub joined_of-requires-clause-solved : goal.joined_of-requires-clause-solved
joined_of-requires-clause-solved g c κs within =
    let net = c.args.net.now in
    let face = c.in_ok-interface.interface in
    let locals = c.as_slice.result.now in
    let f = c.in_ok-forward.forward in
    let parts = parts_of net face locals c.in_ok-locals.locals.items c.in_ok-interface.ensures.whole c.as_slice.ensures.value c.in_ok-locals.ensures in
    let r = c.in-Whole.reduced in
    let v = c.in-Whole.shared in
    let w = c.in_ok-swept-in-Whole.swept in
    let is = c.in-Whole.is in
    let told = c.in_ok-forward.ensures in
    let from = whole_parts (λ reduced shared. AreReducedFrom _ locals reduced) f r v is told.reduced in
    let agree = whole_parts (λ reduced shared. AgreeWith (map (λ r. r.summary) reduced) shared.state) f r v is told.published in
    let stands = whole_parts (λ reduced shared. OfParts face locals (λ net. StandsFor net shared)) f r v is told.stands in
    let done = whole_done (λ reduced shared. IsDone shared.face shared.state Order) f r v is told.done in
    let steps = whole_parts (λ reduced shared. list_all (λ e. is_step_of Order e.event) shared.journal ≡ true) f r v is told.steps in
    solved _ net face locals parts r.items from v w ((told.whole net parts).0 (ap is_whole is)) agree (stands net parts) done steps
    c.in_ok-swept-in-Whole.ensures.swept c.in_ok-swept-in-Whole.ensures.done

pub returns-clause-inconsistent : goal.returns-clause-inconsistent
returns-clause-inconsistent g c =
    let net = c.args.net.now in
    let face = c.in_ok-interface.interface in
    let locals = c.as_slice.result.now in
    let parts = parts_of net face locals c.in_ok-locals.locals.items c.in_ok-interface.ensures.whole c.as_slice.ensures.value c.in_ok-locals.ensures in
    (λ is. absurd (false≢true is), λ none. absurd (none ((c.in_ok-forward.ensures.whole net parts).0 (ap is_whole c.in-Whole.is))))

pub returns-clause-picked : goal.returns-clause-picked
returns-clause-picked g c =
    let net = c.args.net.now in
    let face = c.in_ok-interface.interface in
    let locals = c.as_slice.result.now in
    let f = c.in_ok-forward.forward in
    let parts = parts_of net face locals c.in_ok-locals.locals.items c.in_ok-interface.ensures.whole c.as_slice.ensures.value c.in_ok-locals.ensures in
    let r = c.in-Whole.reduced in
    let from = whole_parts (λ reduced shared. AreReducedFrom _ locals reduced) f r c.in-Whole.shared c.in-Whole.is c.in_ok-forward.ensures.reduced in
    let section = c.in_ok-joined-in-Whole.joined.section in
    picked_orders _ net face locals r.items section parts from c.in_ok-joined-in-Whole.ensures.orders
