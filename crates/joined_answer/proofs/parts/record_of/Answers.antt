use Rattle.std.proofs.Common.{List, [], ◌∷◌, ◌++◌, ap, ◌∙◌, refl, sym}
use Rattle.stn_model.specs.declared.ids.PointId.{PointId}
use Rattle.shared_graph.specs.States.{point_id}
use Rattle.elim_journal.specs.Sections.{SectionView}
use Rattle.joined_answer.proofs.Belongs.{laid_order}
use Rattle.joined_answer.proofs.Orders.{numbers, private_orders}
use Rattle.joined_answer.proofs.Sections.{entries_solve, legal_section, joined_is}
use Rattle.joined_answer.proofs.parts.record_of.Goals as goal

pub new-section-requires : goal.new-section-requires
new-section-requires c =
    entries_solve c.args.net.now c.args.reduced.now c.args.shared.now c.in_ok-entries.entries.items c.requires.solved c.journal.ensures.replays
    (c.in_ok-entries.ensures.items ∙ c.journal.ensures.journal)

pub returns-clause-orders : goal.returns-clause-orders
returns-clause-orders c =
    private_orders c.args.net.now c.args.reduced.now (numbers c.new-section.result.private) c.requires.solved.parts c.in_ok-private.ensures.known
    (ap (λ (s : SectionView). numbers s.private) c.new-section.ensures ∙ c.in_ok-private.ensures.points)

pub returns-clause-section : goal.returns-clause-section
returns-clause-section c =
    legal_section c.args.net.now c.args.reduced.now c.args.shared.now c.new-section.result c.requires.solved c.journal.ensures.replays
    (ap (λ (s : SectionView). s.entries) c.new-section.ensures ∙ c.in_ok-entries.ensures.items ∙ c.journal.ensures.journal)
    (private_orders c.args.net.now c.args.reduced.now (numbers c.new-section.result.private) c.requires.solved.parts c.in_ok-private.ensures.known
    (ap (λ (s : SectionView). numbers s.private) c.new-section.ensures ∙ c.in_ok-private.ensures.points))

pub returns-clause-joined : goal.returns-clause-joined
returns-clause-joined c =
    joined_is c.args.net.now c.args.reduced.now c.args.shared.now c.in_ok-network.network c.order.result.now c.in_ok-order.order.items c.new-section.result
    c.requires.solved c.in_ok-network.ensures c.order.ensures
    (ap (λ (s : SectionView). s.entries) c.new-section.ensures ∙ c.in_ok-entries.ensures.items ∙ c.journal.ensures.journal)
    (c.in_ok-order.ensures
    ∙ ap (λ (ps : List PointId). ps ++ c.order.result.now ++ point_id 0 ∷ [])
    (c.as_slice.ensures.value ∙ sym (ap (λ (s : SectionView). s.private) c.new-section.ensures)))

pub returns-clause-order : goal.returns-clause-order
returns-clause-order c =
    laid_order c.args.reduced.now c.args.shared.now.state c.as_slice.result.now c.order.result.now c.in_ok-order.order.items (point_id 0) refl
    (ap numbers c.as_slice.ensures.value ∙ c.in_ok-private.ensures.points) c.order.ensures c.in_ok-order.ensures
