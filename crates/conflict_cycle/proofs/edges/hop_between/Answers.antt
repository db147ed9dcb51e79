use Rattle.std.proofs.Common.{ap, ◌∙◌, subst}
use Rattle.std.specs.Prelude.{is_some}
use Rattle.std.proofs.lemmas.Bool.{false≢true}
use Rattle.shared_graph.specs.Histories.{SharedView}
use Rattle.shared_graph.specs.Throughs.{CameThrough}
use Rattle.shared_graph.specs.Weights.{final}
use Rattle.conflict_cycle.specs.Edges.{whole_order}
use Rattle.conflict_cycle.proofs.Hops.{final_there, hop_told, shared_hop}
use Rattle.conflict_cycle.proofs.PartBounds.{held_by, joined_ends}
use Rattle.conflict_cycle.proofs.edges.hop_between.Goals as goal

pub private_hop-requires-clause-within : goal.private_hop-requires-clause-within
private_hop-requires-clause-within c =
    (joined_ends c.args.net.now c.requires.belongs.stands.network (whole_order c.args.parts.now) c.args.i.0 c.args.j.0 c.requires.joined).0

pub private_hop-requires-2-clause-within : goal.private_hop-requires-2-clause-within
private_hop-requires-2-clause-within c =
    (joined_ends c.args.net.now c.requires.belongs.stands.network (whole_order c.args.parts.now) c.args.i.0 c.args.j.0 c.requires.joined).1

pub returns-in-Some : goal.returns-in-Some
returns-in-Some c =
    let parts = c.args.parts.now in
    let held = held_by parts c.shared-shared.result.now c.shared-shared.ensures.shared c.interface-face.ensures.together in
    hop_told parts c.shared-shared.ensures.known held c.args.net.now c.requires.belongs c.args.i.0 c.args.j.0 c.in-Some.hop.via.0 c.in-Some.hop.agent
    c.in-Some.ensures.some

pub returns-in-Some-private_hop : goal.returns-in-Some-private_hop
returns-in-Some-private_hop c =
    let parts = c.args.parts.now in
    let held = held_by parts c.shared-shared.result.now c.shared-shared.ensures.shared c.interface-face.ensures.together in
    hop_told parts c.shared-shared.ensures.known held c.args.net.now c.requires.belongs c.args.i.0 c.args.j.0 c.in-Some-private_hop.hop.via.0
    c.in-Some-private_hop.hop.agent c.in-Some-private_hop.ensures.some

pub unreachable-requires : goal.unreachable-requires
unreachable-requires c =
    let parts = c.args.parts.now in
    let held = held_by parts c.shared-shared.result.now c.shared-shared.ensures.shared c.interface-face.ensures.together in
    false≢true (c.in-None.ensures.there ∙ ap (λ (v : SharedView). is_some (final v.face v.state c.args.i.0 c.args.j.0)) c.shared-shared.ensures.shared
    ∙ final_there parts c.shared-shared.ensures.known held c.args.net.now c.requires.belongs c.args.i.0 c.args.j.0 c.requires.joined
    c.in_default.ensures.none c.in_default-private_hop.ensures.none)

pub returns : goal.returns
returns c =
    let parts = c.args.parts.now in
    let held = held_by parts c.shared-shared.result.now c.shared-shared.ensures.shared c.interface-face.ensures.together in
    shared_hop parts c.shared-shared.ensures.known held c.args.net.now c.requires.belongs c.args.i.0 c.args.j.0 c.in-Some-final_through.via.0
    (subst (λ (v : SharedView). CameThrough v.face v.state c.args.i.0 c.args.j.0 c.in-Some-final_through.via.0) c.shared-shared.ensures.shared
    c.in-Some-final_through.ensures.came)
