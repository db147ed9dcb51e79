use Rattle.std.proofs.Common.{◌≡◌, ap, sym, ◌∙◌, arith, length}
use Rattle.std.proofs.lemmas.List.{length-map}
use Rattle.stn_model.specs.declared.ids.PointId.{PointId}
use Rattle.shared_graph.specs.Interfaces.{IsInterface, points_of}
use Rattle.shared_graph.proofs.graphs.Histories.{started, unvisited_most}
use Rattle.shared_graph.proofs.shared.Shared.start.Goals as goal

pub with_journal-requires-clause-journal : goal.with_journal-requires-clause-journal
with_journal-requires-clause-journal c =
    let g = c.in_ok-graph.graph in
    let known : IsInterface g.face = rw (← c.graph.view_is) c.graph.invariant.interface in
    started g.face g.state c.in_ok-journal.journal.items known c.in_ok-graph.ensures.state c.in_ok-journal.ensures.items

pub with_journal-requires-clause-room : goal.with_journal-requires-clause-room
with_journal-requires-clause-room c =
    let g = c.in_ok-graph.graph in
    let none = ap length c.in_ok-journal.ensures.items in
    let most = unvisited_most g.face g.state in
    let many : length (points_of g.face) ≡ length c.points-shared.result.now =
    ap (λ f. length (points_of f)) c.in_ok-graph.ensures.face
    ∙ (ap length (sym c.points-shared.ensures.points) ∙ length-map c.points-shared.result.now (λ (p : PointId). p.0)) in
    let room = c.in_ok-journal.ensures.capacity in
    omega arith
