use Rattle.std.proofs.Common.{◌≡◌, ap, ◌∙◌, arith, length}
use Rattle.std.proofs.lemmas.List.{take_all}
use Rattle.std.proofs.lemmas.Result.{IfOk-weaker}
use Rattle.shared_graph.specs.Graphs.{GraphView}
use Rattle.shared_graph.specs.Histories.{unvisited_in}
use Rattle.shared_graph.proofs.graphs.Histories.{copied, same_view}
use Rattle.shared_graph.proofs.shared.Shared.copy.Goals as goal

pub with_journal-requires-clause-journal : goal.with_journal-requires-clause-journal
with_journal-requires-clause-journal c =
    let i = c.self.inside in
    let new = c.in_ok-graph.graph in
    let entries = c.as_slice-entry-items.result.now in
    let value : entries ≡ i.journal.items = c.as_slice-entry-items.ensures.value in
    let whole : c.loop-entry.journal.items ≡ i.journal.items =
    c.loop-entry.invariant.items ∙ take_all c.loop-entry.entry-index entries c.loop-entry-test.false ∙ value in
    copied (record { face = i.graph.face; state = i.graph.state; journal = i.journal.items }) new c.loop-entry.journal.items c.in_ok-graph.ensures whole
    c.self.invariant.0

pub with_journal-requires-clause-room : goal.with_journal-requires-clause-room
with_journal-requires-clause-room c =
    let i = c.self.inside in
    let new = c.in_ok-graph.graph in
    let entries = c.as_slice-entry-items.result.now in
    let value : entries ≡ i.journal.items = c.as_slice-entry-items.ensures.value in
    let whole : c.loop-entry.journal.items ≡ i.journal.items =
    c.loop-entry.invariant.items ∙ take_all c.loop-entry.entry-index entries c.loop-entry-test.false ∙ value in
    let graph : new ≡ i.graph = c.in_ok-graph.ensures in
    let left : unvisited_in new.face new.state ≡ unvisited_in i.graph.face i.graph.state = ap (λ (w : GraphView). unvisited_in w.face w.state) graph in
    let many = ap length whole in
    let room = c.loop-entry.invariant.room in
    omega (arith, c.unvisited.ensures, c.len.ensures, i.journal.ok.0)

pub returns : goal.returns
returns c =
    let i = c.self.inside in
    let new = c.in_ok-graph.graph in
    let entries = c.as_slice-entry-items.result.now in
    let value : entries ≡ i.journal.items = c.as_slice-entry-items.ensures.value in
    let whole : c.loop-entry.journal.items ≡ i.journal.items =
    c.loop-entry.invariant.items ∙ take_all c.loop-entry.entry-index entries c.loop-entry-test.false ∙ value in
    let same =
    same_view (record { face = i.graph.face; state = i.graph.state; journal = i.journal.items }) new c.loop-entry.journal.items c.in_ok-graph.ensures whole
    ∙ c.self.view_is in
    IfOk-weaker c.with_journal.result _ _ (λ s e. e ∙ same) c.with_journal.ensures
