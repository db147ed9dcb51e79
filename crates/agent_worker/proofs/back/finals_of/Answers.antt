use Rattle.std.proofs.Common.{ap, sym, ◌∙◌, subst}
use Rattle.std.proofs.lemmas.Bool.{false≢true}
use Rattle.elim_step.specs.Summaries.{is_summary}
use Rattle.conflict_cycle.specs.Parts.{AreFound, AreFinalsOf}
use Rattle.agent_worker.proofs.FinalEntries.{read_there, whole_summary, whole_finals}
use Rattle.agent_worker.proofs.back.finals_of.Goals as goal

pub final_entry-requires : goal.final_entry-requires
final_entry-requires c =
    let face = c.args.shared.now.face in
    let s = c.args.shared.now.state in
    let is = c.entries-entries.ensures.value in
    let there = subst (AreFound face s) (sym is) c.requires _ _ (read_there c.entries-entries.result.now c.loop-entry.entry-index _ c.loop-entry-test.true) in
    (there.0, there.1)

pub unreachable-requires : goal.unreachable-requires
unreachable-requires c =
    let face = c.args.shared.now.face in
    let s = c.args.shared.now.state in
    let is = c.entries-entries.ensures.value in
    false≢true (c.in-None.ensures.valid.1 (whole_summary face s c.entries-entries.result.now c.loop-entry.entry-index c.loop-entry.finals.items
    c.loop-entry-test.false c.loop-entry.invariant (subst (AreFound face s) (sym is) c.requires) (ap is_summary is ∙ c.entries-entries.ensures.valid)))

pub returns : goal.returns
returns c =
    let face = c.args.shared.now.face in
    let s = c.args.shared.now.state in
    let is = c.entries-entries.ensures.value in
    let whole = whole_finals face s c.entries-entries.result.now c.loop-entry.entry-index c.loop-entry.finals.items
    c.loop-entry-test.false c.loop-entry.invariant (subst (AreFound face s) (sym is) c.requires) in
    subst (AreFinalsOf face s c.args.summary.now) (sym c.in-Some.ensures.value) (subst (λ es. AreFinalsOf face s es c.loop-entry.finals.items) is whole)
