use Rattle.std.proofs.Common.{sym, ◌∙◌}
use Rattle.shared_graph.specs.declared.events.Entry.{Entry}
use Rattle.shared_graph.specs.Journals.{is_before_times}
use Rattle.graph_tests.proofs.Fittings.{each_passes}
use Rattle.graph_tests.proofs.replays.replayed.Goals as goal

pub replay-requires-clause-fitting : goal.replay-requires-clause-fitting
replay-requires-clause-fitting c = c.are_fitting.ensures.fitting c.if-not-are_fitting.false

pub replay-requires-clause-before : goal.replay-requires-clause-before
replay-requires-clause-before c =
    each_passes (λ (e : Entry). is_before_times e.event) c.args.entries.now (sym c.are_before_times.ensures ∙ c.if-not-are_before_times.false)
