use Rattle.elim_step.specs.Ranked.{key_at}
use Rattle.shared_graph.proofs.graphs.Relaying.{relay_begun}
use Rattle.shared_graph.proofs.shared.Shared.with_journal.Goals as goal

pub invariant_of-result : goal.invariant_of-result
invariant_of-result c =
    let g = c.args.graph in (
      c.requires.journal,
      c.requires.room,
      relay_begun g.face g.state c.in_ok-ready.ready.size (key_at c.in_ok-ready.ready) c.in_ok-all.all.items c.in_ok-ready.ensures.size
          c.in_ok-ready.ensures.keys c.in_ok-all.ensures,
    )
