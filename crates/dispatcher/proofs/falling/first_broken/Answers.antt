use Rattle.std.proofs.Common.{below_more, ℕ, ◌≤ℤ◌, ◌-ℤ◌}
use Rattle.std.proofs.lemmas.Bool.{false≢true}
use Rattle.stn_model.specs.Arcs.{from_at, to_at, bound_at}
use Rattle.stn_model.specs.Schedules.{time_at}
use Rattle.dispatcher.proofs.Fallen.{holds_unless}
use Rattle.dispatcher.proofs.falling.first_broken.Goals as goal

pub loop-n-preserved : goal.loop-n-preserved
loop-n-preserved c =
    let arcs = c.args.arcs.now in
    let labels = c.args.labels.now.items in
    below_more (λ (k : ℕ). (time_at labels (to_at arcs k) -ℤ time_at labels (from_at arcs k)) ≤ℤ bound_at arcs k) c.loop-n.n c.loop-n.invariant
    (holds_unless arcs labels c.loop-n.n (λ broken. false≢true (c.if-is_broken.ensures.1 broken)))
