use Rattle.std.proofs.Common.{ℕ, ◌<◌, List, length, sym, subst}
use Rattle.std.specs.List.{All}
use Rattle.stn_model.specs.Net.{arcs_of}
use Rattle.stn_walk.proofs.Heads.{in_range}
use Rattle.stn_walk.proofs.cycle.is_negative_cycle.Goals as goal

pub passes_no_point_twice-requires : goal.passes_no_point_twice-requires
passes_no_point_twice-requires c =
    subst (λ (ns : List ℕ). All (λ n. n < length (arcs_of c.args.net.now)) ns) (sym c.arcs-arcs.ensures)
    (in_range (arcs_of c.args.net.now) c.arc.result.from.0 c.arc.result.from.0 c.args.walk.now c.in-Some.ensures.0)
