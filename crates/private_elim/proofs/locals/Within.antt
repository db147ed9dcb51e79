-- The arcs of a local problem are within the limits of a network: arc_within.
use Rattle.std.proofs.Common.{ℕ, ◌<◌, length, subst, arith}
use Rattle.std.proofs.lemmas.List.Elements.{All-contains}
use Rattle.std.proofs.lemmas.List.{length-map}
use Rattle.stn_model.specs.Limits.{most_points}
use Rattle.stn_model.specs.Arcs.{arc_at}
use Rattle.stn_model.specs.Valid.{IsArcWithin}
use Rattle.stn_model.proofs.Bridges.{arc_contained}
use Rattle.private_elim.specs.Locals.{LocalView, IsLocal, arcs_in, local_arc_at}
use Rattle.private_elim.proofs.locals.LocalFacts.{points_small, arc_joins, arc_in_at}

-- each arc joins two different points below the most that a network may have, and its bound has magnitude at most 2^40
pub arc_within : (v : LocalView) → IsLocal v → (k : ℕ) → k < length (arcs_in v) → IsArcWithin most_points (local_arc_at v.arcs k).arc
arc_within v h k lt =
    let there = arc_contained (arcs_in v) k lt in
    let joins = arc_joins v h (arc_at (arcs_in v) k) there in
    let small = points_small v h in
    subst (IsArcWithin most_points) (arc_in_at v k (omega (arith, length-map v.arcs (λ a. a.arc))))
    (record {
      starts = All-contains (λ p. p < most_points) v.points (arc_at (arcs_in v) k).from.0 small joins.starts;
      ends = All-contains (λ p. p < most_points) v.points (arc_at (arcs_in v) k).to.0 small joins.ends;
      different = joins.different;
      low = joins.low;
      high = joins.high;
    })
