-- The least bound the other way round of a network's arc, as the least walks from where the arc ends tell it.
use Rattle.std.proofs.Common.{◌≡◌, ℕ, ℤ, neg_ℤ, ◌≤ℤ◌, sym, subst}
use Rattle.stn_model.specs.declared.ids.Constraint.{Constraint}
use Rattle.stn_model.specs.Arcs.{arc_at, from_at, to_at}
use Rattle.stn_model.specs.Net.{Net, arcs_of, point_count}
use Rattle.stn_model.specs.Schedules.{IsLeastBound, time_at}
use Rattle.stn_model.specs.Valid.{IsNetwork, IsArcWithin}
use Rattle.plain_solve.specs.LeastWalks.{LeastWalks, IsLeast}
use Rattle.least_repair.proofs.OtherBound.{least_within}

pub back_bound : (net : Net) → IsNetwork net → (n : ℕ) (ends : Constraint) → ends ≡ arc_at (arcs_of net) n → IsArcWithin (point_count net) ends
    → (w : LeastWalks) → w.source ≡ ends.to.0 → IsLeast net w → (d : ℤ) → d ≡ time_at w.distances ends.from.0
    → IsLeastBound (point_count net) (arcs_of net) (to_at (arcs_of net) n) (from_at (arcs_of net) n) d × (neg_ℤ net.horizon ≤ℤ d) × (d ≤ℤ net.horizon)
back_bound net valid n ends is within w source least d distance =
    let bound : IsLeastBound (point_count net) (arcs_of net) ends.to.0 ends.from.0 d =
    subst (λ (b : ℤ). IsLeastBound (point_count net) (arcs_of net) ends.to.0 ends.from.0 b) (sym distance)
    (subst (λ (p : ℕ). IsLeastBound (point_count net) (arcs_of net) p ends.from.0 (time_at w.distances ends.from.0)) source
    (least ends.from.0 within.starts)) in
    let range = least_within net valid ends.to.0 ends.from.0 within.ends within.starts d bound in
    (subst (λ (a : Constraint). IsLeastBound (point_count net) (arcs_of net) a.to.0 a.from.0 d) is bound, range.0, range.1)
