-- Each point has an arc from z and one back, so the two are joined in any order, and their bounds are within the horizon: origin_joined, origin_light.
use Rattle.std.proofs.Common.{◌≢◌, ℕ, ◌≤◌, List, [], sym, refl, arith, inl, inr}
use Rattle.std.specs.Prelude.{ℤ, nat_abs}
use Rattle.stn_model.specs.Joined.{IsJoined}
use Rattle.stn_model.specs.Limits.{greatest_walk}
use Rattle.stn_model.specs.Net.{Net, arcs_of, point_count}
use Rattle.stn_model.specs.Schedules.{IsLeastBound}
use Rattle.stn_model.specs.Valid.{IsNetwork}
use Rattle.stn_model.proofs.ArcLemmas.{upper_arc}
use Rattle.meeting_arcs.proofs.EntryWalks.{upper_listed}
use Rattle.conflict_cycle.proofs.LeastBounds.{least_light}
use Rattle.mastn.specs.Commands.{IsOriginPair}

pub origin_joined : (net : Net) (order : List ℕ) (i j : ℕ) → IsOriginPair net i j → IsJoined (arcs_of net) order i j
origin_joined net order i j (inl ends) =
    let other : j ≢ 0 = λ e. (let low = ends.1 in omega arith) in
    record {
      different = λ e. (let low = ends.1 in let z = ends.0 in omega arith);
      inner = [];
      path = (upper_arc net.horizon j, upper_listed net j other ends.2, inl (sym ends.0, refl));
      before = tt;
    }
origin_joined net order i j (inr ends) =
    let other : i ≢ 0 = λ e. (let low = ends.1 in omega arith) in
    record {
      different = λ e. (let low = ends.1 in let z = ends.0 in omega arith);
      inner = [];
      path = (upper_arc net.horizon i, upper_listed net i other ends.2, inr (sym ends.0, refl));
      before = tt;
    }

pub origin_light : (net : Net) (i j : ℕ) (b : ℤ) → IsNetwork net → IsOriginPair net i j → IsLeastBound (point_count net) (arcs_of net) i j b
    → nat_abs b ≤ greatest_walk
origin_light net i j b valid (inl ends) least = (let z = ends.0 in let low = ends.2 in least_light net valid i j (omega arith) ends.2 b least)
origin_light net i j b valid (inr ends) least = (let z = ends.0 in let low = ends.2 in least_light net valid i j ends.2 (omega arith) b least)
