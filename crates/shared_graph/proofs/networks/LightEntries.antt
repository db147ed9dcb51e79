-- The entries of right summaries have magnitude at most 2^53, since an agent's least weights are those of walks that pass no point twice: entry_light.
use Rattle.std.proofs.Common.{◌≡◌, ℕ, ◌*◌, ◌≤◌, List, Option, Some, None, arith}
use Rattle.std.specs.Prelude.{ℤ, nat_abs}
use Rattle.std.proofs.lemmas.Int.{ints, clamps}
use Rattle.stn_model.specs.Limits.{most_points, greatest_bound, greatest_walk}
use Rattle.stn_model.specs.Net.{Net}
use Rattle.stn_model.specs.Valid.{IsNetwork}
use Rattle.stn_model.specs.Kinds.{is_private_of}
use Rattle.stn_model.specs.Conflicts.{own_arcs, IsOwnConflict}
use Rattle.stn_model.specs.ArcWalks.{IsInnerLeast}
use Rattle.stn_model.specs.Summaries.{IsEntryWeight, entry_weight}
use Rattle.stn_model.proofs.ArcKinds.{within}
use Rattle.stn_walk.proofs.LightWalks.{IsBelow, HasBounds, least_light}
use Rattle.stn_walk.proofs.PrivateArcs.{own_contained}
use Rattle.meeting_arcs.proofs.OwnConflicts.{sound_no_negative}

module _ (net : Net) (valid : IsNetwork net) (agent : ℕ) where
  -- own arcs begin below the most points, and are within the greatest bound
  own_below : IsBelow most_points (own_arcs net agent)
  unfolding IsBelow
  own_below = λ a here.
      let w = within net valid a (own_contained net agent a here) in
      let starts = w.starts in
      let few = valid.few_points in
      omega arith

  own_bounds : HasBounds greatest_bound (own_arcs net agent)
  unfolding HasBounds
  own_bounds = λ a here. let w = within net valid a (own_contained net agent a here) in (w.low, w.high)

  weight_light : (i j : ℕ) (w : ℤ) (o : Option ℤ) → ((cycle : List ℕ) → IsOwnConflict net agent cycle → ⊥)
      → IsInnerLeast (is_private_of net agent) (own_arcs net agent) i j o → w ≡ entry_weight net.horizon o → nat_abs w ≤ greatest_walk
  weight_light i j w None sound least is =
      let low = valid.horizon_low in
      let high = valid.horizon_high in
      omega (arith, ints)
  weight_light i j w (Some b) sound least is =
      let low = valid.horizon_low in
      let high = valid.horizon_high in
      let light : nat_abs b ≤ most_points * greatest_bound =
      least_light (is_private_of net agent) (own_arcs net agent) most_points greatest_bound i j (Some b) own_below own_bounds
      (sound_no_negative net agent sound) least in
      omega (arith, ints, clamps)

  pub entry_light : (i j : ℕ) (w : ℤ) → ((cycle : List ℕ) → IsOwnConflict net agent cycle → ⊥) → IsEntryWeight net agent i j w
      → nat_abs w ≤ greatest_walk
  entry_light i j w sound h = weight_light i j w h.0 sound h.1.least h.2
