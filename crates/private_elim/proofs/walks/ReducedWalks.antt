-- The walks of a reduced local problem, in each network whose local problem it is: IsWalkOf.
use Rattle.std.proofs.Common.{◌≡◌, ◌≢◌, ℕ, ◌*◌, ◌-◌, ◌<◌, true, false, ◌&&◌, List, [], ◌∷◌, length, map, Some, None, sym, ap, subst, ◌∙◌, arith}
use Rattle.std.specs.Prelude.{is_some}
use Rattle.std.specs.List.{All}
use Rattle.std.proofs.lemmas.List.{length-map}
use Rattle.std.proofs.lemmas.List.Elements.{All-nil, All-cons}
use Rattle.stn_model.specs.Limits.{most_points}
use Rattle.stn_model.specs.Arcs.{to_at}
use Rattle.stn_model.specs.Net.{arcs_of}
use Rattle.stn_model.specs.Walks.{IsWalk, weight}
use Rattle.elim_step.specs.declared.summary.SummaryEntry.{SummaryEntry}
use Rattle.elim_step.specs.Eliminated.{point_at}
use Rattle.private_elim.specs.Locals.{LocalView, arcs_in, place_in, horizon_in}
use Rattle.private_elim.specs.ReducedViews.{ReducedView, IsReduced, weight_between}
use Rattle.private_elim.specs.Reductions.{OfNetwork, AreOwn}
use Rattle.private_elim.specs.Taken.{TakenView, HasTaken}
use Rattle.private_elim.specs.SummaryRows.{is_pair_at, forward_at, is_over}
use Rattle.private_elim.specs.Numbers.{number_in}
use Rattle.private_elim.proofs.locals.LocalFacts.{points_small}
use Rattle.private_elim.proofs.walks.NumberedWalks.{same_walk}
use Rattle.private_elim.proofs.taking.Forwards.{place_within}
use Rattle.private_elim.proofs.walks.Between.{view_of, between_over, between_under, between_apart, between_starts, between_ends}
use Rattle.private_elim.proofs.walks.Detours.{from_above, to_above, detour_is}

-- in each network whose local problem it is, the numbers are a walk of own arcs with the weight between the points
pub record IsWalkOf (x : ReducedView) (i j : ℕ) (numbers : List ℕ) : Type 0 where
  pub walk : OfNetwork x.local (λ net. IsWalk (arcs_of net) i j numbers)
  pub own : OfNetwork x.local (λ net. AreOwn net x.local.agent numbers)
  pub weighs : OfNetwork x.local (λ net. Some (weight (arcs_of net) numbers) ≡ weight_between x i j)

-- the arcs of a walk are arcs of the local problem
walk_within : (v : LocalView) (i j : ℕ) (ks : List ℕ) → IsWalk (arcs_in v) i j ks → All (λ k. k < length v.arcs) ks
walk_within v i j [] walk = All-nil (λ k. k < length v.arcs)
walk_within v i j (k ∷ ks) walk =
    All-cons (λ n. n < length v.arcs) k ks (omega (arith, walk.0, length-map v.arcs (λ a. a.arc))) (walk_within v (to_at (arcs_in v) k) j ks walk.2)

-- also where the local problem and the list have other names
pub places_within : (v w : LocalView) (i j : ℕ) (ks places : List ℕ) → w ≡ v → places ≡ ks → IsWalk (arcs_in v) i j ks → All (λ k. k < length w.arcs) places
places_within v w i j ks places same are walk =
    subst (λ u. All (λ k. k < length u.arcs) places) (sym same) (subst (All (λ k. k < length v.arcs)) (sym are) (walk_within v i j ks walk))

module _ (t : TakenView) (h : HasTaken t) (summary : List SummaryEntry) (r : IsReduced t.local t.order summary) where
  -- by the two arcs through z
  detour_walk : (a b : ℕ) → a < length t.local.points → b < length t.local.points
      → (is_pair_at t a b && is_over (horizon_in t.local) (forward_at t a b)) ≡ true
      → IsWalkOf (view_of t summary) (point_at t.local.points a) (point_at t.local.points b)
      ((2 * point_at t.local.points a - 1) ∷ (2 * point_at t.local.points b - 2) ∷ [])
  detour_walk a b la lb is = record {
    walk = λ net valid e. (detour_is t h a b la lb is net e).walk;
    own = λ net valid e. (detour_is t h a b la lb is net e).own;
    weighs = λ net valid e. ap Some (detour_is t h a b la lb is net e).weighs ∙ sym (between_over t h summary r a b la lb is);
  }

  -- by the arcs that a cell stands for
  plain_walk : (a b : ℕ) → a < length t.local.points → b < length t.local.points → a ≢ b
      → (is_pair_at t a b && is_over (horizon_in t.local) (forward_at t a b)) ≡ false
      → (ks : List ℕ) → IsWalk (arcs_in t.local) (point_at t.local.points a) (point_at t.local.points b) ks
      → Some (weight (arcs_in t.local) ks) ≡ forward_at t a b
      → IsWalkOf (view_of t summary) (point_at t.local.points a) (point_at t.local.points b) (map (number_in t.local) ks)
  plain_walk a b la lb apart other ks walk weighs = record {
    walk = λ net valid e. (same_walk t.local net e (point_at t.local.points a) (point_at t.local.points b) ks walk).walk;
    own = λ net valid e. (same_walk t.local net e (point_at t.local.points a) (point_at t.local.points b) ks walk).own;
    weighs = λ net valid e.
        ap Some (same_walk t.local net e (point_at t.local.points a) (point_at t.local.points b) ks walk).weighs ∙ weighs
        ∙ sym (between_under t h summary r a b la lb apart other);
  }

  -- of two points, by the places that were found in the local problem
  module _ (v : LocalView) (same : v ≡ t.local) (i j : ℕ) (there : is_some (weight_between (view_of t summary) i j) ≡ true) where
    pub starts_somewhere : place_in v.points i ≢ None
    starts_somewhere missing = between_starts t h summary r i j there (ap (λ w. place_in w.points i) (sym same) ∙ missing)

    pub ends_somewhere : place_in v.points j ≢ None
    ends_somewhere missing = between_ends t h summary r i j there (ap (λ w. place_in w.points j) (sym same) ∙ missing)

    module _ (a b : ℕ) (from : place_in v.points i ≡ Some a) (to : place_in v.points j ≡ Some b) where
      start : (a < length t.local.points) × (point_at t.local.points a ≡ i)
      start = place_within t h v same i a from

      end : (b < length t.local.points) × (point_at t.local.points b ≡ j)
      end = place_within t h v same j b to

      pub both_within : (a < length t.local.points) × (b < length t.local.points)
      both_within = (start.0, end.0)

      pub both_apart : a ≢ b
      both_apart e = between_apart t h summary r i j there (sym start.1 ∙ ap (point_at t.local.points) e ∙ end.1)

      -- where the detour is taken
      module _ (is : (is_pair_at t a b && is_over (horizon_in t.local) (forward_at t a b)) ≡ true) where
        pub start_range : (0 < i) × (i < most_points)
        start_range =
            let small = points_small t.local h.known a 0 start.0 in
            let above = from_above t h a b start.0 end.0 is in
            let e = start.1 in
            (omega arith, omega arith)

        pub end_range : (0 < j) × (j < most_points)
        end_range =
            let small = points_small t.local h.known b 0 end.0 in
            let above = to_above t h a b start.0 end.0 is in
            let e = end.1 in
            (omega arith, omega arith)

        pub by_detour : (numbers : List ℕ) → numbers ≡ (2 * i - 1) ∷ (2 * j - 2) ∷ [] → IsWalkOf (view_of t summary) i j numbers
        by_detour numbers are =
            subst (IsWalkOf (view_of t summary) i j) (sym are)
            (subst (λ q. IsWalkOf (view_of t summary) i q ((2 * i - 1) ∷ (2 * q - 2) ∷ [])) end.1
            (subst (λ p. IsWalkOf (view_of t summary) p (point_at t.local.points b) ((2 * p - 1) ∷ (2 * point_at t.local.points b - 2) ∷ [])) start.1
            (detour_walk a b start.0 end.0 is)))

      -- and where it is not
      module _ (other : (is_pair_at t a b && is_over (horizon_in t.local) (forward_at t a b)) ≡ false) where
        pub weight_there : is_some (forward_at t a b) ≡ true
        weight_there =
            ap is_some (sym (between_under t h summary r a b start.0 end.0 both_apart other))
            ∙ (λ k. is_some (weight_between (view_of t summary) (start.1 k) (end.1 k))) ∙ there

        pub by_cell : (ks numbers : List ℕ) → numbers ≡ map (number_in v) ks
            → IsWalk (arcs_in t.local) (point_at t.local.points a) (point_at t.local.points b) ks
            → Some (weight (arcs_in t.local) ks) ≡ forward_at t a b → IsWalkOf (view_of t summary) i j numbers
        by_cell ks numbers are walk weighs =
            subst (IsWalkOf (view_of t summary) i j) (sym (are ∙ ap (λ w. map (number_in w) ks) same))
            (subst (λ q. IsWalkOf (view_of t summary) i q (map (number_in t.local) ks)) end.1
            (subst (λ p. IsWalkOf (view_of t summary) p (point_at t.local.points b) (map (number_in t.local) ks)) start.1
            (plain_walk a b start.0 end.0 both_apart other ks walk weighs)))
