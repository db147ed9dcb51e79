-- The gap that is left of a least bound while it is unfolded from both ends.
--   gap_start                 nothing is unfolded yet
--   gap_out, gap_in           a forward weight is, at the first end and at the other
--   gap_closed                all is: the two walks together weigh the least bound
--   hop_out, hop_in           which way a bound came is told by the places of the two points
--   leg_out, leg_in, narrowed_out, narrowed_in, later_out, later_in   the gap once a hop is unfolded
--   pruned_least              what is left of such a walk once it is pruned weighs the same
use Rattle.std.proofs.Common.{◌≡◌, ◌≢◌, ℕ, ◌+◌, ◌<◌, ◌≤◌, List, [], ◌++◌, Option, ap, sym, ◌∙◌, refl, arith, subst, inl, inr}
use Rattle.std.specs.Prelude.{ℤ, pos, ◌+ℤ◌, ◌≤ℤ◌, reverse}
use Rattle.std.proofs.lemmas.Int.{ints}
use Rattle.std.proofs.lemmas.List.{reverse-append, reverse-reverse}
use Rattle.stn_model.specs.declared.ids.AgentId.{AgentId}
use Rattle.stn_model.specs.declared.ids.Constraint.{Constraint}
use Rattle.stn_model.specs.Joined.{IsJoined}
use Rattle.stn_model.specs.Net.{Net, arcs_of, point_count}
use Rattle.stn_model.specs.Schedules.{IsLeastBound}
use Rattle.stn_model.specs.Walks.{IsWalk, weight}
use Rattle.stn_model.proofs.WalkLemmas.{IsWalk-append, weight-append, weight_bounds, least_bound_unique}
use Rattle.stn_walk.specs.Parts.{NoPartIsNegative}
use Rattle.conflict_cycle.specs.Belongs.{IsLegWalk}
use Rattle.conflict_cycle.specs.Edges.{place_of, whole_order, HasLeg, IsLeft, Leaves, Arrives, IsHop, IsGap}
use Rattle.conflict_cycle.specs.Parts.{PartsView}

module _ (net : Net) (order : List ℕ) where
  -- what is left of a least bound between two joined points
  joined_left : (i j : ℕ) (w : ℤ) → IsJoined (arcs_of net) order i j → IsLeft net order i j w → IsLeastBound (point_count net) (arcs_of net) i j w
  joined_left i j w joined (inl same) = absurd (joined.different same.0)
  joined_left i j w joined (inr left) = left.1

  -- of equal points nothing is left
  same_left : (i j : ℕ) (w : ℤ) → i ≡ j → IsLeft net order i j w → w ≡ pos 0
  same_left i j w same (inl left) = left.1
  same_left i j w same (inr left) = absurd (left.0.different same)

  -- different points of a gap are joined
  pub gap_joined : (i j from to : ℕ) (before after : List ℕ) → from ≢ to → IsGap net order i j from to before after → IsJoined (arcs_of net) order from to
  gap_joined i j from to before after apart gap = go gap.left where
    go : IsLeft net order from to gap.rest → IsJoined (arcs_of net) order from to
    go (inl same) = absurd (apart same.0)
    go (inr left) = left.0

  pub gap_start : (i j : ℕ) (b : ℤ) → IsJoined (arcs_of net) order i j → IsLeastBound (point_count net) (arcs_of net) i j b → IsGap net order i j i j [] []
  gap_start i j b joined least = record {
    front = refl;
    back = refl;
    rest = b;
    left = inr (joined, least);
    sum = subst (IsLeastBound (point_count net) (arcs_of net) i j) (let e : b ≡ pos 0 +ℤ (b +ℤ pos 0) = omega (arith, ints) in e) least;
  }

  pub gap_closed : (i j from to : ℕ) (before after : List ℕ) → from ≡ to → IsGap net order i j from to before after
      → IsWalk (arcs_of net) i j (before ++ reverse after)
      × IsLeastBound (point_count net) (arcs_of net) i j (weight (arcs_of net) (before ++ reverse after))
  gap_closed i j from to before after same gap =
      let none : gap.rest ≡ pos 0 = same_left from to gap.rest same gap.left in
      let both = weight-append (arcs_of net) before (reverse after) in
      let is : weight (arcs_of net) before +ℤ (gap.rest +ℤ weight (arcs_of net) (reverse after)) ≡ weight (arcs_of net) (before ++ reverse after) =
      omega (arith, ints) in (
        IsWalk-append (arcs_of net) i from j before (reverse after) gap.front (subst (λ p. IsWalk (arcs_of net) p j (reverse after)) (sym same) gap.back),
        subst (IsLeastBound (point_count net) (arcs_of net) i j) is gap.sum,
      )

  module _ (i j from to m : ℕ) (w rest : ℤ) (joined : IsJoined (arcs_of net) order from to)
    where
      -- a walk at the first end
      pub gap_out : (before more after : List ℕ) → IsLeft net order m to rest → IsLeastBound (point_count net) (arcs_of net) from to (w +ℤ rest)
          → IsLegWalk net from m w before more → IsGap net order i j from to before after → IsGap net order i j m to more after
      gap_out before more after left sum leg gap =
          let one = least_bound_unique (arcs_of net) (point_count net) from to gap.rest (w +ℤ rest) (joined_left from to gap.rest joined gap.left) sum in
          let both : weight (arcs_of net) more ≡ weight (arcs_of net) before +ℤ weight (arcs_of net) leg.more =
          ap (weight (arcs_of net)) leg.new_is ∙ weight-append (arcs_of net) before leg.more in
          let weighs = leg.weighs in
          let is : weight (arcs_of net) before +ℤ (gap.rest +ℤ weight (arcs_of net) (reverse after))
          ≡ weight (arcs_of net) more +ℤ (rest +ℤ weight (arcs_of net) (reverse after)) = omega (arith, ints) in
          record {
            front = subst (IsWalk (arcs_of net) i m) (sym leg.new_is) (IsWalk-append (arcs_of net) i from m before leg.more gap.front leg.walk);
            back = gap.back;
            rest = rest;
            left = left;
            sum = subst (IsLeastBound (point_count net) (arcs_of net) i j) is gap.sum;
          }

      -- a walk at the other end, which is listed from its end
      pub gap_in : (before leg after more : List ℕ) → IsLeft net order from m rest → IsLeastBound (point_count net) (arcs_of net) from to (rest +ℤ w)
          → IsLegWalk net m to w [] leg → more ≡ after ++ reverse leg → IsGap net order i j from to before after → IsGap net order i j from m before more
      gap_in before leg after more left sum walk is gap =
          let one = least_bound_unique (arcs_of net) (point_count net) from to gap.rest (rest +ℤ w) (joined_left from to gap.rest joined gap.left) sum in
          let turned : reverse more ≡ leg ++ reverse after =
          ap (λ (xs : List ℕ). reverse xs) is ∙ reverse-append after (reverse leg) ∙ ap (λ (xs : List ℕ). xs ++ reverse after) (reverse-reverse leg) in
          let both : weight (arcs_of net) (reverse more) ≡ weight (arcs_of net) leg +ℤ weight (arcs_of net) (reverse after) =
          ap (weight (arcs_of net)) turned ∙ weight-append (arcs_of net) leg (reverse after) in
          let weighs : weight (arcs_of net) leg ≡ w = ap (weight (arcs_of net)) walk.new_is ∙ walk.weighs in
          let on : IsWalk (arcs_of net) m to leg = subst (IsWalk (arcs_of net) m to) (sym walk.new_is) walk.walk in
          let whole : weight (arcs_of net) before +ℤ (gap.rest +ℤ weight (arcs_of net) (reverse after))
          ≡ weight (arcs_of net) before +ℤ (rest +ℤ weight (arcs_of net) (reverse more)) = omega (arith, ints) in
          record {
            front = gap.front;
            back = subst (IsWalk (arcs_of net) m j) (sym turned) (IsWalk-append (arcs_of net) m to j leg (reverse after) on gap.back);
            rest = rest;
            left = left;
            sum = subst (IsLeastBound (point_count net) (arcs_of net) i j) whole gap.sum;
          }

-- the places of the two points tell from which of them the bound came
module _ (net : Net) (parts : PartsView) (i j m : ℕ) (agent : Option AgentId) where
  pub hop_out : place_of (whole_order parts) i < place_of (whole_order parts) j → IsHop net parts i j agent m → Leaves net parts i j agent m
  hop_out lt (inl out) = out
  hop_out lt (inr on) = absurd (let first = on.first in omega arith)

  pub hop_in : place_of (whole_order parts) j ≤ place_of (whole_order parts) i → IsHop net parts i j agent m → Arrives net parts i j agent m
  hop_in le (inl out) = absurd (let first = out.first in omega arith)
  hop_in le (inr on) = on

-- a walk of the least bound's weight has no negative closed part, and once it is pruned it weighs the same
module _ (points : ℕ) (arcs : List Constraint) (i j : ℕ) where
  pub none_negative : (b : ℤ) (ns : List ℕ) → IsLeastBound points arcs i j b → NoPartIsNegative arcs ns
  unfolding NoPartIsNegative
  none_negative b ns least front part back p is closed =
      let low = weight_bounds arcs least.times least.satisfies.keeps p p part closed in
      omega (arith, ints)

  pub pruned_least : (ns left : List ℕ) → IsLeastBound points arcs i j (weight arcs ns) → IsWalk arcs i j left
      → (NoPartIsNegative arcs ns → weight arcs left ≤ℤ weight arcs ns) → IsLeastBound points arcs i j (weight arcs left)
  pruned_least ns left least walk light =
      let low = weight_bounds arcs least.times least.satisfies.keeps i j left walk in
      let high = light (none_negative (weight arcs ns) ns least) in
      let attains = least.attains in
      let is : weight arcs ns ≡ weight arcs left = omega (arith, ints) in
      subst (IsLeastBound points arcs i j) is least

-- the gap once a hop is unfolded
module _ (net : Net) (parts : PartsView) (from to m : ℕ) (agent : Option AgentId) (joined : IsJoined (arcs_of net) (whole_order parts) from to) where
  pub leg_out : Leaves net parts from to agent m → (w : ℤ) × HasLeg parts agent from m w
  leg_out out = (out.weight, out.leg)

  pub leg_in : Arrives net parts from to agent m → (w : ℤ) × HasLeg parts agent m to w
  leg_in on = (on.weight, on.leg)

  pub narrowed_out : Leaves net parts from to agent m → (before more after : List ℕ)
      → ((w : ℤ) → HasLeg parts agent from m w → IsLegWalk net from m w before more) → (i j : ℕ) → IsGap net (whole_order parts) i j from to before after
      → IsGap net (whole_order parts) i j m to more after
  narrowed_out out before more after walk i j gap =
      gap_out net (whole_order parts) i j from to m out.weight out.rest joined before more after out.left out.sum (walk out.weight out.leg) gap

  pub narrowed_in : Arrives net parts from to agent m → (before leg after more : List ℕ)
      → ((w : ℤ) → HasLeg parts agent m to w → IsLegWalk net m to w [] leg) → more ≡ after ++ reverse leg → (i j : ℕ)
      → IsGap net (whole_order parts) i j from to before after → IsGap net (whole_order parts) i j from m before more
  narrowed_in on before leg after more walk is i j gap =
      gap_in net (whole_order parts) i j from to m on.weight on.rest joined before leg after more on.left on.sum (walk on.weight on.leg) is gap

  pub later_out : Leaves net parts from to agent m
      → place_of (whole_order parts) from + place_of (whole_order parts) to < place_of (whole_order parts) m + place_of (whole_order parts) to
  later_out out = (let later = out.later in omega arith)

  pub later_in : Arrives net parts from to agent m
      → place_of (whole_order parts) from + place_of (whole_order parts) to < place_of (whole_order parts) from + place_of (whole_order parts) m
  later_in on = (let later = on.later in omega arith)
