-- What is true of every local problem, for the proofs of the rest of the crate.
use Rattle.std.proofs.Common.{◌≡◌, ℕ, ◌<◌, ◌≤◌, Bool, true, ◌&&◌, List, [], ◌∷◌, ◌++◌, length, map, get_or, Some, is_some, refl, sym, ap, subst, ◌∙◌, arith}
use Rattle.std.specs.List.{All, AllPass, Contains}
use Rattle.std.proofs.lemmas.List.{append-nil, length-map, get_or-map}
use Rattle.std.proofs.lemmas.List.Elements.{All-nil, All-map, All-head, All-contains}
use Rattle.std.proofs.lemmas.List.Sums.{list_all-from_AllPass}
use Rattle.std.proofs.lemmas.List.Folds.{list_all-append}
use Rattle.std.proofs.lemmas.Bool.{false≢true, and_parts}
use Rattle.stn_model.specs.Limits.{most_points}
use Rattle.stn_model.specs.declared.ids.Constraint.{Constraint}
use Rattle.stn_model.specs.Arcs.{arc_at, no_arc}
use Rattle.stn_model.specs.Net.{Net, arcs_of}
use Rattle.stn_model.specs.Valid.{IsNetwork}
use Rattle.stn_model.specs.Kinds.{is_shared, is_owned_by, is_own, is_private_of}
use Rattle.stn_model.specs.Conflicts.{own_arcs}
use Rattle.stn_model.specs.Summaries.{is_seen}
use Rattle.stn_model.proofs.ArcLemmas.{upper_arc, lower_arc}
use Rattle.elim_step.specs.Eliminated.{point_at}
use Rattle.private_elim.specs.declared.local.LocalArc.{LocalArc}
use Rattle.private_elim.specs.Locals.{LocalView, IsLocal, IsAdded, local_of, points_of, numbered_own, place_in, is_private_in, is_seen_in, arcs_in}
use Rattle.private_elim.specs.Locals.{horizon_in, all_numbered, local_arc_at, no_local_arc}
use Rattle.private_elim.proofs.locals.Places.{Rises, place_of_point}
use Rattle.private_elim.proofs.locals.Owned.{points_rise, points_below, points_few}
use Rattle.private_elim.proofs.locals.OwnArcs.{IsNumbered, NumbersRise, numbered_arc, own_each, numbers_rise, numbered_plain}
use Rattle.private_elim.proofs.locals.Parts.{IsJoin, part_of_local, part_of_net, joins_part, private_part, seen_part, owned_at, own_part, upper_part}
use Rattle.private_elim.proofs.locals.Parts.{lower_part, horizon_part}

-- added arcs have no numbers, so where each has one, none was added
nothing_added : (points : List ℕ) (added : List LocalArc) → All (IsAdded points) added → all_numbered added ≡ true → added ≡ []
nothing_added points [] h all = refl
nothing_added points (a ∷ added) h all =
    let here = All-head (IsAdded points) a added h in
    absurd (false≢true (sym (ap is_some here.number) ∙ (and_parts (is_some a.number) (all_numbered added) all).0))

-- local problems with the same parts
same_local : (v : LocalView) (points : List ℕ) (shared : List Bool) (arcs : List LocalArc) → v.points ≡ points → v.shared ≡ shared → v.arcs ≡ arcs
    → v ≡ record { agent = v.agent; points = points; shared = shared; arcs = arcs }
same_local v points shared arcs e f g =
    ap {B = LocalView} (λ ps. record { agent = v.agent; points = ps; shared = v.shared; arcs = v.arcs }) e
    ∙ ap {B = LocalView} (λ bs. record { agent = v.agent; points = points; shared = bs; arcs = v.arcs }) f
    ∙ ap {B = LocalView} (λ xs. record { agent = v.agent; points = points; shared = shared; arcs = xs }) g

module _ (v : LocalView) (h : IsLocal v) where
  -- the points strictly rise
  pub rises : Rises v.points
  rises = subst Rises (sym h.points) (points_rise h.net v.agent)

  -- z stands at place 0
  pub z_first : point_at v.points 0 ≡ 0
  z_first = ap (λ ps. point_at ps 0) h.points

  -- and nowhere else
  pub above_z : (k : ℕ) → 0 < k → k < length v.points → 0 < point_at v.points k
  above_z k above lt = let more = rises 0 k above lt in omega (arith, z_first)

  -- so there is a point
  pub some_point : 0 < length v.points
  some_point = omega (arith, ap length h.points)

  pub z_contained : Contains v.points 0
  z_contained = (0, some_point, ap (λ ps. get_or ps 0 0) h.points)

  -- there are no more than a network may have
  pub few_points : length v.points ≤ most_points
  few_points = omega (arith, ap length h.points, points_few h.net v.agent, h.valid.few_points)

  -- and each is below that
  pub points_small : All (λ p. p < most_points) v.points
  points_small = subst (All (λ p. p < most_points)) (sym h.points) (λ k d lt. let below = points_below h.net v.agent k d lt in omega (arith, h.valid.few_points))

  -- each point is shared or not
  pub one_each : length v.shared ≡ length v.points
  one_each = ap length h.shared ∙ length-map (points_of h.net v.agent) (is_shared h.net) ∙ sym (ap length h.points)

  -- a look-up of what stands at a place answers that place
  pub place_of_point_at : (k : ℕ) → k < length v.points → place_in v.points (point_at v.points k) ≡ Some k
  place_of_point_at k lt = place_of_point v.points k rises lt

  -- each arc joins two different points of it, and its bound has magnitude at most 2^40
  pub arc_joins : (a : Constraint) → Contains (arcs_in v) a → IsJoin v.points a
  arc_joins a there =
      All-contains (IsJoin v.points) (arcs_in v) a
      (All-map (IsJoin v.points) (λ x. x.arc) v.arcs (joins_part v h.net (part_of_local v h) h.valid h.each)) there

  -- its private points, and those that others see
  pub private_is : (p : ℕ) → is_private_in v p ≡ is_private_of h.net v.agent p
  private_is = private_part v h.net (part_of_local v h)

  pub seen_is : (p : ℕ) → is_seen_in v p ≡ is_seen h.net v.agent p
  seen_is = seen_part v h.net (part_of_local v h)

  -- what stands at a place other than 0 is not z, and is the agent's
  pub owned_is : (k : ℕ) → 0 < k → k < length v.points → is_owned_by h.net v.agent (point_at v.points k) ≡ true
  owned_is = owned_at v h.net (part_of_local v h)

  -- the two arcs between z and what stands at a place other than 0
  pub upper_contained : (k : ℕ) → 0 < k → k < length v.points → Contains (arcs_in v) (upper_arc h.net.horizon (point_at v.points k))
  upper_contained = upper_part v h.net (part_of_local v h)

  pub lower_contained : (k : ℕ) → 0 < k → k < length v.points → Contains (arcs_in v) (lower_arc (point_at v.points k))
  lower_contained = lower_part v h.net (part_of_local v h)

  -- the horizon, where there is another point than z
  pub horizon_is : 1 < length v.points → horizon_in v ≡ h.net.horizon
  horizon_is = horizon_part v h.net (part_of_local v h)

  -- where each arc has a number, none was added
  pub numbered-is : all_numbered v.arcs ≡ true → v ≡ local_of h.net v.agent
  numbered-is all =
      let own = numbered_own h.net v.agent in
      let numbered = λ (a : LocalArc). is_some a.number in
      let both : (all_numbered own && all_numbered h.added) ≡ true = sym (ap all_numbered h.arcs ∙ list_all-append numbered own h.added) ∙ all in
      let nothing = nothing_added v.points h.added h.each (and_parts (all_numbered own) (all_numbered h.added) both).1 in
      let arcs = h.arcs ∙ ap (λ xs. own ++ xs) nothing ∙ append-nil own in
      same_local v (points_of h.net v.agent) (map (is_shared h.net) (points_of h.net v.agent)) own h.points h.shared arcs

-- the local problem of an agent of a network is one
pub IsLocal-local_of : (net : Net) (agent : ℕ) → IsNetwork net → agent < length net.agents → IsLocal (local_of net agent)
IsLocal-local_of net agent valid known = record {
  net = net;
  valid = valid;
  known = known;
  added = [];
  each = All-nil (IsAdded (points_of net agent));
  points = refl;
  shared = refl;
  arcs = sym (append-nil (numbered_own net agent));
}

-- a place of an arc
pub arc_in_at : (v : LocalView) (k : ℕ) → k < length v.arcs → arc_at (arcs_in v) k ≡ (local_arc_at v.arcs k).arc
arc_in_at v k lt = get_or-map (λ a. a.arc) v.arcs k no_local_arc no_arc lt

-- where it is the local problem of an agent of a network, with nothing added
module _ (v : LocalView) (net : Net) (e : v ≡ local_of net v.agent) where
  -- its arcs are the agent's own arcs
  pub arcs_of_net : arcs_in v ≡ own_arcs net v.agent
  arcs_of_net = ap arcs_in e ∙ numbered_plain net v.agent

  -- its private points, and those that others see
  pub private_of_net : (p : ℕ) → is_private_in v p ≡ is_private_of net v.agent p
  private_of_net = private_part v net (part_of_net v net e)

  pub seen_of_net : (p : ℕ) → is_seen_in v p ≡ is_seen net v.agent p
  seen_of_net = seen_part v net (part_of_net v net e)

  -- what stands at a place other than 0 is the agent's
  pub owned_of_net : (k : ℕ) → 0 < k → k < length v.points → is_owned_by net v.agent (point_at v.points k) ≡ true
  owned_of_net = owned_at v net (part_of_net v net e)

  -- the two arcs between z and what stands at a place other than 0
  pub upper_of_net : (k : ℕ) → 0 < k → k < length v.points → Contains (arcs_in v) (upper_arc net.horizon (point_at v.points k))
  upper_of_net = upper_part v net (part_of_net v net e)

  pub lower_of_net : (k : ℕ) → 0 < k → k < length v.points → Contains (arcs_in v) (lower_arc (point_at v.points k))
  lower_of_net = lower_part v net (part_of_net v net e)

  -- the horizon, where there is another point than z
  pub horizon_of_net : 1 < length v.points → horizon_in v ≡ net.horizon
  horizon_of_net = horizon_part v net (part_of_net v net e)

  -- each arc has its number in the network, and is own
  pub number_at : (k : ℕ) → k < length v.arcs → IsNumbered net v.agent (length (arcs_of net)) (local_arc_at v.arcs k)
  number_at k lt =
      let arcs = ap (λ w. w.arcs) e in
      subst (λ xs. IsNumbered net v.agent (length (arcs_of net)) (local_arc_at xs k)) (sym arcs)
      (own_each net v.agent (length (arcs_of net)) k no_local_arc (omega (arith, ap length arcs)))

  -- the numbers strictly rise
  pub numbers_rise_of_net : NumbersRise v.arcs
  numbers_rise_of_net = subst NumbersRise (sym (ap (λ w. w.arcs) e)) (numbers_rise net v.agent (length (arcs_of net)))

  -- each own arc is there with its number
  pub own_of_net : (n : ℕ) → n < length (arcs_of net) → is_own net v.agent (arc_at (arcs_of net) n) ≡ true → Contains v.arcs (numbered_arc net n)
  own_of_net = own_part v net (part_of_net v net e)

  -- so each arc has a number
  pub numbered_of_net : all_numbered v.arcs ≡ true
  numbered_of_net =
      let arcs = ap (λ w. w.arcs) e in
      list_all-from_AllPass (λ (a : LocalArc). is_some a.number) v.arcs
      (subst (AllPass (λ (a : LocalArc). is_some a.number)) (sym arcs)
      (λ k d lt. ap is_some (own_each net v.agent (length (arcs_of net)) k d lt).number))
