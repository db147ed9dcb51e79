-- The walk from one point to another by the two arcs through z, where it is wanted: IsDetour.
use Rattle.std.proofs.Common.{◌≡◌, ◌≢◌, ℕ, ◌+◌, ◌*◌, ◌-◌, ◌/◌, ◌<◌, Bool, true, false, ◌&&◌, ◌||◌, not, List, [], ◌∷◌, length, nat_eq, Option, Some}
use Rattle.std.proofs.Common.{None, refl, sym, ap, subst, ◌∙◌, arith}
use Rattle.std.specs.Prelude.{ℤ, ◌≤ℤ◌, int_lt, reverse}
use Rattle.std.specs.List.{AllByRecursion}
use Rattle.std.proofs.lemmas.Bool.{and_parts, ne_eqb}
use Rattle.std.proofs.lemmas.Int.{ints}
use Rattle.stn_model.specs.declared.ids.Constraint.{Constraint}
use Rattle.stn_model.specs.Arcs.{arc_at}
use Rattle.stn_model.specs.Walks.{IsWalk, weight}
use Rattle.stn_model.specs.ArcWalks.{IsInner, IsInnerLeast, arcs_weight}
use Rattle.stn_model.specs.Net.{Net, arcs_of}
use Rattle.stn_model.specs.Kinds.{is_own, is_owned_by}
use Rattle.stn_model.proofs.NetLemmas.{length-arcs_of}
use Rattle.stn_model.proofs.ArcLemmas.{upper_arc, lower_arc, arc_even, arc_odd}
use Rattle.stn_walk.specs.Eliminations.{is_in, before_both}
use Rattle.elim_step.specs.Eliminated.{point_at}
use Rattle.private_elim.specs.Locals.{local_of, arcs_in, horizon_in}
use Rattle.private_elim.specs.Taken.{TakenView, HasTaken}
use Rattle.private_elim.specs.SummaryRows.{is_pair_at, forward_at, is_over}
use Rattle.private_elim.proofs.locals.Owned.{owned_in}
use Rattle.private_elim.proofs.locals.LocalFacts.{z_first, above_z, horizon_is, horizon_of_net, owned_of_net, upper_contained, lower_contained}
use Rattle.private_elim.proofs.walks.NumberedWalks.{IsNumberOf}
use Rattle.private_elim.proofs.taking.TakenFacts.{forward_least}
use Rattle.private_elim.proofs.summary.SumsUp.{at_least_two, pair_is}

-- a walk of at most the horizon leaves no least weight above it
not_over : (inner : ℕ → Bool) (arcs : List Constraint) (i j : ℕ) (h : ℤ) (o : Option ℤ) (w : List Constraint) → IsInnerLeast inner arcs i j o
    → IsInner inner arcs i j w
    → arcs_weight w ≤ℤ h → is_over h o ≡ true → ⊥
not_over inner arcs i j h None w least goes light over = least w goes
not_over inner arcs i j h (Some b) w least goes light over = let low = least.1 w goes in let high : (int_lt h b) ≡ true = over in grind (arith, ints)

-- the two arcs between z and a point of the agent are own
module _ (net : Net) (agent q : ℕ) (own : is_owned_by net agent q ≡ true) where
  lower_number : IsNumberOf net agent (lower_arc q) (2 * q - 1)
  lower_number =
      let range = owned_in net agent q own in
      let off : nat_eq q 0 ≡ false = ne_eqb q 0 (λ (z : q ≡ 0). omega (arith, range.0)) in
      let place : (2 * q - 1) / 2 + 1 ≡ q = omega (arith, range.0) in
      let arc : arc_at (arcs_of net) (2 * q - 1) ≡ lower_arc q =
      arc_odd net (2 * q - 1) (omega (arith, range.0, range.1)) (omega (arith, range.0)) ∙ ap lower_arc place in
      record {
        within = omega (arith, range.0, range.1, length-arcs_of net);
        arc = arc;
        own = ap (is_own net agent) arc ∙ (λ k. (off k || own k) && true && not (off k && true));
      }

  upper_number : IsNumberOf net agent (upper_arc net.horizon q) (2 * q - 2)
  upper_number =
      let range = owned_in net agent q own in
      let off : nat_eq q 0 ≡ false = ne_eqb q 0 (λ (z : q ≡ 0). omega (arith, range.0)) in
      let place : (2 * q - 2) / 2 + 1 ≡ q = omega (arith, range.0) in
      let arc : arc_at (arcs_of net) (2 * q - 2) ≡ upper_arc net.horizon q =
      arc_even net (2 * q - 2) (omega (arith, range.0, range.1)) (omega (arith, range.0)) ∙ ap (upper_arc net.horizon) place in
      record {
        within = omega (arith, range.0, range.1, length-arcs_of net);
        arc = arc;
        own = ap (is_own net agent) arc ∙ (λ k. true && (off k || own k) && not (true && off k));
      }

-- a walk of own arcs by z, of this weight
pub record IsDetour (net : Net) (agent i j : ℕ) (h : ℤ) : Type 0 where
  pub walk : IsWalk (arcs_of net) i j ((2 * i - 1) ∷ (2 * j - 2) ∷ [])
  pub own : AllByRecursion (λ n. is_own net agent (arc_at (arcs_of net) n) ≡ true) ((2 * i - 1) ∷ (2 * j - 2) ∷ [])
  pub weighs : weight (arcs_of net) ((2 * i - 1) ∷ (2 * j - 2) ∷ []) ≡ h

by_two_arcs : (net : Net) (agent i j : ℕ) → is_owned_by net agent i ≡ true → is_owned_by net agent j ≡ true → IsDetour net agent i j net.horizon
by_two_arcs net agent i j from to =
    let first = lower_number net agent i from in
    let second = upper_number net agent j to in
    let start = ap (λ (a : Constraint). a.from.0) first.arc in
    let meets = ap (λ (a : Constraint). a.from.0) second.arc ∙ sym (ap (λ (a : Constraint). a.to.0) first.arc) in
    let end = ap (λ (a : Constraint). a.to.0) second.arc in
    let nothing = ap (λ (a : Constraint). a.bound) first.arc in
    let bound = ap (λ (a : Constraint). a.bound) second.arc in
    record {
      walk = (first.within, start, (second.within, meets, end));
      own = (first.own, (second.own, tt));
      weighs = omega (arith, ints, nothing, bound);
    }

module _ (t : TakenView) (h : HasTaken t) (a b : ℕ) (la : a < length t.local.points) (lb : b < length t.local.points)
    (is : (is_pair_at t a b && is_over (horizon_in t.local) (forward_at t a b)) ≡ true) where
  apart : a ≢ b
  apart = (pair_is t h a b la lb (and_parts (is_pair_at t a b) (is_over (horizon_in t.local) (forward_at t a b)) is).0).apart

  over : is_over (horizon_in t.local) (forward_at t a b) ≡ true
  over = (and_parts (is_pair_at t a b) (is_over (horizon_in t.local) (forward_at t a b)) is).1

  horizon : horizon_in t.local ≡ h.known.net.horizon
  horizon = horizon_is t.local h.known (at_least_two a b (length t.local.points) la lb apart)

  least : IsInnerLeast (is_in (before_both (reverse t.order) (point_at t.local.points a) (point_at t.local.points b))) (arcs_in t.local)
      (point_at t.local.points a) (point_at t.local.points b) (forward_at t a b)
  least = forward_least t h (point_at t.local.points a) (point_at t.local.points b)

  -- neither of the two is z: with z each point has an arc of at most the horizon
  from_not_z : a ≢ 0
  from_not_z z =
      let x = point_at t.local.points a in
      let y = point_at t.local.points b in
      let ne = apart in
      let arc = upper_arc h.known.net.horizon y in
      let start : 0 ≡ x = sym (ap (point_at t.local.points) z ∙ z_first t.local h.known) in
      not_over (is_in (before_both (reverse t.order) x y)) (arcs_in t.local) x y (horizon_in t.local) (forward_at t a b) (arc ∷ []) least
      (upper_contained t.local h.known b (omega arith) lb, start, refl) (let e = horizon in omega (arith, ints)) over

  to_not_z : b ≢ 0
  to_not_z z =
      let x = point_at t.local.points a in
      let y = point_at t.local.points b in
      let ne = apart in
      let arc = lower_arc x in
      let end : 0 ≡ y = sym (ap (point_at t.local.points) z ∙ z_first t.local h.known) in
      not_over (is_in (before_both (reverse t.order) x y)) (arcs_in t.local) x y (horizon_in t.local) (forward_at t a b) (arc ∷ []) least
      (lower_contained t.local h.known a (omega arith) la, refl, end) (let e = horizon in let low = h.known.valid.horizon_low in omega (arith, ints)) over

  pub from_above : 0 < point_at t.local.points a
  from_above = let ne = from_not_z in above_z t.local h.known a (omega arith) la

  pub to_above : 0 < point_at t.local.points b
  to_above = let ne = to_not_z in above_z t.local h.known b (omega arith) lb

  -- the two arcs in a network
  module _ (net : Net) (e : t.local ≡ local_of net t.local.agent) where
    pub detour_is : IsDetour net t.local.agent (point_at t.local.points a) (point_at t.local.points b) (horizon_in t.local)
    detour_is =
        let from = from_not_z in
        let to = to_not_z in
        subst (IsDetour net t.local.agent (point_at t.local.points a) (point_at t.local.points b))
        (sym (horizon_of_net t.local net e (at_least_two a b (length t.local.points) la lb apart)))
        (by_two_arcs net t.local.agent (point_at t.local.points a) (point_at t.local.points b)
        (owned_of_net t.local net e a (omega arith) la) (owned_of_net t.local net e b (omega arith) lb))
