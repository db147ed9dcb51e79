-- Local problems beside the network that they are of: IsPart, IsJoin.
use Rattle.std.proofs.Common.{◌≡◌, ◌≢◌, ℕ, zero, suc, ◌+◌, ◌*◌, ◌-◌, ◌/◌, ◌%◌, ◌<◌, ◌≤◌, ℤ, pos, neg_ℤ, ◌≤ℤ◌, Bool, true, false, ◌&&◌, ◌||◌, not}
use Rattle.std.proofs.Common.{List, [], ◌++◌, length, map, get_or, nat_eq, slice_index_or, Some, None, refl, sym, ap, subst, ◌∙◌, arith, ⊎_elim}
use Rattle.std.proofs.Common.{length-append}
use Rattle.std.specs.List.{All, Contains}
use Rattle.std.proofs.lemmas.List.{append-nil, length-map, get_or-map, get_or_append_left, get_or_default}
use Rattle.std.proofs.lemmas.List.Elements.{All-append, All-weaker, Contains-append_left}
use Rattle.std.proofs.lemmas.Bool.{cases_eq, false_from_ne_true, ne_eqb, and_parts}
use Rattle.std.proofs.lemmas.Bool.Decides.{nat_tests}
use Rattle.stn_model.specs.Limits.{greatest_bound}
use Rattle.stn_model.specs.declared.ids.Constraint.{Constraint}
use Rattle.stn_model.specs.Arcs.{arc_at, bound_at, no_arc}
use Rattle.stn_model.specs.Net.{Net, arcs_of, point_count}
use Rattle.stn_model.specs.Valid.{IsNetwork, IsArcWithin}
use Rattle.stn_model.specs.Kinds.{is_shared, is_owned_by, is_own, is_private_of}
use Rattle.stn_model.specs.Summaries.{is_seen}
use Rattle.stn_model.proofs.NetLemmas.{length-arcs_of}
use Rattle.stn_model.proofs.ArcLemmas.{upper_arc, lower_arc, arc_even, arc_odd, arcs_within}
use Rattle.elim_step.specs.Eliminated.{point_at}
use Rattle.private_elim.specs.declared.local.LocalArc.{LocalArc}
use Rattle.private_elim.specs.Locals.{LocalView, IsLocal, IsAdded, local_of, points_of, owned_below, numbered_own, place_in, private_at, passes_at}
use Rattle.private_elim.specs.Locals.{is_private_in, is_seen_in, arcs_in, horizon_in, local_arc_at, no_local_arc}
use Rattle.private_elim.proofs.locals.Places.{place_found, place_missing, place_contained}
use Rattle.private_elim.proofs.locals.Owned.{owned_in, owned_each, owned_contained}
use Rattle.private_elim.proofs.locals.OwnArcs.{IsNumbered, numbered_arc, own_each, own_contained, numbers_rise}

-- the local problem is that of an agent of the network, with some arcs added
pub record IsPart (v : LocalView) (net : Net) : Type 0 where
  pub points : v.points ≡ points_of net v.agent
  pub shared : v.shared ≡ map (is_shared net) (points_of net v.agent)
  pub added : List LocalArc
  pub arcs : v.arcs ≡ numbered_own net v.agent ++ added

-- the arc joins two different points of the list, and its bound has magnitude at most 2^40
pub record IsJoin (points : List ℕ) (a : Constraint) : Type 0 where
  pub starts : Contains points a.from.0
  pub ends : Contains points a.to.0
  pub different : a.from.0 ≢ a.to.0
  pub low : neg_ℤ (pos greatest_bound) ≤ℤ a.bound
  pub high : a.bound ≤ℤ pos greatest_bound

-- each local problem is, of the network that it has
abbrev pub part_of_local : (v : LocalView) (h : IsLocal v) → IsPart v h.net
part_of_local v h = record { points = h.points; shared = h.shared; added = h.added; arcs = h.arcs }

-- and that of an agent of a network, with none
abbrev pub part_of_net : (v : LocalView) (net : Net) → v ≡ local_of net v.agent → IsPart v net
part_of_net v net e = record {
  points = ap (λ w. w.points) e;
  shared = ap (λ w. w.shared) e;
  added = [];
  arcs = ap (λ w. w.arcs) e ∙ sym (append-nil (numbered_own net v.agent));
}

-- what an image has
pub Contains-map : {X Y : Type 0} (f : X → Y) (xs : List X) (x : X) → Contains xs x → Contains (map f xs) (f x)
Contains-map f xs x h = (h.0, omega (arith, h.1, length-map xs f), get_or-map f xs h.0 x (f x) h.1 ∙ ap f h.2)

-- an arc between z and a point of the agent is own
upper_own : (net : Net) (agent : ℕ) (h : ℤ) (q : ℕ) → 0 < q → is_owned_by net agent q ≡ true → is_own net agent (upper_arc h q) ≡ true
upper_own net agent h q above own =
    let off : nat_eq q 0 ≡ false = grind (arith, nat_tests) in
    ap (λ b. (b || is_owned_by net agent q) && not b) off ∙ ap (λ b. b && true) own

lower_own : (net : Net) (agent q : ℕ) → 0 < q → is_owned_by net agent q ≡ true → is_own net agent (lower_arc q) ≡ true
lower_own net agent q above own =
    let off : nat_eq q 0 ≡ false = grind (arith, nat_tests) in
    ap (λ b. (b || is_owned_by net agent q) && true && not (b && true)) off ∙ ap (λ b. b && true && true) own

-- and the other way round
lower_owned : (net : Net) (agent q : ℕ) → 0 < q → is_own net agent (lower_arc q) ≡ true → is_owned_by net agent q ≡ true
lower_owned net agent q above own =
    let off : nat_eq q 0 ≡ false = grind (arith, nat_tests) in
    let parts : (is_owned_by net agent q && true && true) ≡ true =
    sym (ap (λ b. (b || is_owned_by net agent q) && true && not (b && true)) off) ∙ own in
    (and_parts (is_owned_by net agent q) true (and_parts (is_owned_by net agent q && true) true parts).0).0

-- an end of an own arc is z or the agent's
end_owned : (net : Net) (agent : ℕ) (a : Constraint) → is_own net agent a ≡ true
    → ((nat_eq a.from.0 0 || is_owned_by net agent a.from.0) ≡ true) × ((nat_eq a.to.0 0 || is_owned_by net agent a.to.0) ≡ true)
end_owned net agent a own =
    and_parts (nat_eq a.from.0 0 || is_owned_by net agent a.from.0) (nat_eq a.to.0 0 || is_owned_by net agent a.to.0)
    (and_parts _ (not (nat_eq a.from.0 0 && nat_eq a.to.0 0)) own).0

module _ (net : Net) (agent : ℕ) where
  -- the numbers of the two arcs between z and a point of the agent
  upper_in : (q : ℕ) → is_owned_by net agent q ≡ true → 2 * q - 2 < length (arcs_of net)
  upper_in q own = let range = owned_in net agent q own in omega (arith, range.0, range.1, length-arcs_of net)

  lower_in : (q : ℕ) → is_owned_by net agent q ≡ true → 2 * q - 1 < length (arcs_of net)
  lower_in q own = let range = owned_in net agent q own in omega (arith, range.0, range.1, length-arcs_of net)

  upper_is : (q : ℕ) → is_owned_by net agent q ≡ true → arc_at (arcs_of net) (2 * q - 2) ≡ upper_arc net.horizon q
  upper_is q own =
      let range = owned_in net agent q own in
      let place : (2 * q - 2) / 2 + 1 ≡ q = omega (arith, range.0) in
      arc_even net (2 * q - 2) (omega (arith, range.0, range.1)) (omega (arith, range.0)) ∙ ap (upper_arc net.horizon) place

  lower_is : (q : ℕ) → is_owned_by net agent q ≡ true → arc_at (arcs_of net) (2 * q - 1) ≡ lower_arc q
  lower_is q own =
      let range = owned_in net agent q own in
      let place : (2 * q - 1) / 2 + 1 ≡ q = omega (arith, range.0) in
      arc_odd net (2 * q - 1) (omega (arith, range.0, range.1)) (omega (arith, range.0)) ∙ ap lower_arc place

  -- the first own arc has the least number
  first_least : (m n : ℕ) → (local_arc_at (numbered_own net agent) 0).number ≡ Some m → n < length (arcs_of net)
      → is_own net agent (arc_at (arcs_of net) n) ≡ true → m ≤ n
  first_least m n first lt is =
      let own = numbered_own net agent in
      let there = own_contained net agent (length (arcs_of net)) n lt is in
      let here : local_arc_at own there.0 ≡ numbered_arc net n = get_or_default own there.0 no_local_arc (numbered_arc net n) there.1 ∙ there.2 in
      let number : (local_arc_at own there.0).number ≡ Some n = ap (λ a. a.number) here in
      ⊎_elim
      (λ (z : there.0 ≡ 0).
      let same : Some m ≡ Some n = sym first ∙ ap (λ k. (local_arc_at own k).number) (sym z) ∙ number in
      let e : m ≡ n = cc in
      omega arith)
      (λ (other : there.0 ≢ 0).
      let less = numbers_rise net agent (length (arcs_of net)) 0 there.0 m n (omega arith) there.1 first number in
      omega arith)
      (cases_eq there.0 0)

  -- so where the agent has a point, it is an arc from z
  first_bound : (q : ℕ) → is_owned_by net agent q ≡ true
      → (0 < length (numbered_own net agent)) × ((local_arc_at (numbered_own net agent) 0).arc.bound ≡ net.horizon)
  first_bound q own =
      let range = owned_in net agent q own in
      let arcs = arcs_of net in
      let is = ap (is_own net agent) (upper_is q own) ∙ upper_own net agent net.horizon q range.0 own in
      let there = own_contained net agent (length arcs) (2 * q - 2) (upper_in q own) is in
      let some : 0 < length (numbered_own net agent) = omega (arith, there.1) in
      let first = own_each net agent (length arcs) 0 no_local_arc some in
      let m = first.place in
      let least : m ≤ 2 * q - 2 = first_least m (2 * q - 2) first.number (upper_in q own) is in
      let paired : m < 2 * length net.places = omega (arith, range.0, range.1) in
      ⊎_elim
      (λ (even : m % 2 ≡ 0). (some, ap (λ (a : Constraint). a.bound) (first.arc ∙ arc_even net m paired even)))
      (λ (odd : m % 2 ≢ 0).
      let other = arc_odd net m paired (omega arith) in
      let p = m / 2 + 1 in
      let owned : is_owned_by net agent p ≡ true =
      lower_owned net agent p (omega arith) (ap (is_own net agent) (sym (first.arc ∙ other)) ∙ first.own) in
      let before : m ≤ 2 * p - 2 = first_least m (2 * p - 2) first.number (upper_in p owned)
      (ap (is_own net agent) (upper_is p owned) ∙ upper_own net agent net.horizon p (omega arith) owned) in
      absurd (omega arith))
      (cases_eq (m % 2) 0)

module _ (v : LocalView) (net : Net) (part : IsPart v net) where
  -- what stands at a place other than z's is the agent's, a point of the network, and shared where its flag says so
  pub owned_at : (k : ℕ) → 0 < k → k < length v.points → is_owned_by net v.agent (point_at v.points k) ≡ true
  owned_at zero above lt = absurd (omega arith)
  owned_at (suc k) above lt =
      let here : k < length (owned_below net v.agent (point_count net)) = omega (arith, ap length part.points) in
      ap (λ ps. is_owned_by net v.agent (point_at ps (suc k))) part.points ∙ (owned_each net v.agent (point_count net) k 0 here).1

  pub shared_at : (k : ℕ) → k < length v.points → slice_index_or v.shared k true ≡ is_shared net (point_at v.points k)
  shared_at k lt =
      ap (λ bs. get_or bs k true) part.shared
      ∙ get_or-map (is_shared net) (points_of net v.agent) k 0 true (omega (arith, ap length part.points))
      ∙ ap (λ ps. is_shared net (point_at ps k)) (sym part.points)

  -- z and each point of the agent are points of the local problem
  pub z_part : Contains v.points 0
  z_part = subst (λ ps. Contains ps 0) (sym part.points) (0, omega arith, refl)

  pub owned_part : (p : ℕ) → is_owned_by net v.agent p ≡ true → Contains v.points p
  owned_part p own =
      let below = owned_contained net v.agent (point_count net) p (owned_in net v.agent p own).1 own in
      subst (λ ps. Contains ps p) (sym part.points) (suc below.0, omega (arith, below.1), below.2)

  -- so a point that it lacks is not the agent's
  pub missing_unowned : (p : ℕ) → place_in v.points p ≡ None → is_owned_by net v.agent p ≡ false
  missing_unowned p missing =
      false_from_ne_true (is_owned_by net v.agent p)
      (λ own. let there = place_contained v.points p (owned_part p own) in place_missing v.points p missing there.0 there.1 there.2)

  pub missing_not_z : (p : ℕ) → place_in v.points p ≡ None → p ≢ 0
  missing_not_z p missing is =
      let there = place_contained v.points 0 z_part in
      place_missing v.points p missing there.0 there.1 (there.2 ∙ sym is)

  -- z stands at place 0
  pub z_at : point_at v.points 0 ≡ 0
  z_at = ap (λ ps. point_at ps 0) part.points

  -- the place of a private point is private
  private_found : (p k : ℕ) → k < length v.points → point_at v.points k ≡ p → private_at v k ≡ is_private_of net v.agent p
  private_found p zero lt is = ap (is_private_of net v.agent) (sym z_at ∙ is)
  private_found p (suc k) lt is =
      let off : nat_eq (suc k) 0 ≡ false = ne_eqb (suc k) 0 (λ (e : suc k ≡ 0). omega arith) in
      ap (λ b. not b && not (slice_index_or v.shared (suc k) true)) off
      ∙ ap not (shared_at (suc k) lt)
      ∙ ap (λ b. b && not (is_shared net (point_at v.points (suc k)))) (sym (owned_at (suc k) (omega arith) lt))
      ∙ ap (is_private_of net v.agent) is

  pub private_part : (p : ℕ) → is_private_in v p ≡ is_private_of net v.agent p
  private_part p =
      elim (place_in v.points p) as (λ o. place_in v.points p ≡ o → passes_at (private_at v) o ≡ is_private_of net v.agent p) [
        | None ↦ λ e. sym (ap (λ b. b && not (is_shared net p)) (missing_unowned p e))
        | Some k ↦ λ e. let there = place_found v.points p k e in private_found p k there.0 there.1
      ] refl

  -- the place of z or of a shared point is not
  seen_found : (p k : ℕ) → k < length v.points → point_at v.points k ≡ p → not (private_at v k) ≡ is_seen net v.agent p
  seen_found p zero lt is = ap (is_seen net v.agent) (sym z_at ∙ is)
  seen_found p (suc k) lt is =
      let q = point_at v.points (suc k) in
      let own = owned_at (suc k) (omega arith) lt in
      let above = (owned_in net v.agent q own).0 in
      let off : nat_eq (suc k) 0 ≡ false = ne_eqb (suc k) 0 (λ (e : suc k ≡ 0). omega arith) in
      let other : nat_eq q 0 ≡ false = ne_eqb q 0 (λ (e : q ≡ 0). omega arith) in
      ap (λ b. not (not b && not (slice_index_or v.shared (suc k) true))) off
      ∙ ap (λ b. not (not b)) (shared_at (suc k) lt)
      ∙ twice (is_shared net q)
      ∙ ap (λ b. b && is_shared net q) (sym own)
      ∙ ap (λ b. b || is_owned_by net v.agent q && is_shared net q) (sym other)
      ∙ ap (is_seen net v.agent) is
    where
      twice : (b : Bool) → not (not b) ≡ b
      twice true = refl
      twice false = refl

  pub seen_part : (p : ℕ) → is_seen_in v p ≡ is_seen net v.agent p
  seen_part p =
      elim (place_in v.points p) as (λ o. place_in v.points p ≡ o → passes_at (λ k. not (private_at v k)) o ≡ is_seen net v.agent p) [
        | None ↦ λ e.
            let other : nat_eq p 0 ≡ false = ne_eqb p 0 (missing_not_z p e) in
            sym (ap (λ b. b || is_owned_by net v.agent p && is_shared net p) other ∙ ap (λ b. b && is_shared net p) (missing_unowned p e))
        | Some k ↦ λ e. let there = place_found v.points p k e in seen_found p k there.0 there.1
      ] refl

  -- each own arc is among its arcs
  pub own_part : (n : ℕ) → n < length (arcs_of net) → is_own net v.agent (arc_at (arcs_of net) n) ≡ true → Contains v.arcs (numbered_arc net n)
  own_part n lt own =
      subst (λ xs. Contains xs (numbered_arc net n)) (sym part.arcs)
      (Contains-append_left (numbered_own net v.agent) part.added (numbered_arc net n) (own_contained net v.agent (length (arcs_of net)) n lt own))

  own_plain_part : (n : ℕ) (a : Constraint) → n < length (arcs_of net) → arc_at (arcs_of net) n ≡ a → is_own net v.agent a ≡ true → Contains (arcs_in v) a
  own_plain_part n a lt is own =
      subst (Contains (arcs_in v)) is
      (Contains-map (λ x. x.arc) v.arcs (numbered_arc net n) (own_part n lt (ap (is_own net v.agent) is ∙ own)))

  -- and so are the two that each of its points has with z
  pub upper_part : (k : ℕ) → 0 < k → k < length v.points → Contains (arcs_in v) (upper_arc net.horizon (point_at v.points k))
  upper_part k above lt =
      let q = point_at v.points k in
      let own = owned_at k above lt in
      own_plain_part (2 * q - 2) (upper_arc net.horizon q) (upper_in net v.agent q own) (upper_is net v.agent q own)
      (upper_own net v.agent net.horizon q (owned_in net v.agent q own).0 own)

  pub lower_part : (k : ℕ) → 0 < k → k < length v.points → Contains (arcs_in v) (lower_arc (point_at v.points k))
  lower_part k above lt =
      let q = point_at v.points k in
      let own = owned_at k above lt in
      own_plain_part (2 * q - 1) (lower_arc q) (lower_in net v.agent q own) (lower_is net v.agent q own)
      (lower_own net v.agent q (owned_in net v.agent q own).0 own)

  -- the first of its arcs is one from z, where there is another point
  pub horizon_part : 1 < length v.points → horizon_in v ≡ net.horizon
  horizon_part some =
      let own = numbered_own net v.agent in
      let first = first_bound net v.agent (point_at v.points 1) (owned_at 1 (omega arith) some) in
      let more : 0 < length (own ++ part.added) = omega (arith, first.0, length-append own part.added) in
      ap (λ xs. bound_at (map (λ a. a.arc) xs) 0) part.arcs
      ∙ ap (λ (a : Constraint). a.bound) (get_or-map (λ a. a.arc) (own ++ part.added) 0 no_local_arc no_arc more)
      ∙ ap (λ (a : LocalArc). a.arc.bound) (get_or_append_left own part.added no_local_arc 0 first.0)
      ∙ first.1

  -- each arc joins two of its points
  end_part : (p : ℕ) → (nat_eq p 0 || is_owned_by net v.agent p) ≡ true → Contains v.points p
  end_part p is =
      ⊎_elim
      (λ (here : p ≡ 0). subst (Contains v.points) (sym here) z_part)
      (λ (other : p ≢ 0). owned_part p (sym (ap (λ b. b || is_owned_by net v.agent p) (ne_eqb p 0 other)) ∙ is))
      (cases_eq p 0)

  own_joins : IsNetwork net → (a : LocalArc) → IsNumbered net v.agent (length (arcs_of net)) a → IsJoin v.points a.arc
  own_joins valid a h =
      let within : IsArcWithin (point_count net) a.arc = subst (IsArcWithin (point_count net)) (sym h.arc) (arcs_within net valid h.place h.below) in
      let ends = end_owned net v.agent a.arc h.own in
      record { starts = end_part a.arc.from.0 ends.0; ends = end_part a.arc.to.0 ends.1; different = within.different; low = within.low; high = within.high }

  -- what joins two of them may be added
  added_joins : (a : LocalArc) → IsAdded v.points a → IsJoin v.points a.arc
  added_joins a h = record { starts = h.starts; ends = h.ends; different = h.different; low = h.low; high = h.high }

  pub joins_part : IsNetwork net → All (IsAdded v.points) part.added → All (λ a. IsJoin v.points a.arc) v.arcs
  joins_part valid h =
      let own = numbered_own net v.agent in
      subst (All (λ a. IsJoin v.points a.arc)) (sym part.arcs)
      (All-append (λ a. IsJoin v.points a.arc) own part.added
      (All-weaker (IsNumbered net v.agent (length (arcs_of net))) (λ a. IsJoin v.points a.arc) (own_joins valid) own
      (own_each net v.agent (length (arcs_of net))))
      (All-weaker (IsAdded v.points) (λ a. IsJoin v.points a.arc) added_joins part.added h))
