-- Times that agents choose apart, each within its decoupled network, keep all arcs: an own arc is one of its agent's, and between the ends of an
-- external arc lies at most what the boxes leave: owner_is, owned_in, boxes_there, shared_there, joint_keeps, keeps_each, joint_satisfies.
use Rattle.std.proofs.Common.{◌≡◌, ◌≢◌, ℕ, ◌-◌, ◌<◌, true, false, ◌&&◌, ◌||◌, nat_eq, List, [], ◌∷◌, length, Option, Some, None}
use Rattle.std.proofs.Common.{refl, sym, ap, subst, ◌∙◌, arith, inl, inr, ⊎_elim}
use Rattle.std.specs.Prelude.{slice_get, if◌then◌else◌, ℤ, pos, ◌-ℤ◌, ◌≤ℤ◌, Contains, not}
use Rattle.std.specs.List.{range_with_len}
use Rattle.std.specs.Option.{option_eq, option_map}
use Rattle.std.proofs.lemmas.Int.{ints}
use Rattle.std.proofs.lemmas.Bool.{cases_eq, and_parts, or_cases, false≢true}
use Rattle.std.proofs.lemmas.Bool.Decides.{nat_tests}
use Rattle.std.proofs.lemmas.Option.{slice_get_within}
use Rattle.std.proofs.lemmas.List.{get_or_default}
use Rattle.std.proofs.lemmas.List.Elements.{Contains-append_left, Contains-append_right}
use Rattle.std.proofs.lemmas.List.FromFn.{length-map-range_with_len, get_or-map-range_with_len}
use Rattle.stn_model.specs.declared.ids.Constraint.{Constraint}
use Rattle.stn_model.specs.Arcs.{arc_at, no_arc}
use Rattle.stn_model.specs.Net.{Net, Place, arcs_of, owner_of, point_count}
use Rattle.stn_model.specs.Kinds.{is_external, is_shared, is_owned_by, same_owner}
use Rattle.stn_model.specs.Conflicts.{own_arcs, external_arcs}
use Rattle.stn_model.specs.Schedules.{Satisfies, KeepsArcs, time_at}
use Rattle.stn_model.specs.Valid.{IsNetwork}
use Rattle.stn_model.specs.Laws.{HasOneOwner}
use Rattle.stn_model.proofs.Bridges.{arc_contained}
use Rattle.stn_model.proofs.ArcKinds.{kept, passes_of, within, owner_there, owned_by, arc_has_kind}
use Rattle.stn_walk.proofs.PrivateArcs.{from_shared, to_shared, own_passes, own_ends}
use Rattle.decoupling_facts.specs.Boxes.{Ends}
use Rattle.decoupling_facts.specs.LocalNetworks.{is_boxed, upper_box, lower_box, IsBoxArc, AreBoxArcs, box_arcs, boxed_points, decoupled_arcs}
use Rattle.decoupling_facts.specs.LocalNetworks.{KeepsExternals, KeepsEach, at_owner, joint_time, joint_times, IsChosen}
use Rattle.decoupling_facts.proofs.Lists.{contains_cases, contains_first, contains_rest, kept_listed, kept_passes, range_lists}

-- the owner that the test finds
same_owner_is : (o : Option ℕ) (agent : ℕ) → option_eq nat_eq o (Some agent) ≡ true → o ≡ Some agent
same_owner_is None agent h = absurd (false≢true h)
same_owner_is (Some q) agent h = let e : q ≡ agent = grind (arith, nat_tests) in ap (λ (x : ℕ). Some x) e

pub owner_is : (net : Net) (agent p : ℕ) → is_owned_by net agent p ≡ true → owner_of net p ≡ Some agent
owner_is net agent p h = same_owner_is (owner_of net p) agent h

-- a point of an agent is not z, and is a point of the network
listed : (places : List Place) (k agent : ℕ) (o : Option Place) → slice_get places k ≡ o → option_map (λ q. q.owner) o ≡ Some agent → k < length places
listed places k agent None e h = absurd (cc)
listed places k agent (Some q) e h = slice_get_within places k q e

pub owned_in : (net : Net) (agent p : ℕ) → is_owned_by net agent p ≡ true → (p ≢ 0) × (p < point_count net)
owned_in net agent p own =
    ⊎_elim
    (λ (here : p ≡ 0). absurd (false≢true (ap (is_owned_by net agent) (sym here) ∙ own)))
    (λ (other : p ≢ 0).
    let off : nat_eq p 0 ≡ false = grind (arith, nat_tests) in
    let there = listed net.places (p - 1) agent (slice_get net.places (p - 1)) refl
    (sym (ap (λ b. if b then None else option_map (λ q. q.owner) (slice_get net.places (p - 1))) off) ∙ owner_is net agent p own) in
    (other, omega arith))
    (cases_eq p 0)

module _ (net : Net) (agent : ℕ) (e : Ends) where
  each_box : (ks : List ℕ) → ((k : ℕ) → Contains ks k → is_boxed net agent k ≡ true) → (a : Constraint) → Contains (box_arcs e ks) a → IsBoxArc net agent e a
  each_box [] boxed a c = absurd (omega (arith, c.1))
  each_box (k ∷ ks) boxed a c =
      elim (contains_cases (upper_box e k) a (lower_box e k ∷ box_arcs e ks) c) [
        | inl is ↦ (k, boxed k (contains_first k ks), inl (sym is))
        | inr d ↦ elim (contains_cases (lower_box e k) a (box_arcs e ks) d) [
          | inl is ↦ (k, boxed k (contains_first k ks), inr (sym is))
          | inr f ↦ each_box ks (λ q h. boxed q (contains_rest k q ks h)) a f
        ]
      ]

  upper_there : (ks : List ℕ) (k : ℕ) → Contains ks k → Contains (box_arcs e ks) (upper_box e k)
  upper_there [] k c = absurd (omega (arith, c.1))
  upper_there (q ∷ ks) k c =
      elim (contains_cases q k ks c) [
        | inl is ↦ subst (λ x. Contains (box_arcs e (q ∷ ks)) (upper_box e x)) is (contains_first (upper_box e q) (lower_box e q ∷ box_arcs e ks))
        | inr d ↦ contains_rest (upper_box e q) (upper_box e k) (lower_box e q ∷ box_arcs e ks)
            (contains_rest (lower_box e q) (upper_box e k) (box_arcs e ks) (upper_there ks k d))
      ]

  lower_there : (ks : List ℕ) (k : ℕ) → Contains ks k → Contains (box_arcs e ks) (lower_box e k)
  lower_there [] k c = absurd (omega (arith, c.1))
  lower_there (q ∷ ks) k c =
      elim (contains_cases q k ks c) [
        | inl is ↦ subst (λ x. Contains (box_arcs e (q ∷ ks)) (lower_box e x)) is
            (contains_rest (upper_box e q) (lower_box e q) (lower_box e q ∷ box_arcs e ks) (contains_first (lower_box e q) (box_arcs e ks)))
        | inr d ↦ contains_rest (upper_box e q) (lower_box e k) (lower_box e q ∷ box_arcs e ks)
            (contains_rest (lower_box e q) (lower_box e k) (box_arcs e ks) (lower_there ks k d))
      ]

  -- the arcs of the boxes of a list of all shared points of the agent
  pub boxes_there : (ks : List ℕ) → ((k : ℕ) → Contains ks k → is_boxed net agent k ≡ true) → ((k : ℕ) → is_boxed net agent k ≡ true → Contains ks k)
      → AreBoxArcs net agent e (box_arcs e ks)
  boxes_there ks boxed whole = record {
    each = each_box ks boxed;
    upper = λ k h. upper_there ks k (whole k h);
    lower = λ k h. lower_there ks k (whole k h);
  }

  pub shared_there : AreBoxArcs net agent e (box_arcs e (boxed_points net agent))
  shared_there = boxes_there (boxed_points net agent)
      (λ k c. kept_passes (is_boxed net agent) (range_with_len 0 (point_count net)) k c)
      (λ k h. kept (is_boxed net agent) (range_with_len 0 (point_count net)) k
      (range_lists (point_count net) k (owned_in net agent k (and_parts (is_owned_by net agent k) (is_shared net k) h).0).1) h)

ends_not_z : (net : Net) (a : Constraint) → is_external net a ≡ true → (a.from.0 ≢ 0) × (a.to.0 ≢ 0)
ends_not_z net a external =
    let outer = and_parts (not (nat_eq a.from.0 0) && not (nat_eq a.to.0 0)) (not (same_owner net a.from.0 a.to.0)) external in
    let parts = and_parts (not (nat_eq a.from.0 0)) (not (nat_eq a.to.0 0)) outer.0 in
    let first = parts.0 in
    let second = parts.1 in
    (grind (arith, nat_tests), grind (arith, nat_tests))

module _ (net : Net) (valid : IsNetwork net) (e : Ends) (apart : KeepsExternals net e) (boxes : ℕ → List Constraint) (times : ℕ → ℕ → ℤ)
    (chosen : (agent : ℕ) → agent < length net.agents → IsChosen net agent e (boxes agent) (times agent)) where
  -- at z and at the agent's points the joint times are the agent's
  at_end : (agent p : ℕ) → times agent 0 ≡ pos 0 → (nat_eq p 0 || is_owned_by net agent p) ≡ true → joint_time net times p ≡ times agent p
  at_end agent p first h =
      elim (or_cases (nat_eq p 0) (is_owned_by net agent p) h) [
        | inl t ↦
            (let is : p ≡ 0 = grind (arith, nat_tests) in
            ap (joint_time net times) is ∙ sym first ∙ ap (times agent) (sym is))
        | inr t ↦ ap (at_owner times p) (owner_is net agent p t)
      ]

  own_kept : (a : Constraint) → HasOneOwner net a → (joint_time net times a.to.0 -ℤ joint_time net times a.from.0) ≤ℤ a.bound
  own_kept a o =
      let g = chosen o.agent o.known in
      let ends = own_ends net o.agent a (own_passes net o.agent a o.own) in
      let from = at_end o.agent a.from.0 g.first ends.0 in
      let to = at_end o.agent a.to.0 g.first ends.1 in
      let holds = g.keeps a (Contains-append_left (own_arcs net o.agent) (boxes o.agent) a o.own) in
      omega (arith, ints)

  external_kept : (a : Constraint) → Contains (external_arcs net) a → (joint_time net times a.to.0 -ℤ joint_time net times a.from.0) ≤ℤ a.bound
  external_kept a c =
      let x = a.from.0 in
      let y = a.to.0 in
      let there = kept_listed (is_external net) (arcs_of net) a c in
      let external = passes_of (is_external net) (arcs_of net) a c in
      let in_range = within net valid a there in
      let off = ends_not_z net a external in
      let o = owner_there net valid x off.0 in_range.starts in
      let q = owner_there net valid y off.1 in_range.ends in
      let boxed_x : is_boxed net o.0 x ≡ true = (λ t. owned_by net valid x o.0 o.2 t && from_shared net a there external t) in
      let boxed_y : is_boxed net q.0 y ≡ true = (λ t. owned_by net valid y q.0 q.2 t && to_shared net a there external t) in
      let g = chosen o.0 o.1 in
      let h = chosen q.0 q.1 in
      let low = g.keeps (lower_box e x) (Contains-append_right (own_arcs net o.0) (boxes o.0) (lower_box e x) (g.arcs.lower x boxed_x)) in
      let high = h.keeps (upper_box e y) (Contains-append_right (own_arcs net q.0) (boxes q.0) (upper_box e y) (h.arcs.upper y boxed_y)) in
      let first = g.first in
      let second = h.first in
      let from : joint_time net times x ≡ times o.0 x = ap (at_owner times x) o.2 in
      let to : joint_time net times y ≡ times q.0 y = ap (at_owner times y) q.2 in
      let between = apart a c in
      omega (arith, ints)

  pub joint_keeps : KeepsEach (arcs_of net) (joint_time net times)
  joint_keeps a c =
      elim (arc_has_kind net valid a c) [
        | inl h ↦ external_kept a h.0
        | inr o ↦ own_kept a o
      ]

-- a schedule keeps each arc of the list
pub keeps_each : (arcs : List Constraint) (times : List ℤ) → KeepsArcs arcs times → KeepsEach arcs (time_at times)
keeps_each arcs times keeps a c =
    let is : arc_at arcs c.0 ≡ a = get_or_default arcs c.0 no_arc a c.1 ∙ c.2 in
    subst (λ x. (time_at times x.to.0 -ℤ time_at times x.from.0) ≤ℤ x.bound) is (keeps c.0 c.1)

pub joint_satisfies : (net : Net) → IsNetwork net → (e : Ends) → KeepsExternals net e → (schedules : ℕ → List ℤ)
    → ((agent : ℕ) → agent < length net.agents → Satisfies (point_count net) (decoupled_arcs net agent e) (schedules agent))
    → Satisfies (point_count net) (arcs_of net) (joint_times net schedules)
joint_satisfies net valid e apart schedules each =
    let times = λ (agent : ℕ). time_at (schedules agent) in
    let boxes = λ (agent : ℕ). box_arcs e (boxed_points net agent) in
    let holds = joint_keeps net valid e apart boxes times (λ agent known. record {
      arcs = shared_there net agent e;
      first = (each agent known).first;
      keeps = keeps_each (decoupled_arcs net agent e) (schedules agent) (each agent known).keeps;
    }) in
    let time : (p : ℕ) → p < point_count net → time_at (joint_times net schedules) p ≡ joint_time net times p =
    λ p lt. get_or-map-range_with_len (joint_time net times) 0 (point_count net) p p (pos 0) lt (omega arith) in
    record {
      one_each = length-map-range_with_len (joint_time net times) 0 (point_count net);
      first = time 0 (omega arith);
      keeps = λ n lt.
          let a = arc_at (arcs_of net) n in
          let c = arc_contained (arcs_of net) n lt in
          let in_range = within net valid a c in
          let k = holds a c in
          let x = time a.from.0 in_range.starts in
          let y = time a.to.0 in_range.ends in
          omega (arith, ints);
    }
