-- The interface of a network lists exactly its shared points with their owners, and is an interface: owner_there, owner_shared, shared_listed_in,
-- listed_is_shared, meets_shared, external_in, interface_is, interface_owner.
use Rattle.std.proofs.Common.{zero, suc, ◌≡◌, ◌≢◌, ℕ, ◌-◌, ◌<◌, ◌≤◌, List, [], ◌∷◌, ◌++◌, Bool, true, false, not, ◌||◌, ◌&&◌, Option, Some, None}
use Rattle.std.proofs.Common.{ap, sym, ◌∙◌}
use Rattle.std.proofs.Common.{refl, arith, inl, inr, ◌⊎◌, length, length-append, subst}
use Rattle.std.specs.Prelude.{Contains, ◌==◌, nat_eq, if◌then◌else◌, slice_get, slice_index_or, filter}
use Rattle.std.specs.List.{All, AllPairs, list_any}
use Rattle.std.specs.Option.{option_eq, option_map}
use Rattle.std.proofs.lemmas.Bool.{cases_lt, ne_eqb, and_parts, or_cases, false≢true, not-true}
use Rattle.std.proofs.Math.Bool.{or-true}
use Rattle.std.proofs.lemmas.Bool.Decides.{nat_tests}
use Rattle.std.proofs.lemmas.List.{length-map, append-nil}
use Rattle.std.proofs.lemmas.List.Elements.{All-filter, All-contains, All-contains_itself, All-append, All-nil, All-cons, All-weaker}
use Rattle.std.proofs.lemmas.List.Folds.{Any-from_list_any}
use Rattle.std.proofs.lemmas.List.Quantifiers.{all_pairs_push}
use Rattle.std.proofs.lemmas.Option.{slice_get-get_or}
use Rattle.stn_model.specs.declared.ids.Constraint.{Constraint}
use Rattle.stn_model.specs.Net.{Net, arcs_of, point_count, owner_of, no_place}
use Rattle.stn_model.specs.Valid.{IsNetwork}
use Rattle.stn_model.specs.Kinds.{is_external, is_shared, names_point, same_owner}
use Rattle.stn_model.specs.Conflicts.{external_arcs}
use Rattle.stn_model.proofs.ArcKinds.{passes_of, within}
use Rattle.stn_model.proofs.NetLemmas.{length-arcs_of}
use Rattle.stn_walk.proofs.PrivateArcs.{z_unshared, from_shared, to_shared}
use Rattle.meeting_arcs.specs.Meeting.{meets}
use Rattle.shared_graph.specs.Interfaces.{SharedPoint, InterfaceView, IsInterface, owner_among, owner_in, is_listed, shared_points, interface_of}
use Rattle.shared_graph.proofs.states.Meetings.{listed_of, owner_of_listed}

-- owners in two lists, one after the other
owner_left : (xs ys : List SharedPoint) (p a : ℕ) → owner_among xs p ≡ Some a → owner_among (xs ++ ys) p ≡ Some a
owner_left [] ys p a h = absurd (cc)
owner_left (x ∷ xs) ys p a h =
    elim (p == x.point) as (λ b. (if b then Some x.owner else owner_among xs p) ≡ Some a → (if b then Some x.owner else owner_among (xs ++ ys) p) ≡ Some a) [
      | true ↦ λ g. g
      | false ↦ λ g. owner_left xs ys p a g
    ] h

owner_right : (xs ys : List SharedPoint) (p : ℕ) → owner_among xs p ≡ None → owner_among (xs ++ ys) p ≡ owner_among ys p
owner_right [] ys p h = refl
owner_right (x ∷ xs) ys p h =
    elim (p == x.point) as (λ b. (if b then Some x.owner else owner_among xs p) ≡ None
    → (if b then Some x.owner else owner_among (xs ++ ys) p) ≡ owner_among ys p) [
      | true ↦ λ g. absurd (cc)
      | false ↦ λ g. owner_right xs ys p g
    ] h

owner_split : (xs ys : List SharedPoint) (p a : ℕ) → owner_among (xs ++ ys) p ≡ Some a → (owner_among xs p ≡ Some a) ⊎ (owner_among ys p ≡ Some a)
owner_split [] ys p a h = inr h
owner_split (x ∷ xs) ys p a h =
    elim (p == x.point) as (λ b. (if b then Some x.owner else owner_among (xs ++ ys) p) ≡ Some a
    → ((if b then Some x.owner else owner_among xs p) ≡ Some a) ⊎ (owner_among ys p ≡ Some a)) [
      | true ↦ λ g. inl g
      | false ↦ λ g. owner_split xs ys p a g
    ] h

abbrev pub place_owner : Net → ℕ → ℕ
place_owner net n = (slice_index_or net.places n no_place).owner

abbrev one_if : Bool → ℕ → ℕ → List SharedPoint
one_if b p a = if b then record { point = p; owner = a } ∷ [] else []

one_owner : (b : Bool) (q p x a : ℕ) → owner_among (one_if b q x) p ≡ Some a → (b ≡ true) × (p ≡ q) × (x ≡ a)
one_owner false q p x a h = absurd (cc)
one_owner true q p x a h =
    elim (p == q) as (λ b. (p == q) ≡ b → (if b then Some x else None) ≡ Some a → (true ≡ true) × (p ≡ q) × (x ≡ a)) [
      | true ↦ λ t g. (refl, grind (arith, nat_tests), cc)
      | false ↦ λ t g. absurd (cc)
    ] refl h

-- the list of shared points has only such, with their owners
listed_shared : (net : Net) (n p a : ℕ) → owner_among (shared_points net n) p ≡ Some a → (p ≢ 0) × (p ≤ n) × (is_shared net p ≡ true)
    × (place_owner net (p - 1) ≡ a)
listed_shared net zero p a h = absurd (cc)
listed_shared net (suc n) p a h =
    elim (owner_split (shared_points net n) (one_if (is_shared net (suc n)) (suc n) (place_owner net n)) p a h) [
      | inl old ↦ (let r = listed_shared net n p a old in let low = r.1 in (r.0, omega arith, r.2, r.3))
      | inr new ↦
          (let r = one_owner (is_shared net (suc n)) (suc n) p (place_owner net n) a new in
          let e : p ≡ suc n = r.1 in
          let at : p - 1 ≡ n = omega arith in
          (λ z. absurd (omega arith), omega arith, ap (is_shared net) e ∙ r.0, ap (place_owner net) at ∙ r.2))
    ]

one_there : (b : Bool) (q p x : ℕ) → b ≡ true → p ≡ q → owner_among (one_if b q x) p ≡ Some x
one_there false q p x h e = absurd (cc)
one_there true q p x h e = (let t : (p == q) ≡ true = grind (arith, nat_tests) in ap (λ b. if b then Some x else None) t)

-- and it has all of them
shared_listed : (net : Net) (n p : ℕ) → p ≢ 0 → p ≤ n → is_shared net p ≡ true → owner_among (shared_points net n) p ≡ Some (place_owner net (p - 1))
shared_listed net zero p other low shared = absurd (other (omega arith))
shared_listed net (suc n) p other low shared =
    elim (cases_lt p (suc n)) [
      | inl less ↦ owner_left (shared_points net n) (one_if (is_shared net (suc n)) (suc n) (place_owner net n)) p (place_owner net (p - 1))
          (shared_listed net n p other (omega arith) shared)
      | inr more ↦
          (let e : p ≡ suc n = omega arith in
          let at : n ≡ p - 1 = omega arith in
          let none : owner_among (shared_points net n) p ≡ None = away (owner_among (shared_points net n) p) refl (omega arith) in
          owner_right (shared_points net n) (one_if (is_shared net (suc n)) (suc n) (place_owner net n)) p none
          ∙ one_there (is_shared net (suc n)) (suc n) p (place_owner net n) (ap (is_shared net) (sym e) ∙ shared) e
          ∙ ap (λ m. Some (place_owner net m)) at)
    ] where
      away : (o : Option ℕ) → owner_among (shared_points net n) p ≡ o → n < p → o ≡ None
      away None is lt = refl
      away (Some a) is lt = (let r = listed_shared net n p a is in let low = r.1 in absurd (omega arith))

-- whether some item passes both tests
pub any_both : (test more : Constraint → Bool) (xs : List Constraint) → list_any (λ a. test a && more a) xs ≡ list_any more (filter test xs)
any_both test more [] = refl
any_both test more (a ∷ xs) =
    elim (test a) as (λ b. ((b && more a) || list_any (λ x. test x && more x) xs) ≡ list_any more (if b then a ∷ filter test xs else filter test xs)) [
      | true ↦ ap (λ b. more a || b) (any_both test more xs)
      | false ↦ any_both test more xs
    ]

-- a number is itself
itself : (x : ℕ) → option_eq nat_eq (Some x) (Some x) ≡ true
itself x = grind (arith, nat_tests)

-- what holds of one point, where it is wanted
one_holds : (P : SharedPoint → Type 0) (b : Bool) (p a : ℕ) → P (record { point = p; owner = a }) → All P (one_if b p a)
one_holds P true p a h = All-cons P (record { point = p; owner = a }) [] h (All-nil P)
one_holds P false p a h = All-nil P

-- the listed points rise
points_low : (net : Net) (n : ℕ) → All (λ (q : SharedPoint). q.point < suc n) (shared_points net n)
points_low net zero = All-nil (λ (q : SharedPoint). q.point < 1)
points_low net (suc n) =
    All-append (λ (q : SharedPoint). q.point < suc (suc n)) (shared_points net n) (one_if (is_shared net (suc n)) (suc n) (place_owner net n))
    (All-weaker (λ (q : SharedPoint). q.point < suc n) (λ (q : SharedPoint). q.point < suc (suc n)) (λ q lt. omega arith) (shared_points net n)
    (points_low net n))
    (one_holds (λ (q : SharedPoint). q.point < suc (suc n)) (is_shared net (suc n)) (suc n) (place_owner net n) (omega arith))

abbrev Rise : SharedPoint → SharedPoint → Type 0
Rise q r = q.point < r.point

pub points_rise : (net : Net) (n : ℕ) → AllPairs (λ (q r : SharedPoint). q.point < r.point) (shared_points net n)
points_rise net zero = λ i j d lt inside. absurd (omega arith)
points_rise net (suc n) =
    elim (is_shared net (suc n)) as (λ b. AllPairs Rise (shared_points net n ++ one_if b (suc n) (place_owner net n))) [
      | true ↦ all_pairs_push Rise (shared_points net n) (record { point = suc n; owner = place_owner net n }) (points_rise net n)
          (λ k d lt. points_low net n k d lt)
      | false ↦ subst (AllPairs Rise) (sym (append-nil (shared_points net n))) (points_rise net n)
    ]

-- and are few
points_few : (net : Net) (n : ℕ) → length (shared_points net n) ≤ n
points_few net zero = omega arith
points_few net (suc n) =
    let rest = points_few net n in
    let both = length-append (shared_points net n) (one_if (is_shared net (suc n)) (suc n) (place_owner net n)) in
    let one = most (is_shared net (suc n)) in
    omega arith where
      most : (b : Bool) → length (one_if b (suc n) (place_owner net n)) ≤ 1
      most true = omega arith
      most false = omega arith

-- a filter keeps no more than there is
filter_short : (test : Constraint → Bool) (xs : List Constraint) → length (filter test xs) ≤ length xs
filter_short test [] = omega arith
filter_short test (x ∷ xs) =
    let rest = filter_short test xs in
    elim (test x) as (λ b. length (if b then x ∷ filter test xs else filter test xs) ≤ length (x ∷ xs)) [ true ↦ omega arith | false ↦ omega arith ]

-- shared points are points of the network
module _ (net : Net) (valid : IsNetwork net) where
  abbrev face : InterfaceView
  face = interface_of net

  pub shared_within : (p : ℕ) → is_shared net p ≡ true → p < point_count net
  shared_within p h =
      let some = Any-from_list_any (λ (a : Constraint). is_external net a && names_point p a) (arcs_of net) h in
      let arc : Contains (arcs_of net) some.1 = (some.0, some.2, some.3) in
      let inside = within net valid some.1 arc in
      let names = (and_parts (is_external net some.1) (names_point p some.1) some.4).1 in
      elim (or_cases (nat_eq some.1.from.0 p) (nat_eq some.1.to.0 p) names) [
        | inl from ↦ (let e : some.1.from.0 ≡ p = grind (arith, nat_tests) in let lt = inside.starts in subst (λ q. q < point_count net) e lt)
        | inr to ↦ (let e : some.1.to.0 ≡ p = grind (arith, nat_tests) in let lt = inside.ends in subst (λ q. q < point_count net) e lt)
      ]

  pub shared_not_z : (p : ℕ) → is_shared net p ≡ true → p ≢ 0
  shared_not_z p h = λ e. absurd (let n : is_shared net p ≡ false = ap (is_shared net) e ∙ z_unshared net in cc)

  -- the interface lists exactly the shared points, with their owners
  pub owner_there : (p : ℕ) → is_shared net p ≡ true → owner_in (interface_of net) p ≡ Some (place_owner net (p - 1))
  owner_there p h = (let lt = shared_within p h in shared_listed net (length net.places) p (shared_not_z p h) (omega arith) h)

  pub shared_listed_in : (p : ℕ) → is_shared net p ≡ true → is_listed (interface_of net) p ≡ true
  shared_listed_in p h = listed_of (interface_of net) p (place_owner net (p - 1)) (owner_there p h)

  pub owner_shared : (p a : ℕ) → owner_in (interface_of net) p ≡ Some a → (p ≢ 0) × (p ≤ length net.places) × (is_shared net p ≡ true)
      × (place_owner net (p - 1) ≡ a)
  owner_shared p a h = listed_shared net (length net.places) p a h

  pub listed_is_shared : (p : ℕ) → is_listed (interface_of net) p ≡ true → is_shared net p ≡ true
  listed_is_shared p h = (let o = owner_of_listed (interface_of net) p h in (owner_shared p o.0 o.1).2)

  pub meets_shared : (p : ℕ) → is_shared net p ≡ true → meets net p ≡ true
  meets_shared p h = ap (λ b. nat_eq p 0 || b) h ∙ or-true (nat_eq p 0)

  pub external_in : (a : Constraint) → Contains (external_arcs net) a → Contains (arcs_of net) a
  external_in a h = All-contains (Contains (arcs_of net)) (external_arcs net) a
      (All-filter (is_external net) (Contains (arcs_of net)) (arcs_of net) (All-contains_itself (arcs_of net))) h

  -- each listed point is named by an external arc
  named_of : (p : ℕ) → is_listed (interface_of net) p ≡ true → list_any (names_point p) (external_arcs net) ≡ true
  named_of p h = sym (any_both (is_external net) (names_point p) (arcs_of net)) ∙ listed_is_shared p h

  -- the owner of a shared point in the interface is that in the network
  pub owner_same : (p : ℕ) → is_shared net p ≡ true → owner_in (interface_of net) p ≡ owner_of net p
  owner_same p h =
      let other = shared_not_z p h in
      let lt = shared_within p h in
      let off : nat_eq p 0 ≡ false = ne_eqb p 0 other in
      owner_there p h
      ∙ sym (ap (λ b. if b then None else option_map (λ q. q.owner) (slice_get net.places (p - 1))) off
      ∙ ap (option_map (λ q. q.owner)) (slice_get-get_or net.places (p - 1) no_place (omega arith)))

  -- the ends of an external arc have different owners
  apart_of : (a : Constraint) → Contains (external_arcs net) a → owner_in (interface_of net) a.from.0 ≢ owner_in (interface_of net) a.to.0
  apart_of a h e =
      let here = external_in a h in
      let test = passes_of (is_external net) (arcs_of net) a h in
      let from = from_shared net a here test in
      let to = to_shared net a here test in
      let both : owner_of net a.from.0 ≡ owner_of net a.to.0 = sym (owner_same a.from.0 from) ∙ e ∙ owner_same a.to.0 to in
      let known = sym (owner_same a.to.0 to) ∙ owner_there a.to.0 to in
      let apart = (and_parts (not (nat_eq a.from.0 0) && not (nat_eq a.to.0 0)) (not (same_owner net a.from.0 a.to.0)) test).1 in
      false≢true (sym (not-true (same_owner net a.from.0 a.to.0) apart)
      ∙ ap (λ o. option_eq nat_eq o (owner_of net a.to.0)) both ∙ ap (λ o. option_eq nat_eq o o) known ∙ itself (place_owner net (a.to.0 - 1)))

  -- the owner of a place is an agent
  place_known : (n : ℕ) → n < length net.places → place_owner net n < length net.agents
  place_known n lt = valid.owners n no_place lt

  owners_known : (n : ℕ) → n ≤ length net.places → All (λ (q : SharedPoint). q.owner < length net.agents) (shared_points net n)
  owners_known zero few = All-nil (λ (q : SharedPoint). q.owner < length net.agents)
  owners_known (suc n) few =
      All-append (λ (q : SharedPoint). q.owner < length net.agents) (shared_points net n) (one_if (is_shared net (suc n)) (suc n) (place_owner net n))
      (owners_known n (omega arith))
      (one_holds (λ (q : SharedPoint). q.owner < length net.agents) (is_shared net (suc n)) (suc n) (place_owner net n) (place_known n (omega arith)))

  -- the interface of a network is one
  pub interface_is : IsInterface (interface_of net)
  interface_is = record {
    without_z = away (owner_in (interface_of net) 0) refl;
    starts = λ a h. shared_listed_in a.from.0 (from_shared net a (external_in a h) (passes_of (is_external net) (arcs_of net) a h));
    ends = λ a h. shared_listed_in a.to.0 (to_shared net a (external_in a h) (passes_of (is_external net) (arcs_of net) a h));
    different = λ a h. (within net valid a (external_in a h)).different;
    apart = apart_of;
    named = named_of;
    rising = points_rise net (length net.places);
    owners = subst (λ (n : ℕ). All (λ (q : SharedPoint). q.owner < n) (shared_points net (length net.places))) (sym (length-map net.agents (λ a. a.lean)))
        (owners_known (length net.places) (omega arith));
    few_agents = (let leans = length-map net.agents (λ a. a.lean) in let few = valid.few_agents in omega arith);
    few_points = (let some = points_few net (length net.places) in let few = valid.few_points in omega arith);
    few_externals =
        (let some = filter_short (is_external net) (arcs_of net) in
        let many = length-arcs_of net in
        let few = valid.few_points in
        let arcs = valid.few_arcs in
        omega arith);
    bounds = λ a h.
        let w = within net valid a (external_in a h) in
        let few = valid.few_points in
        let starts = w.starts in
        let ends = w.ends in
        record { starts = omega arith; ends = omega arith; different = w.different; low = w.low; high = w.high };
    horizon_low = valid.horizon_low;
    horizon_high = valid.horizon_high;
  } where
    away : (o : Option ℕ) → owner_in (interface_of net) 0 ≡ o → o ≡ None
    away None is = refl
    away (Some a) is = absurd ((owner_shared 0 a is).0 refl)

  -- the owner of each point in the interface: that in the network, where it is shared
  pub interface_owner : (p : ℕ) → owner_in (interface_of net) p ≡ (if is_shared net p then owner_of net p else None)
  interface_owner p =
      elim (is_shared net p) as (λ b. is_shared net p ≡ b → owner_in (interface_of net) p ≡ (if b then owner_of net p else None)) [
        | true ↦ λ t. owner_same p t
        | false ↦ λ t. none (owner_in (interface_of net) p) refl t
      ] refl where
        none : (o : Option ℕ) → owner_in (interface_of net) p ≡ o → is_shared net p ≡ false → o ≡ None
        none None is t = refl
        none (Some a) is t = absurd (false≢true (sym t ∙ (owner_shared p a is).2))
