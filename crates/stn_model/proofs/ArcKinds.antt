-- Each arc of a network is external, or own to exactly one agent: owner_there, arc_kind, own_once, never_both. What filters keep: kept,
-- passes_of.
use Rattle.std.proofs.Common.{zero, suc, ◌≡◌, ◌≢◌, ℕ, ◌-◌, ◌<◌, Bool, true, false, ◌&&◌, ◌||◌, not, nat_eq, List, [], ◌∷◌, length, get_or, filter, Option, Some, None, if◌then◌else◌, refl, sym, ap, ap₂, subst, ◌∙◌, arith, ◌⊎◌, inl, inr}
use Rattle.std.specs.List.{Contains, slice_get}
use Rattle.std.specs.Option.{option_eq, option_map}
use Rattle.std.proofs.lemmas.List.{get_or_default}
use Rattle.std.proofs.lemmas.Option.{slice_get-get_or}
use Rattle.std.proofs.lemmas.Bool.{not-true, and_parts, or_cases, false≢true, ne_eqb}
use Rattle.std.proofs.lemmas.Bool.Decides.{nat_tests}
use Rattle.stn_model.specs.declared.ids.Constraint.{Constraint}
use Rattle.stn_model.specs.Arcs.{no_arc}
use Rattle.stn_model.specs.Net.{Net, arcs_of, owner_of, point_count, no_place}
use Rattle.stn_model.specs.Valid.{IsNetwork, IsArcWithin}
use Rattle.stn_model.specs.Kinds.{same_owner, is_external, is_owned_by, is_own}
use Rattle.stn_model.specs.Conflicts.{own_arcs, external_arcs}
use Rattle.stn_model.specs.Laws.{HasOneOwner}
use Rattle.stn_model.proofs.ArcLemmas.{arcs_within}

-- what a filter keeps
kept_first : {X : Type 0} (test : X → Bool) (xs : List X) (i : ℕ) (x d : X) → i < length xs → get_or xs i d ≡ x → test x ≡ true → Contains (filter test xs) x
kept_first test [] i x d lt is passes = absurd (omega arith)
kept_first test (y ∷ xs) zero x d lt is passes =
    let here : test y ≡ true = ap test is ∙ passes in
    rw here (0, omega arith, is)
kept_first test (y ∷ xs) (suc i) x d lt is passes =
    let later = kept_first test xs i x d (omega arith) is passes in
    elim (test y) as (λ b. test y ≡ b → Contains (filter test (y ∷ xs)) x) [
      | true ↦ λ t. rw t (suc later.0, omega (arith, later.1), later.2)
      | false ↦ λ t. rw t later
    ] refl

pub kept : {X : Type 0} (test : X → Bool) (xs : List X) (x : X) → Contains xs x → test x ≡ true → Contains (filter test xs) x
kept test xs x here passes = kept_first test xs here.0 x x here.1 here.2 passes

-- the first of a list, or one of the rest
first_or_rest : (P : Constraint → Type 0) (y : Constraint) (xs : List Constraint) (x : Constraint) → P y → (Contains xs x → P x) → Contains (y ∷ xs) x → P x
first_or_rest P y xs x here rest (zero, lt, is) = subst P is here
first_or_rest P y xs x here rest (suc i, lt, is) = rest (i, omega arith, is)

-- the other way round
pub passes_of : (test : Constraint → Bool) (xs : List Constraint) (x : Constraint) → Contains (filter test xs) x → test x ≡ true
passes_of test [] x here = absurd (let low : here.0 < 0 = here.1 in omega arith)
passes_of test (y ∷ xs) x here =
    elim (test y) as (λ b. test y ≡ b → test x ≡ true) [
      | true ↦ λ t. first_or_rest (λ z. test z ≡ true) y (filter test xs) x t (λ later. passes_of test xs x later) (rw t at here)
      | false ↦ λ t. passes_of test xs x (rw t at here)
    ] refl

module _ (net : Net) (valid : IsNetwork net) where
  -- an arc of the network joins two different points of it
  pub within : (a : Constraint) → Contains (arcs_of net) a → IsArcWithin (point_count net) a
  within a here = subst (IsArcWithin (point_count net)) (get_or_default (arcs_of net) here.0 no_arc a here.1 ∙ here.2) (arcs_within net valid here.0 here.1)

  -- each point but z has an owner
  pub owner_there : (p : ℕ) → p ≢ 0 → p < point_count net → (agent : ℕ) × (agent < length net.agents) × (owner_of net p ≡ Some agent)
  owner_there p other lt =
      let off : nat_eq p 0 ≡ false = ne_eqb p 0 other in
      let place = get_or net.places (p - 1) no_place in (
        place.owner,
        valid.owners (p - 1) no_place (omega arith),
        ap (λ b. if b then None else option_map (λ q. q.owner) (slice_get net.places (p - 1))) off
            ∙ ap (option_map (λ q. q.owner)) (slice_get-get_or net.places (p - 1) no_place (omega arith)),
      )

  -- and it is the agent's
  pub owned_by : (p agent : ℕ) → owner_of net p ≡ Some agent → is_owned_by net agent p ≡ true
  owned_by p agent is = ap (λ o. option_eq nat_eq o (Some agent)) is ∙ (grind (arith, nat_tests))

-- what the tests say of an arc with one end at z
own_upper : (x f y g : Bool) → x ≡ true → y ≡ false → g ≡ true → ((x || f) && (y || g) && not (x && y)) ≡ true
own_upper x f y g is_x no_y is_g = (λ k. (is_x k || f) && (no_y k || is_g k) && not (is_x k && no_y k))

pub own_lower : (x f y g : Bool) → x ≡ false → f ≡ true → y ≡ true → ((x || f) && (y || g) && not (x && y)) ≡ true
own_lower x f y g no_x is_f is_y = (λ k. (no_x k || is_f k) && (is_y k || g) && not (no_x k && is_y k))

-- and with none
own_inner : (x f y g : Bool) → x ≡ false → f ≡ true → y ≡ false → g ≡ true → ((x || f) && (y || g) && not (x && y)) ≡ true
own_inner x f y g no_x is_f no_y is_g = (λ k. (no_x k || is_f k) && (no_y k || is_g k) && not (no_x k && no_y k))

same_agent : (x y : Option ℕ) (agent : ℕ) → option_eq nat_eq x y ≡ true → x ≡ Some agent → option_eq nat_eq y (Some agent) ≡ true
same_agent None y agent same is = absurd (cc)
same_agent (Some x) None agent same is = absurd (false≢true same)
same_agent (Some x) (Some y) agent same is = let e : x ≡ agent = cc in grind (arith, nat_tests)

-- external, or own to some agent
abbrev pub ArcKind : Net → Constraint → Type 0
ArcKind net a = (is_external net a ≡ true) ⊎ ((agent : ℕ) × (agent < length net.agents) × (is_own net agent a ≡ true))

module _ (net : Net) (valid : IsNetwork net) where
  -- An arc with z is own to the owner of its other end. Another has two ends of one owner, and is own to it, or is external.
  pub arc_kind : (a : Constraint) → Contains (arcs_of net) a → ArcKind net a
  arc_kind a here =
      let in_range = within net valid a here in
      let start_of = owner_there net valid a.from.0 in
      let end_of = owner_there net valid a.to.0 in
      elim (nat_eq a.from.0 0) as (λ b. nat_eq a.from.0 0 ≡ b → ArcKind net a) [
        | true ↦ λ s.
            let from : a.from.0 ≡ 0 = grind (arith, nat_tests) in
            let apart : a.to.0 ≢ 0 = λ e. in_range.different (from ∙ sym e) in
            let owner = end_of apart in_range.ends in
            inr (
              owner.0,
              owner.1,
              own_upper (nat_eq a.from.0 0) (is_owned_by net owner.0 a.from.0) (nat_eq a.to.0 0) (is_owned_by net owner.0 a.to.0)
                  s (ne_eqb a.to.0 0 apart) (owned_by net valid a.to.0 owner.0 owner.2),
            )
        | false ↦ λ s.
            let apart : a.from.0 ≢ 0 = grind (arith, nat_tests) in
            let owner = start_of apart in_range.starts in
            let owned = owned_by net valid a.from.0 owner.0 owner.2 in
            elim (nat_eq a.to.0 0) as (λ b. nat_eq a.to.0 0 ≡ b → ArcKind net a) [
              | true ↦ λ e. inr (owner.0, owner.1, own_lower (nat_eq a.from.0 0) (is_owned_by net owner.0 a.from.0) (nat_eq a.to.0 0) (is_owned_by net owner.0 a.to.0) s owned e)
              | false ↦ λ e.
                  elim (same_owner net a.from.0 a.to.0) as (λ b. same_owner net a.from.0 a.to.0 ≡ b → ArcKind net a) [
                    | true ↦ λ same.
                        inr (
                          owner.0,
                          owner.1,
                          own_inner (nat_eq a.from.0 0) (is_owned_by net owner.0 a.from.0) (nat_eq a.to.0 0) (is_owned_by net owner.0 a.to.0)
                              s owned e (same_agent (owner_of net a.from.0) (owner_of net a.to.0) owner.0 same owner.2),
                        )
                    | false ↦ λ same. inl (λ k. not (s k) && not (e k) && not (same k))
                  ] refl
            ] refl
      ] refl

-- the ends of an own arc are z or the agent's
own_ends : (net : Net) (agent : ℕ) (a : Constraint) → is_own net agent a ≡ true
    → ((nat_eq a.from.0 0 || is_owned_by net agent a.from.0) ≡ true) × ((nat_eq a.to.0 0 || is_owned_by net agent a.to.0) ≡ true)
own_ends net agent a own =
    and_parts (nat_eq a.from.0 0 || is_owned_by net agent a.from.0) (nat_eq a.to.0 0 || is_owned_by net agent a.to.0)
    (and_parts _ (not (nat_eq a.from.0 0 && nat_eq a.to.0 0)) own).0

-- a point has one owner
one_owner : (o : Option ℕ) (x y : ℕ) → option_eq nat_eq o (Some x) ≡ true → option_eq nat_eq o (Some y) ≡ true → y ≡ x
one_owner None x y h g = absurd (false≢true h)
one_owner (Some o) x y h g = grind (arith, nat_tests)

-- an end of an own arc that is the agent's is no other's
end_of : (net : Net) (x y p : ℕ) → (nat_eq p 0 || is_owned_by net y p) ≡ true → is_owned_by net x p ≡ true → y ≡ x
end_of net x y p h own =
    elim (or_cases (nat_eq p 0) (is_owned_by net y p) h) [
      | inl z ↦ (let e : p ≡ 0 = grind (arith, nat_tests) in absurd (false≢true (ap (is_owned_by net x) (sym e) ∙ own)))
      | inr g ↦ one_owner (owner_of net p) x y own g
    ]

-- an arc is own to one agent at most
pub own_once : (net : Net) (x y : ℕ) (a : Constraint) → is_own net x a ≡ true → is_own net y a ≡ true → y ≡ x
own_once net x y a own other =
    let both = and_parts _ (not (nat_eq a.from.0 0 && nat_eq a.to.0 0)) own in
    let here = own_ends net x a own in
    let there = own_ends net y a other in
    elim (or_cases (nat_eq a.from.0 0) (is_owned_by net x a.from.0) here.0) [
      | inr owned ↦ end_of net x y a.from.0 there.0 owned
      | inl z ↦ elim (or_cases (nat_eq a.to.0 0) (is_owned_by net x a.to.0) here.1) [
        | inr owned ↦ end_of net x y a.to.0 there.1 owned
        | inl zz ↦ absurd (false≢true (sym (not-true (nat_eq a.from.0 0 && nat_eq a.to.0 0) both.1) ∙ (λ k. z k && zz k)))
      ]
    ]

-- two points of one agent have the same owner
both_owned : (o p : Option ℕ) (agent : ℕ) → option_eq nat_eq o (Some agent) ≡ true → option_eq nat_eq p (Some agent) ≡ true → option_eq nat_eq o p ≡ true
both_owned None p agent h g = absurd (false≢true h)
both_owned (Some o) None agent h g = absurd (false≢true g)
both_owned (Some o) (Some p) agent h g = grind (arith, nat_tests)

-- an arc is not both external and own
pub never_both : (net : Net) (agent : ℕ) (a : Constraint) → is_external net a ≡ true → is_own net agent a ≡ true → ⊥
never_both net agent a external own =
    let ends = own_ends net agent a own in
    let outer = and_parts (not (nat_eq a.from.0 0) && not (nat_eq a.to.0 0)) (not (same_owner net a.from.0 a.to.0)) external in
    let apart = and_parts (not (nat_eq a.from.0 0)) (not (nat_eq a.to.0 0)) outer.0 in
    let from = second (nat_eq a.from.0 0) (is_owned_by net agent a.from.0) apart.0 ends.0 in
    let to = second (nat_eq a.to.0 0) (is_owned_by net agent a.to.0) apart.1 ends.1 in
    let same : same_owner net a.from.0 a.to.0 ≡ true = both_owned (owner_of net a.from.0) (owner_of net a.to.0) agent from to in
    false≢true (sym (not-true (same_owner net a.from.0 a.to.0) outer.1) ∙ same)
  where
    second : (x y : Bool) → not x ≡ true → (x || y) ≡ true → y ≡ true
    second true y h g = absurd (false≢true h)
    second false y h g = g

module _ (net : Net) (valid : IsNetwork net) (a : Constraint) (here : Contains (arcs_of net) a) where
  pub arc_has_kind : (Contains (external_arcs net) a × ((agent : ℕ) → Contains (own_arcs net agent) a → ⊥)) ⊎ HasOneOwner net a
  arc_has_kind = elim (arc_kind net valid a here) [
    | inl external ↦
        inl (
          kept (is_external net) (arcs_of net) a here external,
          λ agent own. never_both net agent a external (passes_of (is_own net agent) (arcs_of net) a own),
        )
    | inr own ↦
        inr (record {
          agent = own.0;
          known = own.1;
          own = kept (is_own net own.0) (arcs_of net) a here own.2;
          only = λ other h. own_once net own.0 other a own.2 (passes_of (is_own net other) (arcs_of net) a h);
          inner = λ h. never_both net own.0 a (passes_of (is_external net) (arcs_of net) a h) own.2;
        })
  ]
