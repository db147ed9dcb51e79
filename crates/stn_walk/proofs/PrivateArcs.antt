-- An agent's own arcs, and what names its private points.
--   private_owned, z_unshared             a private point is the agent's and not shared; z is not shared
--   from_shared, to_shared                the ends of an external arc are shared
--   own_from_private, own_to_private      an arc of the network that begins or ends at a private point of an agent is its own
--   own_contained, own_passes, own_listed which arcs the own ones are
--   own_ends                              the ends of an own arc are z or the agent's
use Rattle.std.proofs.Common.{◌≡◌, ℕ, Bool, true, false, ◌&&◌, ◌||◌, not, List, [], ◌∷◌, nat_eq, Option, Some, None, refl, sym, ap, ◌∙◌, arith}
use Rattle.std.proofs.Common.{◌⊎◌, inl, inr}
use Rattle.std.specs.List.{Contains, list_any}
use Rattle.std.specs.Option.{option_eq}
use Rattle.std.proofs.lemmas.List.{get_or_default}
use Rattle.std.proofs.lemmas.List.Elements.{All-filter, All-contains, All-contains_itself}
use Rattle.std.proofs.lemmas.List.Folds.{list_any_at}
use Rattle.std.proofs.Math.Bool.{or-true}
use Rattle.std.proofs.lemmas.Bool.{not-true, and_parts, false≢true, ne_eqb, eq-eqb}
use Rattle.std.proofs.lemmas.Bool.Decides.{nat_tests}
use Rattle.stn_model.specs.declared.ids.Constraint.{Constraint}
use Rattle.stn_model.specs.Arcs.{arc_at, no_arc}
use Rattle.stn_model.specs.Net.{Net, arcs_of, owner_of}
use Rattle.stn_model.specs.Kinds.{same_owner, is_external, names_point, is_shared, is_owned_by, is_own, is_private_of}
use Rattle.stn_model.specs.Conflicts.{own_arcs}
use Rattle.stn_model.proofs.ArcKinds.{kept, passes_of}

-- two owners are the same where one is the agent's and the test says so
same_agent : (x y : Option ℕ) (agent : ℕ) → option_eq nat_eq x y ≡ true → option_eq nat_eq x (Some agent) ≡ true → option_eq nat_eq y (Some agent) ≡ true
same_agent None y agent same own = absurd (false≢true own)
same_agent (Some x) None agent same own = absurd (false≢true same)
same_agent (Some x) (Some y) agent same own = grind (arith, nat_tests)

same_agent-back : (x y : Option ℕ) (agent : ℕ) → option_eq nat_eq x y ≡ true → option_eq nat_eq y (Some agent) ≡ true → option_eq nat_eq x (Some agent) ≡ true
same_agent-back x None agent same own = absurd (false≢true own)
same_agent-back None (Some y) agent same own = absurd (false≢true same)
same_agent-back (Some x) (Some y) agent same own = grind (arith, nat_tests)

-- one end is the agent's and not z, and the other is z or the agent's
own_first : (x f y g : Bool) → x ≡ false → f ≡ true → (y ≡ true) ⊎ (g ≡ true) → ((x || f) && (y || g) && not (x && y)) ≡ true
own_first true f y g no_x is_f other = absurd (false≢true (sym no_x))
own_first false false y g no_x is_f other = absurd (false≢true is_f)
own_first false true true g no_x is_f other = refl
own_first false true false true no_x is_f other = refl
own_first false true false false no_x is_f (inl h) = absurd (false≢true h)
own_first false true false false no_x is_f (inr h) = absurd (false≢true h)

own_second : (x f y g : Bool) → y ≡ false → g ≡ true → (x ≡ true) ⊎ (f ≡ true) → ((x || f) && (y || g) && not (x && y)) ≡ true
own_second x f true g no_y is_g other = absurd (false≢true (sym no_y))
own_second x f false false no_y is_g other = absurd (false≢true is_g)
own_second true f false true no_y is_g other = refl
own_second false true false true no_y is_g other = refl
own_second false false false true no_y is_g (inl h) = absurd (false≢true h)
own_second false false false true no_y is_g (inr h) = absurd (false≢true h)

-- the ends of an arc that is not external have one owner, where neither is z
owners : (x y same : Bool) → x ≡ false → y ≡ false → (not x && not y && not same) ≡ false → same ≡ true
owners x y true no_x no_y h = refl
owners true y false no_x no_y h = absurd (false≢true (sym no_x))
owners false true false no_x no_y h = absurd (false≢true (sym no_y))
owners false false false no_x no_y h = absurd (false≢true (sym h))

-- an arc names its ends
named_from : (a : Constraint) → names_point a.from.0 a ≡ true
named_from a = ap (λ b. b || nat_eq a.to.0 a.from.0) (eq-eqb a.from.0 a.from.0 refl)

named_to : (a : Constraint) → names_point a.to.0 a ≡ true
named_to a = ap (λ b. nat_eq a.from.0 a.to.0 || b) (eq-eqb a.to.0 a.to.0 refl) ∙ or-true (nat_eq a.from.0 a.to.0)

-- no external arc names z, so z is not shared
z_unnamed : (net : Net) (a : Constraint) → (is_external net a && names_point 0 a) ≡ false
z_unnamed net a = grind (arith, nat_tests)

none_named : (net : Net) (arcs : List Constraint) → list_any (λ a. is_external net a && names_point 0 a) arcs ≡ false
none_named net [] = refl
none_named net (a ∷ arcs) = ap (λ b. b || list_any (λ x. is_external net x && names_point 0 x) arcs) (z_unnamed net a) ∙ none_named net arcs

pub z_unshared : (net : Net) → is_shared net 0 ≡ false
z_unshared net = none_named net (arcs_of net)

module _ (net : Net) where
  -- the ends of an external arc are shared
  named_shared : (a : Constraint) (p : ℕ) → Contains (arcs_of net) a → is_external net a ≡ true → names_point p a ≡ true → is_shared net p ≡ true
  named_shared a p here external names =
      let at : arc_at (arcs_of net) here.0 ≡ a = get_or_default (arcs_of net) here.0 no_arc a here.1 ∙ here.2 in
      let test : (is_external net a && names_point p a) ≡ true = rw (external, names) refl in
      list_any_at (λ x. is_external net x && names_point p x) (arcs_of net) here.0 no_arc here.1
      (ap (λ x. is_external net x && names_point p x) at ∙ test)

  pub from_shared : (a : Constraint) → Contains (arcs_of net) a → is_external net a ≡ true → is_shared net a.from.0 ≡ true
  from_shared a here external = named_shared a a.from.0 here external (named_from a)

  pub to_shared : (a : Constraint) → Contains (arcs_of net) a → is_external net a ≡ true → is_shared net a.to.0 ≡ true
  to_shared a here external = named_shared a a.to.0 here external (named_to a)

module _ (net : Net) (agent : ℕ) where
  -- what a private point is: the agent's, so not z, and not shared
  pub private_owned : (p : ℕ) → is_private_of net agent p ≡ true → (is_owned_by net agent p ≡ true) × (nat_eq p 0 ≡ false) × (is_shared net p ≡ false)
  private_owned p h =
      let both = and_parts (is_owned_by net agent p) (not (is_shared net p)) h in
      let apart : nat_eq p 0 ≡ false = ne_eqb p 0 (λ (e : p ≡ 0). false≢true (ap (is_owned_by net agent) (sym e) ∙ both.0)) in
      (both.0, apart, not-true (is_shared net p) both.1)

  -- no external arc names a point that is not shared
  not_external : (a : Constraint) (p : ℕ) → Contains (arcs_of net) a → names_point p a ≡ true → is_shared net p ≡ false → is_external net a ≡ false
  not_external a p here names unshared =
      elim (is_external net a) as (λ b. is_external net a ≡ b → b ≡ false) [
        | true ↦ λ t.
            let shared = named_shared net a p here t names in
            absurd (false≢true (sym unshared ∙ shared))
        | false ↦ λ t. refl
      ] refl

  -- an arc that begins at a private point is own
  pub own_from_private : (a : Constraint) → Contains (arcs_of net) a → is_private_of net agent a.from.0 ≡ true → is_own net agent a ≡ true
  own_from_private a here h =
      let p = private_owned a.from.0 h in
      let inside = not_external a a.from.0 here (named_from a) p.2 in
      elim (nat_eq a.to.0 0) as (λ b. nat_eq a.to.0 0 ≡ b → is_own net agent a ≡ true) [
        | true ↦ λ t. own_first (nat_eq a.from.0 0) (is_owned_by net agent a.from.0) (nat_eq a.to.0 0) (is_owned_by net agent a.to.0) p.1 p.0 (inl t)
        | false ↦ λ t.
            let same = owners (nat_eq a.from.0 0) (nat_eq a.to.0 0) (same_owner net a.from.0 a.to.0) p.1 t inside in
            let owned = same_agent (owner_of net a.from.0) (owner_of net a.to.0) agent same p.0 in
            own_first (nat_eq a.from.0 0) (is_owned_by net agent a.from.0) (nat_eq a.to.0 0) (is_owned_by net agent a.to.0) p.1 p.0 (inr owned)
      ] refl

  -- and one that ends at one
  pub own_to_private : (a : Constraint) → Contains (arcs_of net) a → is_private_of net agent a.to.0 ≡ true → is_own net agent a ≡ true
  own_to_private a here h =
      let p = private_owned a.to.0 h in
      let inside = not_external a a.to.0 here (named_to a) p.2 in
      elim (nat_eq a.from.0 0) as (λ b. nat_eq a.from.0 0 ≡ b → is_own net agent a ≡ true) [
        | true ↦ λ t. own_second (nat_eq a.from.0 0) (is_owned_by net agent a.from.0) (nat_eq a.to.0 0) (is_owned_by net agent a.to.0) p.1 p.0 (inl t)
        | false ↦ λ t.
            let same = owners (nat_eq a.from.0 0) (nat_eq a.to.0 0) (same_owner net a.from.0 a.to.0) t p.1 inside in
            let owned = same_agent-back (owner_of net a.from.0) (owner_of net a.to.0) agent same p.0 in
            own_second (nat_eq a.from.0 0) (is_owned_by net agent a.from.0) (nat_eq a.to.0 0) (is_owned_by net agent a.to.0) p.1 p.0 (inr owned)
      ] refl

module _ (net : Net) (agent : ℕ) where
  -- an own arc is one of the network, and passes the test
  pub own_contained : (a : Constraint) → Contains (own_arcs net agent) a → Contains (arcs_of net) a
  own_contained a here =
      All-contains (Contains (arcs_of net)) (own_arcs net agent) a
      (All-filter (is_own net agent) (Contains (arcs_of net)) (arcs_of net) (All-contains_itself (arcs_of net))) here

  pub own_passes : (a : Constraint) → Contains (own_arcs net agent) a → is_own net agent a ≡ true
  own_passes a here = passes_of (is_own net agent) (arcs_of net) a here

  -- and what passes it is an own arc
  pub own_listed : (a : Constraint) → Contains (arcs_of net) a → is_own net agent a ≡ true → Contains (own_arcs net agent) a
  own_listed a here own = kept (is_own net agent) (arcs_of net) a here own

  -- its ends are z or the agent's
  pub own_ends : (a : Constraint) → is_own net agent a ≡ true
      → ((nat_eq a.from.0 0 || is_owned_by net agent a.from.0) ≡ true) × ((nat_eq a.to.0 0 || is_owned_by net agent a.to.0) ≡ true)
  own_ends a own =
      and_parts (nat_eq a.from.0 0 || is_owned_by net agent a.from.0) (nat_eq a.to.0 0 || is_owned_by net agent a.to.0)
      (and_parts _ (not (nat_eq a.from.0 0 && nat_eq a.to.0 0)) own).0
