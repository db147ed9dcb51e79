-- Which points are shared, from their kinds: is_shared_kind.
use Rattle.std.proofs.Common.{◌≡◌, ℕ, Bool, true, false, ◌&&◌, ◌||◌, List, [], ◌∷◌, map, nat_eq, refl, sym, ap, ◌∙◌, arith, if◌then◌else◌}
use Rattle.std.specs.List.{All, list_any}
use Rattle.std.proofs.lemmas.List.Elements.{All-head, All-tail}
use Rattle.std.proofs.lemmas.Bool.Decides.{nat_tests}
use Rattle.stn_model.specs.declared.ids.Constraint.{Constraint}
use Rattle.stn_model.specs.declared.ids.Kind.{Kind}
use Rattle.stn_model.specs.declared.ids.Kind.TheVariants.{Reference, Private, Shared}
use Rattle.stn_model.specs.Net.{Net, arcs_of}
use Rattle.stn_model.specs.Kinds.{is_external, names_point, is_shared, kind_of}

-- whether a kind is that of shared points
abbrev pub is_shared_kind : Kind → Bool
is_shared_kind Reference = false
is_shared_kind Private = false
is_shared_kind Shared = true

-- no external arc names z
z_unnamed : (net : Net) (a : Constraint) → (is_external net a && names_point 0 a) ≡ false
z_unnamed net a = grind (arith, nat_tests)

none_named : (net : Net) (arcs : List Constraint) → list_any (λ a. is_external net a && names_point 0 a) arcs ≡ false
none_named net [] = refl
none_named net (a ∷ arcs) = ap (λ b. b || list_any (λ x. is_external net x && names_point 0 x) arcs) (z_unnamed net a) ∙ none_named net arcs

-- z is not shared
pub z_unshared : (net : Net) → is_shared net 0 ≡ false
z_unshared net = none_named net (arcs_of net)

-- a point is shared where its kind says so
pub shared_kind : (net : Net) (p : ℕ) → is_shared_kind (kind_of net p) ≡ is_shared net p
shared_kind net p =
    elim (nat_eq p 0) as (λ b. nat_eq p 0 ≡ b → is_shared_kind (kind_of net p) ≡ is_shared net p) [
      | true ↦ λ is.
          let here : 0 ≡ p = grind (arith, nat_tests) in
          ap (λ b. is_shared_kind (if b then Reference else (if is_shared net p then Shared else Private))) is ∙ sym (z_unshared net)
          ∙ ap (is_shared net) here
      | false ↦ λ is.
          ap (λ b. is_shared_kind (if b then Reference else (if is_shared net p then Shared else Private))) is ∙ plain (is_shared net p)
    ] refl
  where
    plain : (b : Bool) → is_shared_kind (if b then Shared else Private) ≡ b
    plain true = refl
    plain false = refl

-- a point of another kind is not shared
pub unshared : (net : Net) (p : ℕ) (kind : Kind) → (kind ≡ Shared → ⊥) → kind ≡ kind_of net p → false ≡ is_shared net p
unshared net p kind other is = sym (plain kind other) ∙ ap is_shared_kind is ∙ shared_kind net p
  where
    plain : (k : Kind) → (k ≡ Shared → ⊥) → is_shared_kind k ≡ false
    plain Reference h = refl
    plain Private h = refl
    plain Shared h = absurd (h refl)

-- points of the same kinds in two networks are shared in both or in neither
pub shared_agree : (net other : Net) (points : List ℕ) → All (λ p. kind_of net p ≡ kind_of other p) points
    → map (is_shared net) points ≡ map (is_shared other) points
shared_agree net other [] h = refl
shared_agree net other (p ∷ points) h =
    let here = All-head (λ p. kind_of net p ≡ kind_of other p) p points h in
    let rest = All-tail (λ p. kind_of net p ≡ kind_of other p) p points h in
    ap (λ b. b ∷ map (is_shared net) points) (sym (shared_kind net p) ∙ ap is_shared_kind here ∙ shared_kind other p)
    ∙ ap (λ bs. is_shared other p ∷ bs) (shared_agree net other points rest)
