-- Edges found by their ends.
use Rattle.std.proofs.Common.{◌≡◌, ℕ, Bool, true, false, List, [], ◌∷◌, Option, Some, None, ap, ◌∙◌, refl, arith, inl, inr}
use Rattle.std.specs.Prelude.{ℤ, pos, ◌==◌, ◌&&◌, Contains, if◌then◌else◌}
use Rattle.std.specs.Option.{is_some, unwrap_or}
use Rattle.std.proofs.lemmas.Bool.Decides.{nat_tests}
use Rattle.stn_walk.specs.Eliminations.{sum_of}
use Rattle.tri_solve.specs.declared.edge.Edge.{Edge}
use Rattle.tri_solve.specs.declared.label.Label.{Label}
use Rattle.tri_solve.specs.Edges.{edge_between, is_edge, bound_between}
use Rattle.tri_solve.specs.Passes.{by_way_of}
use Rattle.tri_solve.specs.Labels.{number_of, offered}
use Rattle.tri_solve.proofs.Lists.{contains_cases, contains_first, contains_rest}
use Rattle.tri_solve.proofs.Numbers.{none_is, some_is}

-- the bound between the ends of an edge is its bound, where each edge between them has that
pub edge_found : (edges : List Edge) (i j : ℕ) (e : Edge) → Contains edges e → e.from.0 ≡ i → e.to.0 ≡ j
    → ((f : Edge) → Contains edges f → f.from.0 ≡ i → f.to.0 ≡ j → f.bound ≡ e.bound) → edge_between edges i j ≡ Some e.bound
edge_found [] i j e c from to same = absurd (omega (arith, c.1))
edge_found (x ∷ edges) i j e c from to same =
    elim ((x.from.0 == i) && (x.to.0 == j)) as (λ b. ((x.from.0 == i) && (x.to.0 == j)) ≡ b → (if b then Some x.bound else edge_between edges i j) ≡ Some e.bound) [
      | true ↦ λ t.
          let one : x.from.0 ≡ i = grind (arith, nat_tests) in
          let other : x.to.0 ≡ j = grind (arith, nat_tests) in
          ap (λ (b : ℤ). Some b) (same x (contains_first x edges) one other)
      | false ↦ λ t. elim (contains_cases x e edges c) [
        | inl is ↦
            (let one : x.from.0 ≡ i = ap (λ f. f.from.0) is ∙ from in
            let other : x.to.0 ≡ j = ap (λ f. f.to.0) is ∙ to in
            absurd (grind (arith, nat_tests)))
        | inr c ↦ edge_found edges i j e c from to (λ f d. same f (contains_rest x f edges d))
      ]
    ] refl

-- an edge between two points that has the bound between them
pub record Found (edges : List Edge) (i j : ℕ) (b : ℤ) : Type 0 where
  pub edge : Edge
  pub listed : Contains edges edge
  pub from_is : edge.from.0 ≡ i
  pub to_is : edge.to.0 ≡ j
  pub bound_is : edge.bound ≡ b

pub edge_there : (edges : List Edge) (i j : ℕ) (b : ℤ) → edge_between edges i j ≡ Some b → Found edges i j b
edge_there [] i j b h = absurd (none_is b h)
edge_there (x ∷ edges) i j b h =
    (elim ((x.from.0 == i) && (x.to.0 == j)) as (λ t. ((x.from.0 == i) && (x.to.0 == j)) ≡ t → (if t then Some x.bound else edge_between edges i j) ≡ Some b → Found (x ∷ edges) i j b) [
      | true ↦ λ t h.
          let one : x.from.0 ≡ i = grind (arith, nat_tests) in
          let other : x.to.0 ≡ j = grind (arith, nat_tests) in
          record { edge = x; listed = contains_first x edges; from_is = one; to_is = other; bound_is = some_is x.bound b h }
      | false ↦ λ t h.
          let f = edge_there edges i j b h in
          record { edge = f.edge; listed = contains_rest x f.edge edges f.listed; from_is = f.from_is; to_is = f.to_is; bound_is = f.bound_is }
    ]) refl h

pub joined_found : (edges : List Edge) (i j : ℕ) → is_edge edges i j ≡ true → Found edges i j (bound_between edges i j)
joined_found edges i j h = by (edge_between edges i j) refl h where
  by : (o : Option ℤ) → edge_between edges i j ≡ o → is_some o ≡ true → Found edges i j (unwrap_or o (pos 0))
  by None e t = absurd (grind arith)
  by (Some b) e t = edge_there edges i j b e

module _ (edges : List Edge) (single : (e f : Edge) → Contains edges e → Contains edges f → e.from.0 ≡ f.from.0 → e.to.0 ≡ f.to.0 → e ≡ f) where
  pub between_is : (e : Edge) → Contains edges e → edge_between edges e.from.0 e.to.0 ≡ Some e.bound
  between_is e c =
      edge_found edges e.from.0 e.to.0 e c refl refl
      (λ f d from to. ap (λ (g : Edge). g.bound) (single f e d c from to))

  pub joined_is : (e : Edge) → Contains edges e → is_edge edges e.from.0 e.to.0 ≡ true
  joined_is e c = ap is_some (between_is e c)

  pub bound_is : (e : Edge) → Contains edges e → bound_between edges e.from.0 e.to.0 ≡ e.bound
  bound_is e c = ap (λ o. unwrap_or o (pos 0)) (between_is e c)

  -- a number by way of an edge is that of the label that its end is offered
  pub way_of_edge : (number : ℕ → Option ℤ) (e : Edge) (l : Option Label) → Contains edges e → number e.from.0 ≡ number_of l
      → by_way_of (is_edge edges) (bound_between edges) number e.to.0 e.from.0 ≡ number_of (offered l e)
  way_of_edge number e l c is =
      ap (λ (b : Bool). if b then sum_of (number e.from.0) (Some (bound_between edges e.from.0 e.to.0)) else None) (joined_is e c)
      ∙ ap (λ (o : Option ℤ). sum_of o (Some (bound_between edges e.from.0 e.to.0))) is
      ∙ ap (λ (b : ℤ). sum_of (number_of l) (Some b)) (bound_is e c)
      ∙ sum_is l where
        sum_is : (l : Option Label) → sum_of (number_of l) (Some e.bound) ≡ number_of (offered l e)
        sum_is None = refl
        sum_is (Some l) = refl
