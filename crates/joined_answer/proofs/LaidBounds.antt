-- The least bounds of all joined pairs are such as distances are made of: are_bounds, are_bounds_of.
use Rattle.std.proofs.Common.{◌≡◌, ℕ, ◌<◌, List, get_or, ap, sym, ◌∙◌, refl, arith, inl, inr, subst}
use Rattle.std.specs.Prelude.{◌↔◌, Contains}
use Rattle.std.proofs.lemmas.Bool.{cases_lt}
use Rattle.std.proofs.lemmas.Int.{ints}
use Rattle.std.proofs.lemmas.List.{get_or_default}
use Rattle.stn_model.specs.Joined.{IsJoined}
use Rattle.stn_model.specs.Limits.{greatest_walk}
use Rattle.stn_model.specs.Net.{Net, arcs_of, point_count}
use Rattle.stn_model.specs.Valid.{IsNetwork}
use Rattle.conflict_cycle.proofs.LeastBounds.{least_light}
use Rattle.tri_solve.specs.declared.edge.Edge.{Edge}
use Rattle.tri_solve.specs.Edges.{AreBounds, AreBoundsOf}
use Rattle.tri_solve.specs.Passes.{IsLight}
use Rattle.joined_answer.specs.LeastBounds.{IsFirst, AreLeastBounds}
use Rattle.joined_answer.specs.Points.{ArePointsOf}
use Rattle.joined_answer.proofs.BoundLists.{joined_below}

module _ (net : Net) (valid : IsNetwork net) (order : List ℕ) (edges : List Edge) (points : ArePointsOf net order) (bounds : AreLeastBounds net order edges) where
  joins : (e : Edge) → Contains edges e → IsJoined (arcs_of net) order e.from.0 e.to.0
  joins e c = (bounds.joined e.from.0 e.to.0).0 (e, c, refl, refl)

  ends : (e : Edge) → Contains edges e → (e.from.0 < point_count net) × (e.to.0 < point_count net)
  ends e c = joined_below net valid order e.from.0 e.to.0 (joins e c)

  -- an edge at an earlier place comes before
  first_at : (e f : Edge) (c : Contains edges e) (d : Contains edges f) → c.0 < d.0 → IsFirst e f
  first_at e f c d less =
      subst (IsFirst e) (get_or_default edges d.0 e f d.1 ∙ d.2)
      (subst (λ (x : Edge). IsFirst x (get_or edges d.0 e)) c.2 (bounds.rising c.0 d.0 e less d.1))

  apart : (e f : Edge) → IsFirst e f → e.from.0 ≡ f.from.0 → e.to.0 ≡ f.to.0 → ⊥
  apart e f (inl less) from to = omega arith
  apart e f (inr same) from to = (let low = same.1 in omega arith)

  once : (e f : Edge) → Contains edges e → Contains edges f → e.from.0 ≡ f.from.0 → e.to.0 ≡ f.to.0 → e ≡ f
  once e f c d from to = elim (cases_lt c.0 d.0) [
    | inl less ↦ absurd (apart e f (first_at e f c d less) from to)
    | inr past ↦ elim (cases_lt d.0 c.0) [
      | inl less ↦ absurd (apart f e (first_at f e d c less) (sym from) (sym to))
      | inr back ↦
          (let at : c.0 ≡ d.0 = omega arith in
          sym c.2 ∙ get_or_default edges c.0 e f c.1 ∙ ap (λ k. get_or edges k f) at ∙ d.2)
    ]
  ]

  light : (e : Edge) → Contains edges e → IsLight greatest_walk e.bound
  light e c =
      let in_it = ends e c in
      let low = least_light net valid e.from.0 e.to.0 in_it.0 in_it.1 e.bound (bounds.least e c) in
      (omega (arith, ints), omega (arith, ints))

  pub are_bounds : AreBounds (record { order = order; edges = edges })
  are_bounds = record {
    once = points.once;
    points = λ p. subst (λ n. (p < n) ↔ Contains order p) (sym points.many) (points.points p);
    last = points.last;
    from_in = λ e c. (let low = (ends e c).0 in let many = points.many in omega arith);
    to_in = λ e c. (let low = (ends e c).1 in let many = points.many in omega arith);
    apart = λ e c. (joins e c).different;
    single = once;
    range = light;
  }

  pub are_bounds_of : AreBoundsOf net (record { order = order; edges = edges })
  are_bounds_of = record { points = points.many; joined = bounds.joined; least = bounds.least }
