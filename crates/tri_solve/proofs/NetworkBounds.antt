-- The edges of a network's joined pairs are chordal, and their bounds least weights.
use Rattle.std.proofs.Common.{◌≡◌, ◌≢◌, ℕ, ◌+◌, ◌-◌, ◌*◌, ◌<◌, Bool, true, [], ap, ◌∙◌, arith, inl, subst}
use Rattle.std.specs.Prelude.{◌↔◌, Contains}
use Rattle.std.proofs.lemmas.List.{get_or_default}
use Rattle.stn_model.specs.declared.ids.Constraint.{Constraint}
use Rattle.stn_model.specs.Arcs.{arc_at, no_arc}
use Rattle.stn_model.specs.Joined.{HasEdge, IsJoined}
use Rattle.stn_model.specs.Net.{Net, point_count, arcs_of}
use Rattle.stn_model.specs.Schedules.{IsLeastBound}
use Rattle.stn_model.specs.Valid.{IsNetwork}
use Rattle.stn_model.proofs.ArcLemmas.{arc_odd, arcs_within}
use Rattle.stn_model.proofs.Bridges.{arc_contained}
use Rattle.stn_model.proofs.NetLemmas.{length-arcs_of}
use Rattle.stn_walk.proofs.Distances.{network_ends}
use Rattle.tri_solve.specs.Chordal.{IsChordal, AreLeast}
use Rattle.tri_solve.specs.Edges.{Bounds, AreBounds, AreBoundsOf, is_edge, bound_between}
use Rattle.tri_solve.proofs.EdgeBounds.{joined_found, joined_is}
use Rattle.tri_solve.proofs.Neighbours.{chordal, bounds_least}

module _ (net : Net) (valid : IsNetwork net) (b : Bounds) (are : AreBounds b) (of : AreBoundsOf net b) where
  abbrev joined : ℕ → ℕ → Bool
  joined = is_edge b.edges

  pub tests : (i j : ℕ) → (is_edge b.edges i j ≡ true) ↔ IsJoined (arcs_of net) b.order i j
  tests i j = (
    (λ t. let f = joined_found b.edges i j t in (of.joined i j).0 (f.edge, f.listed, f.from_is, f.to_is)),
    (λ h.
        let f = (of.joined i j).1 h in
        subst (λ (p : ℕ). is_edge b.edges i p ≡ true) f.3 (subst (λ (p : ℕ). is_edge b.edges p f.0.to.0 ≡ true) f.2 (joined_is b.edges are.single f.0 f.1))),
  )

  pub each_least : (i j : ℕ) → is_edge b.edges i j ≡ true → IsLeastBound (point_count net) (arcs_of net) i j (bound_between b.edges i j)
  each_least i j t =
      let f = joined_found b.edges i j t in
      subst (IsLeastBound (point_count net) (arcs_of net) i j) f.bound_is
      (subst (λ (p : ℕ). IsLeastBound (point_count net) (arcs_of net) i p f.edge.bound) f.to_is
      (subst (λ (p : ℕ). IsLeastBound (point_count net) (arcs_of net) p f.edge.to.0 f.edge.bound) f.from_is (of.least f.edge f.listed)))

  pub arcs_apart : (a : Constraint) → Contains (arcs_of net) a → a.from.0 ≢ a.to.0
  arcs_apart a c =
      let is : arc_at (arcs_of net) c.0 ≡ a = get_or_default (arcs_of net) c.0 no_arc a c.1 ∙ c.2 in
      subst (λ (x : Constraint). x.from.0 ≢ x.to.0) is (arcs_within net valid c.0 c.1).different

  pub listed : (p : ℕ) → (p < point_count net) ↔ Contains b.order p
  listed p = subst (λ (n : ℕ). (p < n) ↔ Contains b.order p) of.points (are.points p)

  -- each point has an arc to z
  pub edge_to_zero : (p : ℕ) → p < point_count net → p ≢ 0 → HasEdge (arcs_of net) p 0
  edge_to_zero p lt ne =
      let lower = arc_odd net (2 * (p - 1) + 1) (omega arith) (omega arith) in
      let many = length-arcs_of net in (
        arc_at (arcs_of net) (2 * (p - 1) + 1),
        arc_contained (arcs_of net) (2 * (p - 1) + 1) (omega arith),
        inl ((let from = ap (λ (a : Constraint). a.from.0) lower in omega arith), ap (λ (a : Constraint). a.to.0) lower),
      )

  pub least_weights : AreLeast (arcs_of net) (is_edge b.edges) (bound_between b.edges)
  least_weights = bounds_least (arcs_of net) b.order (is_edge b.edges) tests (point_count net) (bound_between b.edges) arcs_apart each_least

  pub is_chordal : IsChordal (is_edge b.edges) b.order
  is_chordal =
      chordal (arcs_of net) b.order (is_edge b.edges) tests are.once
      (λ a c. ((listed a.from.0).0 (network_ends net valid a c).0, (listed a.to.0).0 (network_ends net valid a c).1))

  pub joined_to_zero : (p : ℕ) → Contains b.order p → p ≢ 0 → is_edge b.edges p 0 ≡ true
  joined_to_zero p c ne =
      (tests p 0).1 (record { different = ne; inner = []; path = edge_to_zero p ((listed p).1 c) ne; before = tt })
