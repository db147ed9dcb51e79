-- Walks along paths of least bounds, and what is left of them once closed parts are dropped: IsAlong, along_starts, along_next, along_more, along_ends,
-- read_joined, read_more, read_ends, not_lighter, none_negative, pruned_weighs, proof_of.
use Rattle.std.proofs.Common.{suc, ◌≡◌, ℕ, ◌+◌, ◌-◌, ◌<◌, ◌≤◌, ℤ, pos, ◌+ℤ◌, ◌-ℤ◌, ◌≤ℤ◌, List, [], ◌∷◌, ◌++◌, length, drop, get_or, ap, sym, ◌∙◌, refl, arith, subst}
use Rattle.std.specs.Prelude.{Contains}
use Rattle.std.proofs.lemmas.Int.{ints}
use Rattle.std.proofs.lemmas.List.{drop_more, drop_all}
use Rattle.stn_model.specs.declared.ids.Constraint.{Constraint}
use Rattle.stn_model.specs.declared.ids.PointId.{PointId}
use Rattle.stn_model.specs.Joined.{IsJoined}
use Rattle.stn_model.specs.Net.{Net, arcs_of, point_count}
use Rattle.stn_model.specs.Schedules.{Satisfies, IsConsistent, IsLeastBound, time_at}
use Rattle.stn_model.specs.Walks.{IsWalk, weight, PassesNoPointTwice}
use Rattle.stn_model.proofs.WalkLemmas.{IsWalk-append, weight-append, weight_bounds, least_bound_unique}
use Rattle.stn_walk.specs.Parts.{NoPartIsNegative}
use Rattle.tri_solve.specs.declared.edge.Edge.{Edge}
use Rattle.tri_solve.specs.Edges.{ids}
use Rattle.tri_solve.specs.Trees.{Tree, dist_of, AreEdges, AreLeastFrom, StartsAt, EndsAt, GoesAlong}
use Rattle.tri_solve.proofs.Places.{ids_at, length-ids}
use Rattle.joined_answer.specs.LeastBounds.{AreLeastBounds, GoesOverLeast}
use Rattle.joined_answer.specs.LeastProofs.{IsProof}

-- a walk that has come along a path of least bounds from i to its point before place k; what is left of the path has the rest of d
pub record IsAlong (net : Net) (order : List ℕ) (i : ℕ) (d : ℤ) (path : List ℕ) (k : ℕ) (walk : List ℕ) : Type 0 where
  pub edges : List Edge
  pub bounds : AreLeastBounds net order edges
  pub begun : 1 ≤ k
  pub within : k ≤ length path
  pub done : IsWalk (arcs_of net) i (get_or path (k - 1) 0) walk
  pub rest : ℤ
  pub ahead : GoesAlong edges (drop (k - 1) path) rest
  pub sum : weight (arcs_of net) walk +ℤ rest ≡ d

pub along_starts : (net : Net) (order : List ℕ) (t : Tree) (d : ℤ) (path : List ℕ) → GoesOverLeast net order t → StartsAt t.source path
    → ((edges : List Edge) → AreEdges edges t → GoesAlong edges path d) → IsAlong net order t.source d path 1 []
along_starts net order t d [] over starts goes = absurd starts
along_starts net order t d (p ∷ path) over starts goes = record {
  edges = over.edges;
  bounds = over.bounds;
  begun = omega arith;
  within = omega arith;
  done = sym starts;
  rest = d;
  ahead = goes over.edges over.over;
  sum = omega (arith, ints);
}

-- the edge from a place of a path to the next
pub along_next : (edges : List Edge) (path : List ℕ) (k : ℕ) (d : ℤ) → k + 1 < length path → GoesAlong edges (drop k path) d
    → (b : ℤ) × Contains edges (record { from = record { 0 = get_or path k 0 }; to = record { 0 = get_or path (k + 1) 0 }; bound = b })
    × GoesAlong edges (drop (k + 1) path) (d -ℤ b)
along_next edges path k d lt goes =
    let first = drop_more path k 0 (omega arith) in
    let second = drop_more path (k + 1) 0 lt in
    let here : GoesAlong edges (get_or path k 0 ∷ get_or path (k + 1) 0 ∷ drop (k + 1 + 1) path) d =
    subst (λ (ps : List ℕ). GoesAlong edges ps d) (first ∙ ap (λ (ps : List ℕ). get_or path k 0 ∷ ps) second) goes in
    (here.0, here.1, subst (λ (ps : List ℕ). GoesAlong edges ps (d -ℤ here.0)) (sym second) here.2)

module _ (net : Net) (order : List ℕ) (i : ℕ) (d : ℤ) (path : List ℕ) where
  module _ (k : ℕ) (walk : List ℕ) (lt : k < length path) (h : IsAlong net order i d path k walk) where
    abbrev edges : List Edge
    edges = h.edges

    bounds : AreLeastBounds net order h.edges
    bounds = h.bounds

    at : (k - 1) + 1 ≡ k
    at = let low = h.begun in omega arith

    next : (b : ℤ) × Contains edges (record { from = record { 0 = get_or path (k - 1) 0 }; to = record { 0 = get_or path k 0 }; bound = b })
        × GoesAlong edges (drop k path) (h.rest -ℤ b)
    next = subst (λ (m : ℕ). (b : ℤ) × Contains edges (record { from = record { 0 = get_or path (k - 1) 0 }; to = record { 0 = get_or path m 0 }; bound = b })
        × GoesAlong edges (drop m path) (h.rest -ℤ b)) at (along_next edges path (k - 1) h.rest (omega (arith, at)) h.ahead)

    -- the pair ahead is joined
    pub along_joined : IsJoined (arcs_of net) order (get_or path (k - 1) 0) (get_or path k 0)
    along_joined = (bounds.joined (get_or path (k - 1) 0) (get_or path k 0)).0
        (record { from = record { 0 = get_or path (k - 1) 0 }; to = record { 0 = get_or path k 0 }; bound = next.0 }, next.1, refl, refl)

    -- and a walk with its least bound goes on by it
    pub along_more : (more grown : List ℕ) → grown ≡ walk ++ more → IsWalk (arcs_of net) (get_or path (k - 1) 0) (get_or path k 0) more
        → IsLeastBound (point_count net) (arcs_of net) (get_or path (k - 1) 0) (get_or path k 0) (weight (arcs_of net) more)
        → IsAlong net order i d path (k + 1) grown
    along_more more grown is goes least = subst (IsAlong net order i d path (k + 1)) (sym is) (record {
      edges = h.edges;
      bounds = h.bounds;
      begun = omega arith;
      within = omega arith;
      done = subst (λ (m : ℕ). IsWalk (arcs_of net) i (get_or path m 0) (walk ++ more)) back
          (IsWalk-append (arcs_of net) i (get_or path (k - 1) 0) (get_or path k 0) walk more h.done goes);
      rest = h.rest -ℤ next.0;
      ahead = subst (λ (m : ℕ). GoesAlong edges (drop m path) (h.rest -ℤ next.0)) back next.2;
      sum =
          let weighs = weight-append (arcs_of net) walk more in
          let same = least_bound_unique (arcs_of net) (point_count net) (get_or path (k - 1) 0) (get_or path k 0) (weight (arcs_of net) more) next.0 least
          (bounds.least (record { from = record { 0 = get_or path (k - 1) 0 }; to = record { 0 = get_or path k 0 }; bound = next.0 }) next.1) in
          let old = h.sum in
          omega (arith, ints);
    }) where
      back : k ≡ k + 1 - 1
      back = omega arith

  -- at the end of the path the walk has d
  last_of : (j : ℕ) (ps : List ℕ) → EndsAt j ps → (0 < length ps) × (get_or ps (length ps - 1) 0 ≡ j)
  last_of j [] ends = absurd ends
  last_of j (p ∷ []) ends = (omega arith, ends)
  last_of j (p ∷ q ∷ ps) ends =
      let rest = last_of j (q ∷ ps) ends in
      let e : length (p ∷ q ∷ ps) - 1 ≡ suc (length (q ∷ ps) - 1) = omega arith in
      (omega arith, ap (λ m. get_or (p ∷ q ∷ ps) m 0) e ∙ rest.1)

  pub along_ends : (j k : ℕ) (walk : List ℕ) → k ≡ length path → EndsAt j path → IsAlong net order i d path k walk
      → IsWalk (arcs_of net) i j walk × (weight (arcs_of net) walk ≡ d)
  along_ends j k walk all ends h =
      let last = last_of j path ends in
      let low = last.0 in
      let k_is : k - 1 ≡ length path - 1 = omega arith in
      let end : get_or path (k - 1) 0 ≡ j = ap (λ m. get_or path m 0) k_is ∙ last.1 in
      let after : k - 1 + 1 ≡ length path = omega arith in
      let one : drop (k - 1) path ≡ get_or path (k - 1) 0 ∷ [] = drop_more path (k - 1) 0 (omega arith)
      ∙ ap (λ (ps : List ℕ). get_or path (k - 1) 0 ∷ ps) (ap (λ m. drop m path) after ∙ drop_all (length path) path (omega arith)) in
      let rest : h.rest ≡ pos 0 = subst (λ (ps : List ℕ). GoesAlong h.edges ps h.rest) one h.ahead in
      let sum = h.sum in
      (subst (λ p. IsWalk (arcs_of net) i p walk) end h.done, omega (arith, ints))

-- the same of points that are read of a list
module _ (net : Net) (order : List ℕ) (i : ℕ) (d : ℤ) (ps : List PointId) (k : ℕ) (p q : PointId) (walk : List ℕ) (lt : k < length ps)
    (first : p ≡ get_or ps (k - 1) p) (second : q ≡ get_or ps k q) (h : IsAlong net order i d (ids ps) k walk) where
  within : k < length (ids ps)
  within = let len = length-ids ps in omega arith

  p_is : get_or (ids ps) (k - 1) 0 ≡ p.0
  p_is = ids_at ps (k - 1) p (omega arith) ∙ ap (λ (x : PointId). x.0) (sym first)

  q_is : get_or (ids ps) k 0 ≡ q.0
  q_is = ids_at ps k q lt ∙ ap (λ (x : PointId). x.0) (sym second)

  pub read_joined : IsJoined (arcs_of net) order p.0 q.0
  read_joined = subst (λ x. IsJoined (arcs_of net) order p.0 x) q_is
      (subst (λ x. IsJoined (arcs_of net) order x (get_or (ids ps) k 0)) p_is (along_joined net order i d (ids ps) k walk within h))

  pub read_more : (more grown : List ℕ) → grown ≡ walk ++ more → IsWalk (arcs_of net) p.0 q.0 more
      → IsLeastBound (point_count net) (arcs_of net) p.0 q.0 (weight (arcs_of net) more) → IsAlong net order i d (ids ps) (k + 1) grown
  read_more more grown is goes least = along_more net order i d (ids ps) k walk within h more grown is
      (subst (λ x. IsWalk (arcs_of net) x (get_or (ids ps) k 0) more) (sym p_is) (subst (λ x. IsWalk (arcs_of net) p.0 x more) (sym q_is) goes))
      (subst (λ x. IsLeastBound (point_count net) (arcs_of net) x (get_or (ids ps) k 0) (weight (arcs_of net) more)) (sym p_is)
      (subst (λ x. IsLeastBound (point_count net) (arcs_of net) p.0 x (weight (arcs_of net) more)) (sym q_is) least))

pub read_ends : (net : Net) (order : List ℕ) (i : ℕ) (d : ℤ) (ps : List PointId) (j k : ℕ) (walk : List ℕ) → length ps ≤ k → EndsAt j (ids ps)
    → IsAlong net order i d (ids ps) k walk → IsWalk (arcs_of net) i j walk × (weight (arcs_of net) walk ≡ d)
read_ends net order i d ps j k walk all ends h =
    along_ends net order i d (ids ps) j k walk (let len = length-ids ps in let high = h.within in omega arith) ends h

-- no walk is lighter than the least bound
pub not_lighter : (points : ℕ) (arcs : List Constraint) (i j : ℕ) (b : ℤ) (walk : List ℕ) → IsLeastBound points arcs i j b → IsWalk arcs i j walk
    → b ≤ℤ weight arcs walk
not_lighter points arcs i j b walk least goes =
    let above = weight_bounds arcs least.times least.satisfies.keeps i j walk goes in
    let attains = least.attains in
    omega (arith, ints)

-- where some schedule satisfies the arcs, no closed part of a walk is negative
pub none_negative : (points : ℕ) (arcs : List Constraint) (walk : List ℕ) → IsConsistent points arcs → NoPartIsNegative arcs walk
unfolding NoPartIsNegative
none_negative points arcs walk s front part back p is closed =
    let above = weight_bounds arcs s.0 s.1.keeps p p part closed in
    omega (arith, ints)

-- so a walk with the least bound weighs the same without them
pub pruned_weighs : (points : ℕ) (arcs : List Constraint) (i j : ℕ) (b : ℤ) (walk left : List ℕ) → IsConsistent points arcs
    → IsLeastBound points arcs i j b → weight arcs walk ≡ b → IsWalk arcs i j left
    → (NoPartIsNegative arcs walk → weight arcs left ≤ℤ weight arcs walk) → weight arcs left ≡ b
pruned_weighs points arcs i j b walk left s least weighs goes light =
    let low = not_lighter points arcs i j b left least goes in
    let high = light (none_negative points arcs walk s) in
    omega (arith, ints)

-- distances with a walk and the schedule that attains them show a least bound
pub proof_of : (net : Net) (t : Tree) (i j : ℕ) (bound : ℤ) (whole walk : List ℕ) (times : List ℤ) → t.source ≡ i → j < point_count net
    → AreLeastFrom net t → weight (arcs_of net) whole ≡ dist_of t j → IsWalk (arcs_of net) i j walk → PassesNoPointTwice (arcs_of net) i j walk
    → (NoPartIsNegative (arcs_of net) whole → weight (arcs_of net) walk ≤ℤ weight (arcs_of net) whole) → Satisfies (point_count net) (arcs_of net) times
    → ((p : ℕ) → p < point_count net → IsLeastBound (point_count net) (arcs_of net) t.source p (time_at times p -ℤ time_at times t.source))
    → bound ≡ dist_of t j → IsProof net i j bound walk times
proof_of net t i j bound whole walk times from lt least weighs goes simple light sat late is = record {
  least = bound_least;
  goes = goes;
  weighs = pruned_weighs (point_count net) (arcs_of net) i j bound whole walk (times, sat) bound_least (weighs ∙ sym is) goes light;
  once = simple;
  satisfies = sat;
  attains = least_bound_unique (arcs_of net) (point_count net) i j (time_at times j -ℤ time_at times i) bound (each j lt) bound_least;
  each = each;
} where
  bound_least : IsLeastBound (point_count net) (arcs_of net) i j bound
  bound_least = subst (IsLeastBound (point_count net) (arcs_of net) i j) (sym is)
      (subst (λ x. IsLeastBound (point_count net) (arcs_of net) x j (dist_of t j)) from (least.least j lt))

  each : (p : ℕ) → p < point_count net → IsLeastBound (point_count net) (arcs_of net) i p (time_at times p -ℤ time_at times i)
  each p low = subst (λ x. IsLeastBound (point_count net) (arcs_of net) x p (time_at times p -ℤ time_at times x)) from (late p low)
