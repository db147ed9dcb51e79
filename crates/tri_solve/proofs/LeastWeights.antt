-- Bounds that are least weights of walks obey the triangle, no two sum below 0, none is above an arc, and no closed walk is negative.
use Rattle.std.proofs.Common.{◌≡◌, ℕ, Bool, true, List, [], ◌∷◌, ◌++◌, refl, arith, subst}
use Rattle.std.specs.Prelude.{ℤ, pos, ◌+ℤ◌, ◌≤ℤ◌, Contains}
use Rattle.std.proofs.lemmas.Int.{ints}
use Rattle.stn_model.specs.declared.ids.Constraint.{Constraint}
use Rattle.stn_model.specs.ArcWalks.{IsArcWalk, arcs_weight}
use Rattle.stn_walk.proofs.ArcWalks.{arcs_weight-append}
use Rattle.stn_walk.proofs.Visits.{inner_joined}
use Rattle.stn_walk.proofs.Exits.{every}
use Rattle.tri_solve.specs.Chordal.{AreLeast}

module _ (arcs : List Constraint) (joined : ℕ → ℕ → Bool) (bound : ℕ → ℕ → ℤ) (h : AreLeast arcs joined bound) where
  -- a least walk from i to k and one from k to j make a walk from i to j
  pub triangle : (i k j : ℕ) → joined i j ≡ true → joined i k ≡ true → joined k j ≡ true → bound i j ≤ℤ (bound i k +ℤ bound k j)
  triangle i k j ij ik kj =
      let first = (h.least i k ik).0 in
      let second = (h.least k j kj).0 in
      let whole = inner_joined every arcs i k j first.0 second.0 refl first.1 second.1 in
      let low = (h.least i j ij).1 (first.0 ++ second.0) whole in
      let sum = arcs_weight-append first.0 second.0 in
      let a = first.2 in
      let b = second.2 in
      omega (arith, ints)

  -- a closed walk before a least walk would make it lighter
  pub closed : (i : ℕ) (w : List Constraint) → IsArcWalk arcs i i w → pos 0 ≤ℤ arcs_weight w
  closed i [] g = omega (arith, ints)
  closed i (a ∷ w) g =
      let e = g.2 in
      let ij : joined i a.to.0 ≡ true = subst (λ (k : ℕ). joined k a.to.0 ≡ true) e (h.ends a g.1) in
      let there = (h.least i a.to.0 ij).0 in
      let longer = inner_joined every arcs i i a.to.0 (a ∷ w) there.0 refl (g.1, g.2, g.3) there.1 in
      let low = (h.least i a.to.0 ij).1 ((a ∷ w) ++ there.0) longer in
      let sum = arcs_weight-append (a ∷ w) there.0 in
      let b = there.2 in
      omega (arith, ints)

  pub round : (i j : ℕ) → joined i j ≡ true → pos 0 ≤ℤ (bound i j +ℤ bound j i)
  round i j ij =
      let there = (h.least i j ij).0 in
      let back = (h.least j i (h.turned i j ij)).0 in
      let whole = inner_joined every arcs i j i there.0 back.0 refl there.1 back.1 in
      let longer = inner_joined every arcs i i j (there.0 ++ back.0) there.0 refl whole there.1 in
      let low = (h.least i j ij).1 ((there.0 ++ back.0) ++ there.0) longer in
      let sum = arcs_weight-append (there.0 ++ back.0) there.0 in
      let both = arcs_weight-append there.0 back.0 in
      let a = there.2 in
      let b = back.2 in
      omega (arith, ints)

  -- an arc is a walk
  pub arc : (a : Constraint) → Contains arcs a → bound a.from.0 a.to.0 ≤ℤ a.bound
  arc a c =
      let low = (h.least a.from.0 a.to.0 (h.ends a c)).1 (a ∷ []) (c, refl, refl) in
      omega (arith, ints)
