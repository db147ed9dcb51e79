-- Final bounds are least weights of walks, so walks put together show the triangle, and a closed walk below 0 would leave no least one:
-- finals_obey, cells_final.
use Rattle.std.proofs.Common.{◌≡◌, ℕ, Bool, true, List, [], ◌∷◌, ◌++◌, Some, refl, arith, Option, None, is_some}
use Rattle.std.specs.Prelude.{ℤ, pos, ◌+ℤ◌, ◌≤ℤ◌, Contains}
use Rattle.std.proofs.lemmas.Int.{ints}
use Rattle.std.proofs.lemmas.Bool.{false≢true}
use Rattle.std.specs.Option.{unwrap_or}
use Rattle.stn_model.specs.declared.ids.Constraint.{Constraint}
use Rattle.stn_model.specs.ArcWalks.{IsInnerLeast}
use Rattle.stn_walk.proofs.ArcWalks.{arcs_weight-append}
use Rattle.stn_walk.proofs.Visits.{inner_joined}
use Rattle.stn_walk.proofs.Exits.{every}
use Rattle.decoupling_facts.specs.FinalBounds.{AreFinals, ObeyTriangle}

module _ (arcs : List Constraint) (joined : ℕ → ℕ → Bool) (final : ℕ → ℕ → ℤ) (h : AreFinals arcs joined final) where
  -- a least walk from i to k and one from k to j make a walk from i to j
  triangle : (i k j : ℕ) → joined i j ≡ true → joined i k ≡ true → joined k j ≡ true → final i j ≤ℤ (final i k +ℤ final k j)
  triangle i k j ij ik kj =
      let first = (h.least i k ik).0 in
      let second = (h.least k j kj).0 in
      let whole = inner_joined every arcs i k j first.0 second.0 refl first.1 second.1 in
      let low = (h.least i j ij).1 (first.0 ++ second.0) whole in
      let sum = arcs_weight-append first.0 second.0 in
      let a = first.2 in
      let b = second.2 in
      omega (arith, ints)

  -- a closed walk below 0 put before the least walk from i to j would make it lighter
  round : (i j : ℕ) → joined i j ≡ true → pos 0 ≤ℤ (final i j +ℤ final j i)
  round i j ij =
      let there = (h.least i j ij).0 in
      let back = (h.least j i (h.turned i j ij)).0 in
      let closed = inner_joined every arcs i j i there.0 back.0 refl there.1 back.1 in
      let longer = inner_joined every arcs i i j (there.0 ++ back.0) there.0 refl closed there.1 in
      let low = (h.least i j ij).1 ((there.0 ++ back.0) ++ there.0) longer in
      let sum = arcs_weight-append (there.0 ++ back.0) there.0 in
      let both = arcs_weight-append there.0 back.0 in
      let a = there.2 in
      let b = back.2 in
      omega (arith, ints)

  -- an arc is a walk
  arc : (a : Constraint) → Contains arcs a → final a.from.0 a.to.0 ≤ℤ a.bound
  arc a c =
      let low = (h.least a.from.0 a.to.0 (h.ends a c)).1 (a ∷ []) (c, refl, refl) in
      omega (arith, ints)

  pub finals_obey : ObeyTriangle arcs joined final
  finals_obey = record { triangle = triangle; round = round; arc = arc }

-- final bounds from cells
pub cells_final : (arcs : List Constraint) (cell : ℕ → ℕ → Option ℤ)
    → ((i j : ℕ) → is_some (cell i j) ≡ true → is_some (cell j i) ≡ true)
    → ((a : Constraint) → Contains arcs a → is_some (cell a.from.0 a.to.0) ≡ true)
    → ((i j : ℕ) → is_some (cell i j) ≡ true → IsInnerLeast every arcs i j (cell i j))
    → AreFinals arcs (λ i j. is_some (cell i j)) (λ i j. unwrap_or (cell i j) (pos 0))
cells_final arcs cell turned ends least = record {
  turned = turned;
  ends = ends;
  least = λ i j t. there i j (cell i j) t (least i j t);
} where
  there : (i j : ℕ) (o : Option ℤ) → is_some o ≡ true → IsInnerLeast every arcs i j o → IsInnerLeast every arcs i j (Some (unwrap_or o (pos 0)))
  there i j None t h = absurd (false≢true t)
  there i j (Some b) t h = h
