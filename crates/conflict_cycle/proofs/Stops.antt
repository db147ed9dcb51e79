-- What a stop shows: two forward weights that sum below 0, and so walks with such weights are closed and negative: Opposite,
-- opposite_of, opposite_over, is_some_there, is_some_back, closed_told.
use Rattle.std.proofs.Common.{◌≡◌, ◌≢◌, ℕ, List, [], ◌∷◌, true, ◌&&◌, not, Option, Some, None, ap, sym, ◌∙◌, refl, arith, subst}
use Rattle.std.specs.Prelude.{ℤ, pos, ◌+ℤ◌, ◌<ℤ◌, ◌==◌, int_lt, is_some, IfSome}
use Rattle.std.proofs.lemmas.Bool.{and_parts, not-true, false≢true}
use Rattle.std.proofs.lemmas.Bool.Decides.{nat_tests}
use Rattle.std.proofs.lemmas.Int.{ints}
use Rattle.stn_walk.specs.Eliminations.{is_in}
use Rattle.stn_model.specs.Net.{Net, arcs_of}
use Rattle.stn_model.specs.Walks.{IsNegativeClosed}
use Rattle.shared_graph.specs.Histories.{SharedView}
use Rattle.shared_graph.specs.Interfaces.{InterfaceView, points_of, interface_of}
use Rattle.shared_graph.specs.States.{State}
use Rattle.shared_graph.specs.Together.{HoldsTogether}
use Rattle.shared_graph.specs.Weights.{forward, is_negative, sums_below}
use Rattle.shared_graph.specs.declared.events.SharedCycle.{SharedCycle}
use Rattle.shared_graph.proofs.states.Passing.{passing_some}
use Rattle.conflict_cycle.specs.Belongs.{Whole, IsOver, IsLegWalk}
use Rattle.conflict_cycle.proofs.LegWalks.{closed_of}

-- weights between two different points, there and back, that sum below 0
pub record Opposite (face : InterfaceView) (s : State) (i j : ℕ) : Type 0 where
  pub there : ℤ
  pub back : ℤ
  pub apart : i ≢ j
  pub is_there : forward face s i j ≡ Some there
  pub is_back : forward face s j i ≡ Some back
  pub below : (there +ℤ back) <ℤ pos 0

below_of : (face : InterfaceView) (s : State) (i j : ℕ) (a b : Option ℤ) → i ≢ j → forward face s i j ≡ a → forward face s j i ≡ b
    → sums_below a b ≡ true → Opposite face s i j
below_of face s i j None b apart x y h = absurd (cc)
below_of face s i j (Some v) None apart x y h = absurd (cc)
below_of face s i j (Some v) (Some w) apart x y h =
    let less : int_lt (v +ℤ w) (pos 0) ≡ true = h in
    record { there = v; back = w; apart = apart; is_there = x; is_back = y; below = omega (arith, ints) }

pub opposite_of : (face : InterfaceView) (s : State) → HoldsTogether face s → (cycle : SharedCycle) → s.stop ≡ Some cycle
    → Opposite face s cycle.point.0 cycle.other.0
opposite_of face s together cycle stop =
    let i = cycle.point.0 in
    let j = cycle.other.0 in
    let bad : is_negative face s i j ≡ true = passing_some (is_negative face s i) (0 ∷ points_of face) j (together.stops cycle stop).least in
    let parts = and_parts (not (is_in s.order j) && not (j == i)) (sums_below (forward face s i j) (forward face s j i)) bad in
    let differ = not-true (j == i) (and_parts (not (is_in s.order j)) (not (j == i)) parts.0).1 in
    below_of face s i j (forward face s i j) (forward face s j i) (λ e. let same : (j == i) ≡ true = grind (arith, nat_tests) in false≢true (sym differ ∙ same))
    refl refl parts.1

-- the same by the names of the whole
pub opposite_over : (whole : Whole) (v : SharedView) → IsOver whole v → HoldsTogether v.face v.state → (cycle : SharedCycle)
    → whole.state.stop ≡ Some cycle → Opposite (interface_of whole.net) whole.state cycle.point.0 cycle.other.0
opposite_over whole v over together cycle stop =
    opposite_of (interface_of whole.net) whole.state
    (subst (HoldsTogether (interface_of whole.net)) over.1 (subst (λ f. HoldsTogether f v.state) over.0 together)) cycle stop

module _ (face : InterfaceView) (s : State) (i j : ℕ) (h : Opposite face s i j) where
  pub is_some_there : is_some (forward face s i j) ≡ true
  is_some_there = ap is_some h.is_there

  pub is_some_back : is_some (forward face s j i) ≡ true
  is_some_back = ap is_some h.is_back

  -- walks of these weights there and back
  pub closed_told : (net : Net) (old middle new : List ℕ) → old ≡ [] → IfSome (forward face s i j) (λ w. IsLegWalk net i j w old middle)
      → IfSome (forward face s j i) (λ w. IsLegWalk net j i w middle new) → IsNegativeClosed (arcs_of net) new
  closed_told net old middle new none p q =
      closed_of net i j h.there h.back middle new
      (subst (λ xs. IsLegWalk net i j h.there xs middle) none (subst (λ (o : Option ℤ). IfSome o (λ w. IsLegWalk net i j w old middle)) h.is_there p))
      (subst (λ (o : Option ℤ). IfSome o (λ w. IsLegWalk net j i w middle new)) h.is_back q) h.below
