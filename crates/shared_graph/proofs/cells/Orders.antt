-- Joined points and later neighbours of a state are those of its order.
use Rattle.std.proofs.Common.{◌≡◌, ◌≢◌, ℕ, List, true, false, not, ◌&&◌, sym, arith, subst}
use Rattle.std.specs.Prelude.{◌↔◌, ◌==◌, reverse}
use Rattle.std.proofs.lemmas.Bool.{and_parts}
use Rattle.std.proofs.lemmas.Bool.Decides.{nat_tests}
use Rattle.std.proofs.lemmas.List.{reverse-reverse}
use Rattle.stn_model.specs.Joined.{IsJoined}
use Rattle.stn_walk.specs.Eliminations.{before_both}
use Rattle.stn_walk.specs.Joins.{joined_of}
use Rattle.stn_walk.proofs.Joins.{joined-from_order, order-from_joined}
use Rattle.shared_graph.specs.Interfaces.{InterfaceView}
use Rattle.shared_graph.specs.States.{State, meeting_of}
use Rattle.shared_graph.specs.Weights.{is_joined}

pub joined_is : (face : InterfaceView) (s : State) (i j : ℕ) → (is_joined face s i j ≡ true) ↔ IsJoined (meeting_of face s) (reverse s.order) i j
joined_is face s i j = (
  λ h. (let parts = and_parts (not (i == j)) (joined_of (meeting_of face s) (before_both s.order i j) i j) h in
      let differ = parts.0 in
      let apart : i ≢ j = grind (arith, nat_tests) in
      order-from_joined (meeting_of face s) (reverse s.order) i j apart
      (subst (λ (es : List ℕ). joined_of (meeting_of face s) (before_both es i j) i j ≡ true) (sym turned) parts.1)),
  λ h. (let parts = joined-from_order (meeting_of face s) (reverse s.order) i j h in
      let apart = parts.0 in
      let differ : (i == j) ≡ false = grind (arith, nat_tests) in
      let joined : joined_of (meeting_of face s) (before_both s.order i j) i j ≡ true =
      subst (λ (es : List ℕ). joined_of (meeting_of face s) (before_both es i j) i j ≡ true) turned parts.1 in
      (λ t. not (differ t) && joined t)),
) where
  turned : reverse (reverse s.order) ≡ s.order
  turned = reverse-reverse s.order
