-- What is true of every state that entries lead to: IsAllPublished, IsWhole, IsOwned, IsStop, HasFinal, HoldsTogether.
use Rattle.std.specs.Prelude.{◌≡◌, ℕ, ℤ, ◌<◌, true, false, length, Some, Contains}
use Rattle.stn_model.specs.ArcWalks.{IsInnerLeast, NoNegative}
use Rattle.stn_walk.specs.Eliminations.{is_in, before_both}
use Rattle.shared_graph.specs.declared.events.SharedCycle.{SharedCycle}
use Rattle.shared_graph.specs.Interfaces.{InterfaceView, owner_in, is_listed, IsFitting}
use Rattle.shared_graph.specs.States.{State, Published, is_published, is_revisited, meeting_of}
use Rattle.shared_graph.specs.Weights.{forward, is_joined, is_later, final, least_negative}

-- every agent is published
abbrev pub IsAllPublished : InterfaceView → State → Type 0
IsAllPublished face s = (a : ℕ) → a < length face.leans → is_published s a ≡ true

-- every shared point is eliminated
abbrev pub IsWhole : InterfaceView → State → Type 0
IsWhole face s = (p : ℕ) → is_listed face p ≡ true → is_in s.order p ≡ true

-- the owner of a shared point is published
abbrev pub IsOwned : InterfaceView → State → ℕ → Type 0
IsOwned face s k = (a : ℕ) × (owner_in face k ≡ Some a) × (is_published s a ≡ true)

-- a point that is not eliminated, whose owner is published, and the least other such that the two cells sum below 0
pub record IsStop (face : InterfaceView) (s : State) (t : SharedCycle) : Type 0 where
  pub owned : IsOwned face s t.point.0
  pub outside : is_in s.order t.point.0 ≡ false
  pub least : least_negative face s t.point.0 ≡ Some t.other.0
  pub unvisited : (p : ℕ) → is_in s.revisited p ≡ false

-- all is ready for a point to be revisited but for its own tests
pub record IsRevisit (face : InterfaceView) (s : State) (k : ℕ) : Type 0 where
  pub listed : is_listed face k ≡ true
  pub all_published : IsAllPublished face s
  pub whole : IsWhole face s
  pub later : (p : ℕ) → is_later face s k p ≡ true → is_revisited s p ≡ true

-- a final cell is there, and is the least weight of all walks
abbrev pub HasFinal : InterfaceView → State → ℕ → ℕ → Type 0
HasFinal face s i j = (b : ℤ) × (final face s i j ≡ Some b) × IsInnerLeast (λ _. true) (meeting_of face s) i j (Some b)

-- the cells are inner least weights, no closed walk through eliminated points is negative, owners are published before their points are
-- eliminated, and all is eliminated before a point is revisited; final cells are least weights of all walks; a stop shows two cells below 0
pub record HoldsTogether (face : InterfaceView) (s : State) : Type 0 where
  pub cells : (i j : ℕ) → IsInnerLeast (is_in (before_both s.order i j)) (meeting_of face s) i j (forward face s i j)
  pub none_below : NoNegative (is_in s.order) (meeting_of face s)
  pub owned : (k : ℕ) → is_in s.order k ≡ true → IsOwned face s k
  pub revisits : (k : ℕ) → is_in s.revisited k ≡ true → IsRevisit face s k
  pub finals : (i j : ℕ) → is_joined face s i j ≡ true → is_revisited s i ≡ true → is_revisited s j ≡ true → HasFinal face s i j
  pub stops : (t : SharedCycle) → s.stop ≡ Some t → IsStop face s t
  pub fitting : (p : Published) → Contains s.published p → IsFitting face p.agent p.entries
