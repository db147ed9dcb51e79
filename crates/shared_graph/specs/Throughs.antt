-- How final weights came to be, so that least bounds can be unfolded into walks: Leaves, Arrives, CameThrough.
use Rattle.std.specs.Prelude.{◌≡◌, ◌⊎◌, ℕ, ℤ, ◌+ℤ◌, true, Some}
use Rattle.stn_walk.specs.Eliminations.{is_in}
use Rattle.shared_graph.specs.Interfaces.{InterfaceView}
use Rattle.shared_graph.specs.States.{State}
use Rattle.shared_graph.specs.Weights.{forward, is_later, final, rest_from, rest_to}

-- i is eliminated, j and m are later neighbours of it, and the final weight from i to j is the forward weight from i to m and the final weight from
-- there on, which is 0 where m is j
pub record Leaves (face : InterfaceView) (s : State) (i j m : ℕ) : Type 0 where
  pub taken : is_in s.order i ≡ true
  pub first : is_later face s i j ≡ true
  pub later : is_later face s i m ≡ true
  pub weight : ℤ
  pub forward : forward face s i m ≡ Some weight
  pub rest : ℤ
  pub onward : rest_from (final face s) j m ≡ Some rest
  pub sum : final face s i j ≡ Some (weight +ℤ rest)

-- j is eliminated, i and m are later neighbours of it, and the final weight from i to j is the final weight from i to m, which is 0 where m is i, and
-- the forward weight from there on
pub record Arrives (face : InterfaceView) (s : State) (i j m : ℕ) : Type 0 where
  pub taken : is_in s.order j ≡ true
  pub first : is_later face s j i ≡ true
  pub later : is_later face s j m ≡ true
  pub weight : ℤ
  pub forward : forward face s m j ≡ Some weight
  pub rest : ℤ
  pub onward : rest_to (final face s) i m ≡ Some rest
  pub sum : final face s i j ≡ Some (rest +ℤ weight)

-- the final weight from i to j came through m, by the revisit of the one of them that was eliminated before the other
abbrev pub CameThrough : InterfaceView → State → ℕ → ℕ → ℕ → Type 0
CameThrough face s i j m = Leaves face s i j m ⊎ Arrives face s i j m
