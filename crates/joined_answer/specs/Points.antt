-- Orders of all points of a network: ArePointsOf.
use Rattle.std.specs.Prelude.{◌≡◌, ◌↔◌, ℕ, ◌<◌, List, [], ◌∷◌, ◌++◌, length, Contains}
use Rattle.stn_model.specs.Net.{Net, point_count}
use Rattle.stn_model.specs.Walks.{AllDifferent}

-- the order has each point of the network once, and nothing else, with z last
pub record ArePointsOf (net : Net) (order : List ℕ) : Type 0 where
  pub once : AllDifferent order
  pub points : (p : ℕ) → (p < point_count net) ↔ Contains order p
  pub many : length order ≡ point_count net
  pub last : (rest : List ℕ) × (order ≡ rest ++ 0 ∷ [])
