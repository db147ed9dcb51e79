-- The keys that a picker gives the points at places: left_at, HasKey, IsKeyed, AreKeyed.
use Rattle.std.specs.Prelude.{◌≡◌, ℕ, List, Bool, true, false, ◌&&◌, not, Option, Some, None}
use Rattle.stn_walk.specs.Eliminations.{is_in}
use Rattle.elim_step.specs.Eliminated.{point_at}
use Rattle.private_elim.specs.Locals.{LocalView, private_at}
use Rattle.private_elim.specs.Picked.{IsDegree}

-- whether the point at a place is private and not taken
abbrev pub left_at : LocalView → List ℕ → ℕ → Bool
left_at v taken p = private_at v p && not (is_in taken (point_at v.points p))

-- the key is an answer on the degree and the number of the point at a place
pub record HasKey (answers : ℕ → ℕ → ℕ → Type 0) (v : LocalView) (taken : List ℕ) (p key : ℕ) : Type 0 where
  pub degree : ℕ
  pub is_degree : IsDegree v taken (point_at v.points p) degree
  pub answer : answers degree (point_at v.points p) key

-- there is a key exactly where the point at the place is private and not taken
abbrev pub IsKeyed : (ℕ → ℕ → ℕ → Type 0) → LocalView → List ℕ → ℕ → Option ℕ → Type 0
IsKeyed answers v taken p None = left_at v taken p ≡ false
IsKeyed answers v taken p (Some key) = (left_at v taken p ≡ true) × HasKey answers v taken p key

abbrev pub AreKeyed : (ℕ → ℕ → ℕ → Type 0) → LocalView → List ℕ → (ℕ → Option ℕ) → Type 0
AreKeyed answers v taken keys = (p : ℕ) → IsKeyed answers v taken p (keys p)
