-- Walks round withdrawn arcs: IsWithdrawn, Avoids, AreFlagsOf, to_z, from_z, detour.
use Rattle.std.specs.Prelude.{◌≡◌, ℕ, ◌-◌, ◌*◌, Bool, true, false, IsTrue, List, [], ◌∷◌, ◌++◌, length, slice_index_or, nat_eq, if◌then◌else◌}
use Rattle.std.specs.List.{All, Contains}
use Rattle.stn_model.specs.Arcs.{bound_at}
use Rattle.stn_model.specs.Net.{Net, arcs_of, is_given}

-- a given arc whose bound is the horizon: the arcs of its ends with z say as much
abbrev pub IsWithdrawn : Net → ℕ → Type 0
IsWithdrawn net n = IsTrue (is_given net n) × (bound_at (arcs_of net) n ≡ net.horizon)

-- none of the numbers is listed
abbrev pub Avoids : List ℕ → List ℕ → Type 0
Avoids listed ns = All (λ n. Contains listed n → ⊥) ns

-- a flag for each number below the count, true for the listed ones
pub record AreFlagsOf (count : ℕ) (listed : List ℕ) (flags : List Bool) : Type 0 where
  pub size : length flags ≡ count
  pub set : All (λ n. slice_index_or flags n false ≡ true) listed
  pub alone : (n : ℕ) → slice_index_or flags n false ≡ true → Contains listed n

-- a point's own arc to z; z needs none
abbrev pub to_z : ℕ → List ℕ
to_z i = if nat_eq i 0 then [] else (2 * i - 1) ∷ []

-- a point's own arc from z
abbrev pub from_z : ℕ → List ℕ
from_z j = if nat_eq j 0 then [] else (2 * j - 2) ∷ []

-- the way from a point to z and on to another point
abbrev pub detour : ℕ → ℕ → List ℕ
detour i j = to_z i ++ from_z j
