-- Parts of walks: AreInRange, IsRepeat, NoPartIsNegative.
use Rattle.std.specs.Prelude.{◌≡◌, ℕ, ◌<◌, pos, ◌≤ℤ◌, List, ◌++◌, length, slice_index}
use Rattle.std.specs.List.{All}
use Rattle.stn_model.specs.declared.ids.Constraint.{Constraint}
use Rattle.stn_model.specs.Walks.{IsWalk, weight}

-- each is the number of an arc
abbrev pub AreInRange : List Constraint → List ℕ → Type 0
AreInRange arcs ns = All (λ n. n < length arcs) ns

-- the list has the same number at both places
pub record IsRepeat (xs : List ℕ) (i j : ℕ) : Type 0 where
  pub ordered : i < j
  pub within : j < length xs
  pub same : slice_index xs i ≡ slice_index xs j

-- each part of the list that is a closed walk weighs at least 0
unfoldable pub NoPartIsNegative : List Constraint → List ℕ → Type 0
NoPartIsNegative arcs ns =
    (front part back : List ℕ) (p : ℕ) → ns ≡ front ++ part ++ back → IsWalk arcs p p part → pos 0 ≤ℤ weight arcs part
