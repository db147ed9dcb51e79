-- Final bounds, the least bounds between joined points of an elimination order (minimal networks: Dechter, Meiri and Pearl 1991), over any list
-- of arcs: AreFinals, KeepsFinals, ObeyTriangle, and the laws FinalsObeyTriangle, CellsAreFinals.
use Rattle.std.specs.Prelude.{◌≡◌, ℕ, Bool, true, ℤ, pos, ◌+ℤ◌, ◌-ℤ◌, ◌≤ℤ◌, List, Option, Some, is_some, Contains}
use Rattle.std.specs.Option.{unwrap_or}
use Rattle.stn_model.specs.declared.ids.Constraint.{Constraint}
use Rattle.stn_model.specs.ArcWalks.{IsInnerLeast}

-- joined points are joined in both directions, the ends of each arc are joined, and the final bound from i to j is the least weight of all walks
-- between them
pub record AreFinals (arcs : List Constraint) (joined : ℕ → ℕ → Bool) (final : ℕ → ℕ → ℤ) : Type 0 where
  pub turned : (i j : ℕ) → joined i j ≡ true → joined j i ≡ true
  pub ends : (a : Constraint) → Contains arcs a → joined a.from.0 a.to.0 ≡ true
  pub least : (i j : ℕ) → joined i j ≡ true → IsInnerLeast (λ _. true) arcs i j (Some (final i j))

-- the times of some points keep the final bounds: from i to j, joined points that have times, lies at most the final bound
abbrev pub KeepsFinals : (ℕ → ℕ → Bool) → (ℕ → ℕ → ℤ) → (ℕ → Bool) → (ℕ → ℤ) → Type 0
KeepsFinals joined final is_set value =
    (i j : ℕ) → is_set i ≡ true → is_set j ≡ true → joined i j ≡ true → (value j -ℤ value i) ≤ℤ final i j

-- final bounds obey the triangle, those there and back do not sum below 0, and none is above an arc
pub record ObeyTriangle (arcs : List Constraint) (joined : ℕ → ℕ → Bool) (final : ℕ → ℕ → ℤ) : Type 0 where
  pub triangle : (i k j : ℕ) → joined i j ≡ true → joined i k ≡ true → joined k j ≡ true → final i j ≤ℤ (final i k +ℤ final k j)
  pub round : (i j : ℕ) → joined i j ≡ true → pos 0 ≤ℤ (final i j +ℤ final j i)
  pub arc : (a : Constraint) → Contains arcs a → final a.from.0 a.to.0 ≤ℤ a.bound

abbrev pub FinalsObeyTriangle : Type 0
FinalsObeyTriangle =
    (arcs : List Constraint) (joined : ℕ → ℕ → Bool) (final : ℕ → ℕ → ℤ) → AreFinals arcs joined final → ObeyTriangle arcs joined final

-- cells that are least weights of all walks where they are there, in both directions and for the ends of each arc, hold final bounds
abbrev pub CellsAreFinals : Type 0
CellsAreFinals =
    (arcs : List Constraint) (cell : ℕ → ℕ → Option ℤ)
    → ((i j : ℕ) → is_some (cell i j) ≡ true → is_some (cell j i) ≡ true)
    → ((a : Constraint) → Contains arcs a → is_some (cell a.from.0 a.to.0) ≡ true)
    → ((i j : ℕ) → is_some (cell i j) ≡ true → IsInnerLeast (λ _. true) arcs i j (cell i j))
    → AreFinals arcs (λ i j. is_some (cell i j)) (λ i j. unwrap_or (cell i j) (pos 0))
