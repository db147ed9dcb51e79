-- The least point above another that passes a test: IsNext, lesser_of, HasPrivate.
use Rattle.std.specs.Prelude.{◌≡◌, ℕ, ◌<◌, nat_lt, List, true, Option, Some, None, is_some, slice_get, if◌then◌else◌}
use Rattle.dist_rows.specs.Cells.{IsAbove}
use Rattle.private_elim.specs.Backs.{BoundsView, bound_between}

-- the least point above a point, or of all where there is none, that passes; none where no point above passes
abbrev pub IsNext : (ℕ → Type 0) → Option ℕ → Option ℕ → Type 0
IsNext passes after None = (q : ℕ) → IsAbove q after → passes q → ⊥
IsNext passes after (Some p) = IsAbove p after × passes p × ((q : ℕ) → q < p → IsAbove q after → passes q → ⊥)

-- the lesser of two points, or the one that is there
abbrev pub lesser_of : Option ℕ → Option ℕ → Option ℕ
lesser_of None o = o
lesser_of (Some p) None = Some p
lesser_of (Some p) (Some q) = if nat_lt q p then Some q else Some p

-- some back sweep has a bound from i to a point
abbrev pub HasPrivate : List BoundsView → ℕ → ℕ → Type 0
HasPrivate bounds i q = (a : ℕ) × (v : BoundsView) × (slice_get bounds a ≡ Some v) × (is_some (bound_between v i q) ≡ true)
