-- Marked places: IsMarked.
use Rattle.std.specs.Prelude.{◌≡◌, ℕ, ◌+◌, ◌-◌, ◌<◌, ◌≤◌, List, length, slice_index}

-- by point its place in the list, counted from 1, and 0 where the list does not have it; so no point stands twice in the list
pub record IsMarked (points places : List ℕ) : Type 0 where
  pub place : (k : ℕ) → k < length points → slice_index places (slice_index points k) ≡ k + 1
  pub point : (p : ℕ) → 0 < slice_index places p → (slice_index places p ≤ length points) × (slice_index points (slice_index places p - 1) ≡ p)
