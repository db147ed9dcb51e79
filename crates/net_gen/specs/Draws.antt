-- The sequence of draws of a number: value_after, drawn, DrawState.
use Rattle.std.specs.Prelude.{ℕ, zero, suc, ◌+◌, ◌*◌, ◌%◌}

-- the value after k draws
unfoldable pub value_after : ℕ → ℕ → ℕ
value_after number zero = number + 1
value_after number (suc k) = 48271 * value_after number k % 2147483647

-- draw k of the number, counted from 1: what its value leaves on division by the limit
abbrev pub drawn : ℕ → ℕ → ℕ → ℕ
drawn number k below = value_after number k % below

-- the draws of a number after some of them
pub record DrawState : Type 0 where
  pub number : ℕ
  pub count : ℕ
