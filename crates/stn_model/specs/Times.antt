-- The range of times: IsTime.
use Rattle.std.specs.Prelude.{ℤ, pos, neg_ℤ, ◌≤ℤ◌}
use Rattle.stn_model.specs.Limits.{greatest_time}

-- of magnitude at most 2^100
pub record IsTime (t : ℤ) : Type 0 where
  pub low : neg_ℤ (pos greatest_time) ≤ℤ t
  pub high : t ≤ℤ pos greatest_time
