-- What contracts see of any source and any sink.
--     SourceState    what is left, where it is known, and the count of faults
--     SinkState      what was taken, where it is known, and the count of faults
use Rattle.std.specs.Prelude.{ℕ, List, Option}

-- the bytes that are left, where they are known, and how often a call has failed
pub record SourceState : Type 0 where
  pub left : Option (List ℕ)
  pub faults : ℕ

-- the bytes that were taken, where they are known, and how often a call has failed
pub record SinkState : Type 0 where
  pub taken : Option (List ℕ)
  pub faults : ℕ
