-- What contracts see of a source and a sink in memory.
--     MemSourceState, MemSinkState       the bytes, the piece, the calls that fail, the calls made, the count of faults
--     source_state, sink_state   the same, as those who call any source or sink see it
--     given_count s n            how many bytes a read gives into room for n
--     taken_count s n            how many of n bytes a write takes
--     after_read, after_write    the state after a call that gave or took n bytes
--     after_failed_read, after_failed_write      the state after a call that failed
use Rattle.std.specs.Prelude.{ℕ, ◌-◌, min, List, ◌++◌, length, take, drop, Some}
use Rattle.stn_io.specs.Causes.{one_more}
use Rattle.stn_io.specs.States.{SourceState, SinkState}

-- a source in memory; `calls` and `faults` stop at the last value of a u64
pub record MemSourceState : Type 0 where
  pub left : List ℕ
  pub piece : ℕ
  pub failing : List ℕ
  pub calls : ℕ
  pub faults : ℕ

-- a sink in memory, with the number of bytes for which it has room left
pub record MemSinkState : Type 0 where
  pub taken : List ℕ
  pub room : ℕ
  pub piece : ℕ
  pub failing : List ℕ
  pub calls : ℕ
  pub faults : ℕ

-- what is left is told
abbrev pub source_state : MemSourceState → SourceState
source_state s = record { left = Some s.left; faults = s.faults }

-- what was taken is told
abbrev pub sink_state : MemSinkState → SinkState
sink_state s = record { taken = Some s.taken; faults = s.faults }

-- the least of the piece, the room handed in and the bytes left
abbrev pub given_count : MemSourceState → ℕ → ℕ
given_count s n = min (min s.piece n) (length s.left)

-- n bytes were given
abbrev pub after_read : MemSourceState → ℕ → MemSourceState
after_read s n = record s { left = drop n s.left; calls = one_more s.calls }

-- the call was counted, and its fault
abbrev pub after_failed_read : MemSourceState → MemSourceState
after_failed_read s = record s { calls = one_more s.calls; faults = one_more s.faults }

-- the least of the piece, the bytes handed in and the room left
abbrev pub taken_count : MemSinkState → ℕ → ℕ
taken_count s n = min (min s.piece n) s.room

-- the first n of the bytes were taken
abbrev pub after_write : MemSinkState → List ℕ → ℕ → MemSinkState
after_write s bytes n =
    record s { taken = s.taken ++ take n bytes; room = s.room - n; calls = one_more s.calls }

-- the call was counted, and its fault
abbrev pub after_failed_write : MemSinkState → MemSinkState
after_failed_write s = record s { calls = one_more s.calls; faults = one_more s.faults }
