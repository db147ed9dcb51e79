-- One flag for each point from 1 on, whether an external arc names it: AreFlags, AreEnds, marked.
use Rattle.std.specs.Prelude.{◌≡◌, ℕ, ◌+◌, ◌-◌, ◌<◌, ◌≤◌, Bool, true, false, ◌&&◌, List, length, slice_index_or, set, if◌then◌else◌}
use Rattle.std.specs.List.{list_any}
use Rattle.stn_model.specs.Net.{Net}
use Rattle.stn_model.specs.Kinds.{is_external, names_point}

-- the flags of a network: those of given arcs, since an arc with z is never external
pub record AreFlags (net : Net) (flags : List Bool) : Type 0 where
  pub one_each : length flags ≡ length net.places
  pub each : (k : ℕ) → k < length flags → slice_index_or flags k false ≡ list_any (λ a. is_external net a && names_point (k + 1) a) net.given

-- both points have a flag
pub record AreEnds (count from to : ℕ) : Type 0 where
  pub from_low : 0 < from
  pub from_high : from ≤ count
  pub to_low : 0 < to
  pub to_high : to ≤ count

-- the flags after an arc between the two points, which is external or not
abbrev pub marked : Bool → ℕ → ℕ → List Bool → List Bool
marked external from to flags = if external then set (set flags (from - 1) true) (to - 1) true else flags
