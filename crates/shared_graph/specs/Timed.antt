-- A state with times in the terms of decoupling_facts, and what holds of it: bound_in, setting_in, end_of, ends_in, times_in, HoldsTimes, IsNextTimed.
use Rattle.std.specs.Prelude.{◌≡◌, ℕ, ℤ, pos, Bool, true, false, reverse, is_some}
use Rattle.std.specs.Option.{unwrap_or}
use Rattle.decoupling_facts.specs.Boxes.{Ends}
use Rattle.decoupling_facts.specs.Assignments.{Setting, Assignments, Stands}
use Rattle.shared_graph.specs.declared.events.End.{End}
use Rattle.shared_graph.specs.declared.events.End.TheVariants.{Low, High}
use Rattle.shared_graph.specs.declared.events.Phase.TheVariants.{Reverse}
use Rattle.shared_graph.specs.Interfaces.{InterfaceView, is_listed}
use Rattle.shared_graph.specs.Journals.{IsDone}
use Rattle.shared_graph.specs.States.{State, meeting_of}
use Rattle.shared_graph.specs.Weights.{is_joined, is_later, final}
use Rattle.shared_graph.specs.Windows.{assigned_in, is_assigned, value_in, low_in, high_in, is_widened}

-- the final cell as a number
abbrev pub bound_in : InterfaceView → State → ℕ → ℕ → ℤ
bound_in face s i j = unwrap_or (final face s i j) (pos 0)

-- what times do not change: the meeting arcs, the order, the first one first, which points it joins and their final cells, the external arcs, and which
-- points are shared
abbrev pub setting_in : InterfaceView → State → Setting
setting_in face s = record {
  arcs = meeting_of face s;
  order = reverse s.order;
  joined = is_joined face s;
  final = bound_in face s;
  externals = face.externals;
  shared = is_listed face;
}

-- an end by whether it is the high one
abbrev pub end_of : Bool → End
end_of true = High
end_of false = Low

-- the ends of each point's box
abbrev pub ends_in : State → Ends
ends_in s = record { lo = λ p. unwrap_or (low_in s p) (pos 0); hi = λ p. unwrap_or (high_in s p) (pos 0) }

-- which points have times, which times, their boxes, and which ends were widened
abbrev pub times_in : State → Assignments
times_in s = record {
  set = is_assigned s;
  value = λ p. unwrap_or (value_in s p) (pos 0);
  ends = ends_in s;
  wide = λ w. is_widened s w.0 (end_of w.1);
}

-- only shared points get times, after all of them are revisited, and what is to stand while they do stands
pub record HoldsTimes (face : InterfaceView) (s : State) : Type 0 where
  pub listed : (k : ℕ) → is_some (assigned_in s.assigned k) ≡ true → is_listed face k ≡ true
  pub revisited : (k : ℕ) → is_some (assigned_in s.assigned k) ≡ true → IsDone face s Reverse
  pub stands : Stands (setting_in face s) (times_in s)

-- a shared point without a time, whose later neighbours have theirs, in a state in which all shared points are revisited
pub record IsNextTimed (face : InterfaceView) (s : State) (k : ℕ) : Type 0 where
  pub listed : is_listed face k ≡ true
  pub revisited : IsDone face s Reverse
  pub unset : is_assigned s k ≡ false
  pub later : (p : ℕ) → is_later face s k p ≡ true → is_assigned s p ≡ true
