-- The times of assigned points, the window in which the next one is chosen, and how its ends are widened: assigned_in, is_assigned, value_in, low_in,
-- high_in, is_widened, negated, window_low, window_high, half_down, chosen, lean_in, kept_value, widest_high, widest_low, widened.
use Rattle.std.specs.Prelude.{ℕ, ℤ, pos, neg_ℤ, Bool, true, false, ◌||◌, ◌==◌, List, [], ◌∷◌, slice_index_or, Option, Some, None, is_some, if◌then◌else◌}
use Rattle.std.specs.Option.{option_map, unwrap_or}
use Rattle.std.specs.Int.{int_div_euclid}
use Rattle.stn_model.specs.declared.ids.Constraint.{Constraint}
use Rattle.stn_model.specs.declared.ids.Lean.{Lean}
use Rattle.stn_model.specs.declared.ids.Lean.TheVariants.{Early, Late, Middle}
use Rattle.stn_walk.specs.Eliminations.{lesser, sum_of}
use Rattle.shared_graph.specs.declared.events.End.{End}
use Rattle.shared_graph.specs.declared.events.End.TheVariants.{Low, High}
use Rattle.shared_graph.specs.Interfaces.{InterfaceView, owner_in}
use Rattle.shared_graph.specs.States.{State, Assigned}
use Rattle.shared_graph.specs.Weights.{final, later_neighbours, least_over}

-- an assigned point, with its time and its ends
abbrev pub assigned_in : List Assigned → ℕ → Option Assigned
assigned_in [] p = None
assigned_in (a ∷ as_) p = if p == a.point then Some a else assigned_in as_ p

-- z counts as assigned, at time 0
abbrev pub is_assigned : State → ℕ → Bool
is_assigned s p = is_some (assigned_in s.assigned p) || (p == 0)

abbrev pub value_in : State → ℕ → Option ℤ
value_in s p = if p == 0 then Some (pos 0) else option_map (λ a. a.value) (assigned_in s.assigned p)

-- the ends of an assigned point's window, widened or not
abbrev pub low_in : State → ℕ → Option ℤ
low_in s p = option_map (λ a. a.lo) (assigned_in s.assigned p)

abbrev pub high_in : State → ℕ → Option ℤ
high_in s p = option_map (λ a. a.hi) (assigned_in s.assigned p)

-- whether the end was widened
abbrev pub end_widened : End → Assigned → Bool
end_widened Low a = a.low_widened
end_widened High a = a.high_widened

abbrev pub is_widened : State → ℕ → End → Bool
is_widened s p end = unwrap_or (option_map (end_widened end) (assigned_in s.assigned p)) false

-- the number on the other side of 0
abbrev pub negated : Option ℤ → Option ℤ
negated o = option_map neg_ℤ o

-- the window of a point: from the greatest value(j) - final(k, j) to the least value(j) + final(j, k), over its later neighbours j
abbrev pub window_low : InterfaceView → State → ℕ → Option ℤ
window_low face s k = negated (least_over (λ j. sum_of (final face s k j) (negated (value_in s j))) (later_neighbours face s k))

abbrev pub window_high : InterfaceView → State → ℕ → Option ℤ
window_high face s k = least_over (λ j. sum_of (value_in s j) (final face s j k)) (later_neighbours face s k)

-- half of a number, rounded down
abbrev pub half_down : ℤ → ℤ
half_down t = int_div_euclid t (pos 2)

-- what each lean takes of a window
abbrev pub chosen : Lean → Option ℤ → Option ℤ → Option ℤ
chosen Early low high = low
chosen Late low high = high
chosen Middle low high = option_map half_down (sum_of low high)

-- the lean of a shared point's owner
abbrev pub lean_in : InterfaceView → ℕ → Lean
lean_in face p = slice_index_or face.leans (unwrap_or (owner_in face p) 0) Early

-- the time of the rule
abbrev pub kept_value : InterfaceView → State → ℕ → Option ℤ
kept_value face s k = chosen (lean_in face k) (window_low face s k) (window_high face s k)

-- the least lo(x) + c over arcs (x, y, c), and the least c - hi(y) over arcs (x, y, c)
abbrev pub least_to : State → ℕ → List Constraint → Option ℤ
least_to s y [] = None
least_to s y (a ∷ arcs) = if a.to.0 == y then lesser (sum_of (low_in s a.from.0) (Some a.bound)) (least_to s y arcs) else least_to s y arcs

abbrev pub least_out : State → ℕ → List Constraint → Option ℤ
least_out s x [] = None
least_out s x (a ∷ arcs) = if a.from.0 == x then lesser (sum_of (negated (high_in s a.to.0)) (Some a.bound)) (least_out s x arcs) else least_out s x arcs

-- the widest ends: high, the least of final(z, y) and lo(x) + c over the external arcs (x, y, c); low, the greatest of -final(x, z) and hi(y) - c
abbrev pub widest_high : InterfaceView → State → ℕ → Option ℤ
widest_high face s y = lesser (final face s 0 y) (least_to s y face.externals)

abbrev pub widest_low : InterfaceView → State → ℕ → Option ℤ
widest_low face s x = negated (lesser (final face s x 0) (least_out s x face.externals))

-- the point with its end moved there
abbrev pub moved : End → Option ℤ → Assigned → Assigned
moved Low to a = record a { lo = unwrap_or to a.lo; low_widened = true }
moved High to a = record a { hi = unwrap_or to a.hi; high_widened = true }

abbrev pub widest : End → InterfaceView → State → ℕ → Option ℤ
widest Low face s p = widest_low face s p
widest High face s p = widest_high face s p

abbrev pub moved_at : ℕ → End → Option ℤ → List Assigned → List Assigned
moved_at p end to [] = []
moved_at p end to (a ∷ as_) = if p == a.point then moved end to a ∷ as_ else a ∷ moved_at p end to as_

-- the assigned points once that end of one of them is widened
abbrev pub widened : InterfaceView → State → ℕ → End → List Assigned
widened face s p end = moved_at p end (widest end face s p) s.assigned
