-- When an entry is illegal: the first test that fails, with its value: not_published, order_open, neighbour_first, negative, not_negative, acts_for,
-- or_else, or_number, first_below, owner_tests, is_that, wrong_value, cause_of, refusal.
use Rattle.std.specs.Prelude.{ℕ, zero, suc, ℤ, Bool, true, false, ◌&&◌, not, ◌==◌, nat_lt, ◌∷◌, length, Option, Some, None, is_some, if◌then◌else◌}
use Rattle.std.specs.Option.{option_map}
use Rattle.std.specs.Ordering.{int_eq}
use Rattle.stn_walk.specs.Eliminations.{is_in}
use Rattle.shared_graph.specs.declared.events.By.{By}
use Rattle.shared_graph.specs.declared.events.By.TheVariants.{Agent, Joiner}
use Rattle.shared_graph.specs.declared.events.Event.{Event}
use Rattle.shared_graph.specs.declared.events.Event.TheVariants.{Publish, Eliminate, Stop, Revisit, Assign, Widen}
use Rattle.shared_graph.specs.declared.events.Entry.{Entry}
use Rattle.shared_graph.specs.declared.events.Illegal.{Illegal}
use Rattle.shared_graph.specs.declared.events.Illegal.TheVariants.{Stopped, NotShared, NotOwner, AlreadyPublished, NotPublished, AlreadyDone}
use Rattle.shared_graph.specs.declared.events.Illegal.TheVariants.{OrderOpen, NeighbourFirst, Negative, NotNegative, WrongValue}
use Rattle.shared_graph.specs.Interfaces.{InterfaceView, points_of, owner_in, is_listed}
use Rattle.shared_graph.specs.States.{State, agent_id, point_id, is_published, is_revisited}
use Rattle.shared_graph.specs.Weights.{first_passing, least_negative, is_later}
use Rattle.shared_graph.specs.Windows.{is_assigned, is_widened, kept_value}

-- the causes with a value, by its number
abbrev pub not_published : ℕ → Illegal
not_published a = NotPublished (agent_id a)

abbrev pub order_open : ℕ → Illegal
order_open p = OrderOpen (point_id p)

abbrev pub neighbour_first : ℕ → Illegal
neighbour_first p = NeighbourFirst (point_id p)

abbrev pub negative : ℕ → Illegal
negative p = Negative (point_id p)

abbrev pub not_negative : ℕ → Illegal
not_negative p = NotNegative (point_id p)

-- whether this maker may act for the agent
abbrev pub acts_for : By → ℕ → Bool
acts_for Joiner agent = true
acts_for (Agent a) agent = a.0 == agent

-- the first of two causes that is there, and the first of two numbers
abbrev pub or_else : Option Illegal → Option Illegal → Option Illegal
or_else None o = o
or_else (Some c) o = Some c

abbrev pub or_number : Option ℕ → Option ℕ → Option ℕ
or_number None o = o
or_number (Some m) o = Some m

-- the least number below n that passes
abbrev pub first_below : (ℕ → Bool) → ℕ → Option ℕ
first_below test zero = None
first_below test (suc n) = or_number (first_below test n) (if test n then Some n else None)

-- the tests of an elimination but for the last, by the point's owner
abbrev pub owner_tests : State → By → ℕ → Option ℕ → Option Illegal
owner_tests s by k None = Some NotShared
owner_tests s by k (Some a) =
    if not (acts_for by a) then Some NotOwner
    else (if not (is_published s a) then Some (not_published a)
    else (if is_in s.order k then Some AlreadyDone
    else None))

-- whether it is this number that is there
abbrev pub is_that : Option ℕ → ℕ → Bool
is_that None i = false
is_that (Some m) i = m == i

-- the value of the rule, where the given one is another
abbrev pub wrong_value : Option ℤ → ℤ → Option Illegal
wrong_value None given = None
wrong_value (Some kept) given = if int_eq kept given then None else Some (WrongValue kept given)

-- the tests of each event, in order; nobody acts for a number past the last agent
abbrev pub cause_of : InterfaceView → State → By → Event → Option Illegal
cause_of face s by (Publish a) =
    if not (acts_for by a.0 && nat_lt a.0 (length face.leans)) then Some NotOwner
    else (if is_published s a.0 then Some AlreadyPublished
    else None)
cause_of face s by (Eliminate k) = or_else (owner_tests s by k.0 (owner_in face k.0)) (option_map negative (least_negative face s k.0))
cause_of face s by (Stop k i) =
    or_else (owner_tests s by k.0 (owner_in face k.0)) (if is_that (least_negative face s k.0) i.0 then None else Some (not_negative i.0))
cause_of face s by (Revisit k) =
    if not (is_listed face k.0) then Some NotShared
    else or_else (option_map not_published (first_below (λ a. not (is_published s a)) (length face.leans)))
    (or_else (option_map order_open (first_passing (λ p. not (is_in s.order p)) (points_of face)))
    (if is_in s.revisited k.0 then Some AlreadyDone
    else option_map neighbour_first (first_passing (λ p. is_later face s k.0 p && not (is_revisited s p)) (0 ∷ points_of face))))
cause_of face s by (Assign k value) =
    if not (is_listed face k.0) then Some NotShared
    else or_else (option_map order_open (first_passing (λ p. not (is_in s.revisited p)) (points_of face)))
    (if is_assigned s k.0 then Some AlreadyDone
    else or_else (option_map neighbour_first (first_passing (λ p. is_later face s k.0 p && not (is_assigned s p)) (0 ∷ points_of face)))
    (wrong_value (kept_value face s k.0) value))
cause_of face s by (Widen k end) =
    if not (is_listed face k.0) then Some NotShared
    else or_else (option_map order_open (first_passing (λ p. not (is_assigned s p)) (points_of face)))
    (if is_widened s k.0 end then Some AlreadyDone else None)

-- the first failed test of an entry, if there is one; nothing is legal after a stop
abbrev pub refusal : InterfaceView → State → Entry → Option Illegal
refusal face s e = if is_some s.stop then Some Stopped else cause_of face s e.by e.event
